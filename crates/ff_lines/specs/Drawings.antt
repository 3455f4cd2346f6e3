-- The drawing of lines. This project's own.
use Rattle.std.specs.Prelude.{◌≡◌, ◌≢◌, ◌⊎◌, ◌↔◌, ℕ, ◌<◌, ◌≤◌, ◌<ℤ◌, List, length, slice_get, Some, Contains}
use Rattle.ff_whole.specs.declared.points.Pt.{Pt}
use Rattle.ff_whole.specs.declared.places.Place.{Place}
use Rattle.ff_whole.specs.Places.{place_of, IsPlace}
use Rattle.ff_whole.specs.Convex.{point_at}
use Rattle.ff_types.specs.declared.patterns.EdgeEnds.{EdgeEnds}
use Rattle.ff_types.specs.declared.patterns.Mark.{Mark}
use Rattle.ff_types.specs.declared.patterns.Pattern.{Pattern}
use Rattle.ff_types.specs.declared.limits.TheConstants.{MOST_VERTICES, MOST_EDGES}
use Rattle.ff_types.specs.declared.refusals.No.{No}
use Rattle.ff_types.specs.declared.refusals.No.TheVariants as no
use Rattle.ff_types.specs.declared.refusals.No.TheVariants.{Refused}
use Rattle.ff_types.specs.declared.refusals.Refusal.TheVariants.{TooMany, OffGrid, Overlap}
use Rattle.ff_types.specs.declared.refusals.What.TheVariants.{Vertices, Edges}
use Rattle.ff_types.specs.Patterns.{edge_at}
use Rattle.ff_types.specs.Faces.{mark_at}
use Rattle.ff_lines.specs.declared.items.LineItem.{LineItem}
use Rattle.ff_lines.specs.Lines.{LiesOn, IsOnLine, IsOnlyCommon, AreLines, NoneStops, NoneBefore, OffGridAt, OverlapAt}

-- an end of a line
abbrev pub IsEndOf : List LineItem → Pt → Type 0
IsEndOf lines v = (i : ℕ) × (l : LineItem) × (slice_get lines i ≡ Some l) × ((v ≡ l.p) ⊎ (v ≡ l.q))

-- the only common point of two lines
abbrev pub IsCrossingOf : List LineItem → Pt → Type 0
IsCrossingOf lines v = (i j : ℕ) × (k l : LineItem) × AreLines lines i j k l × IsOnlyCommon k l (place_of v)

abbrev pub IsVertexOf : List LineItem → Pt → Type 0
IsVertexOf lines v = IsEndOf lines v ⊎ IsCrossingOf lines v

-- two vertices of one line with this letter, and no vertex strictly between them
pub record IsPiece (lines : List LineItem) (mark : Mark) (a b : Pt) : Type 0 where
  pub a_vertex : IsVertexOf lines a
  pub b_vertex : IsVertexOf lines b
  pub differ : a ≢ b
  pub number : ℕ
  pub line : LineItem
  pub there : slice_get lines number ≡ Some line
  pub letter : line.mark ≡ mark
  pub a_on : IsOnLine line (place_of a)
  pub b_on : IsOnLine line (place_of b)
  pub none : (v : Pt) → IsVertexOf lines v → LiesOn a b (place_of v) → (v ≡ a) ⊎ (v ≡ b)

-- in order of x and then of y
abbrev pub IsBefore : Pt → Pt → Type 0
IsBefore p q = (p.x <ℤ q.x) ⊎ ((p.x ≡ q.x) × (p.y <ℤ q.y))

-- each of the points comes before the later ones
abbrev pub Rise : List Pt → Type 0
Rise points = (i j : ℕ) → i < j → j < length points → IsBefore (point_at points i) (point_at points j)

-- the edges are in order of the first end and then of the second
abbrev pub EdgesRise : List EdgeEnds → Type 0
EdgesRise edges = (e k : ℕ) → e < k → k < length edges → ((edge_at edges e).a < (edge_at edges k).a)
    ⊎ (((edge_at edges e).a ≡ (edge_at edges k).a) × ((edge_at edges e).b < (edge_at edges k).b))

-- the points are the vertices, in order
pub record AreVertices (lines : List LineItem) (points : List Pt) : Type 0 where
  pub vertices : (v : Pt) → Contains points v ↔ IsVertexOf lines v
  pub rise : Rise points

-- the points with the numbers a and b, the lesser first, are the ends of a piece with this letter
abbrev pub IsPieceAt : List LineItem → List Pt → Mark → ℕ → ℕ → Type 0
IsPieceAt lines points mark a b = (a < b) × (b < length points) × IsPiece lines mark (point_at points a) (point_at points b)

-- some edge joins a and b and has this letter
abbrev pub HasEdge : List EdgeEnds → List Mark → Mark → ℕ → ℕ → Type 0
HasEdge edges marks mark a b = (e : ℕ) × (slice_get edges e ≡ Some (record { a = a; b = b })) × (slice_get marks e ≡ Some mark)

-- the edges are the pieces, each with its letter, the lesser vertex first, in order
pub record AreEdges (lines : List LineItem) (points : List Pt) (edges : List EdgeEnds) (marks : List Mark) : Type 0 where
  pub as_many : length marks ≡ length edges
  pub pieces : (a b : ℕ) (mark : Mark) → IsPieceAt lines points mark a b ↔ HasEdge edges marks mark a b
  pub rise : EdgesRise edges

-- the vertices and the edges, in order
pub record IsDrawingOf (lines : List LineItem) (points : List Pt) (edges : List EdgeEnds) (marks : List Mark) : Type 0 where
  pub are_vertices : AreVertices lines points
  pub are_edges : AreEdges lines points edges marks

-- for each letter, a place is on an edge with it exactly where it is on a line with it
abbrev pub HaveSameLetters : List LineItem → List Pt → List EdgeEnds → List Mark → Type 0
HaveSameLetters lines points edges marks = (mark : Mark) (s : Place) → IsPlace s
    → ((e : ℕ) × (e < length edges) × (mark_at marks e ≡ mark) × LiesOn (point_at points (edge_at edges e).a) (point_at points (edge_at edges e).b) s)
    ↔ ((i : ℕ) × (l : LineItem) × (slice_get lines i ≡ Some l) × (l.mark ≡ mark) × IsOnLine l s)

-- ---- what is drawn, and why nothing is

-- no pair of lines stops, and the pattern is the drawing of the lines
pub record IsDrawn (lines : List LineItem) (pattern : Pattern) : Type 0 where
  pub none : NoneStops lines
  pub marks : List Mark
  pub marked : pattern.marks ≡ Some marks
  pub drawing : IsDrawingOf lines pattern.points pattern.edges marks

-- the drawing has more vertices than the limit
pub record HasManyVertices (lines : List LineItem) : Type 0 where
  pub points : List Pt
  pub vertices : (v : Pt) → Contains points v → IsVertexOf lines v
  pub rise : Rise points
  pub many : MOST_VERTICES < length points

-- it has few enough, and more edges than the limit
pub record HasManyEdges (lines : List LineItem) : Type 0 where
  pub points : List Pt
  pub edges : List EdgeEnds
  pub marks : List Mark
  pub drawing : IsDrawingOf lines points edges marks
  pub few : length points ≤ MOST_VERTICES
  pub many : MOST_EDGES < length edges

-- Why lines aren't drawn: the first pair that stops, else too many vertices, else too many edges; or no memory.
abbrev pub WhyNotDrawn : List LineItem → No → Type 0
WhyNotDrawn lines (Refused (OffGrid i j)) = OffGridAt lines i j × NoneBefore lines i j
WhyNotDrawn lines (Refused (Overlap i j)) = OverlapAt lines i j × NoneBefore lines i j
WhyNotDrawn lines (Refused (TooMany Vertices limit)) = NoneStops lines × HasManyVertices lines × (limit ≡ MOST_VERTICES)
WhyNotDrawn lines (Refused (TooMany Edges limit)) = NoneStops lines × HasManyEdges lines × (limit ≡ MOST_EDGES)
WhyNotDrawn lines (Refused r) = ⊥
WhyNotDrawn lines no.NoMemory = Unit {0}

-- The faces of a drawing: convex rings that cover one sheet, in one piece and without a hole.
-- FOLD's faces; the order in which they are numbered is this project's own.
use Rattle.std.specs.Prelude.{◌≡◌, ℕ, ◌<◌, ◌≤◌, ◌==◌, ◌⊎◌, ◌&&◌, ◌||◌, pos, ◌≤ℤ◌, Bool, true, false, List, [], ◌∷◌, length, slice_index_or, nat_lt, IsTrue, Option, Some, None}
use Rattle.ff_whole.specs.declared.points.Pt.{Pt}
use Rattle.ff_types.specs.declared.patterns.EdgeEnds.{EdgeEnds}
use Rattle.ff_types.specs.declared.patterns.Mark.{Mark}
use Rattle.ff_types.specs.declared.patterns.Mark.TheVariants.{B}
use Rattle.ff_types.specs.Patterns.{edge_at}
use Rattle.ff_types.specs.Drawings.{joined}
use Rattle.ff_types.specs.Rings.{corner, after, Goes, IsRing}
use Rattle.ff_types.specs.Areas.{area}

-- the ring of a face, whose number is to be below the length
abbrev pub ring_at : List (List ℕ) → ℕ → List ℕ
ring_at rings f = slice_index_or rings f []

-- some ring goes from u to v
abbrev pub Belongs : List (List ℕ) → ℕ → ℕ → Type 0
Belongs rings u v = (f : ℕ) × (f < length rings) × Goes (ring_at rings f) u v

-- the faces f and g share an edge, from its two sides
abbrev pub Share : List (List ℕ) → ℕ → ℕ → Type 0
Share rings f g = (u v : ℕ) × Goes (ring_at rings f) u v × Goes (ring_at rings g) v u

-- the faces of the list lead from f to g, each sharing an edge with the next
abbrev pub IsChain : List (List ℕ) → ℕ → List ℕ → ℕ → Type 0
IsChain rings f [] g = f ≡ g
IsChain rings f (h ∷ rest) g = (h < length rings) × Share rings f h × IsChain rings h rest g

-- one face is joined to the other by a chain of faces that share edges
abbrev pub AreChained : List (List ℕ) → ℕ → ℕ → Type 0
AreChained rings f g = (chain : List ℕ) × IsChain rings f chain g

-- an edge's side in no ring, as the directed edge with that side on its left
pub record IsOuter (edges : List EdgeEnds) (rings : List (List ℕ)) (u v : ℕ) : Type 0 where
  pub edge : IsTrue (joined edges u v)
  pub none : Belongs rings u v → ⊥

-- a closed walk along such directed edges, round the sheet or round a hole
pub record IsOuterWalk (edges : List EdgeEnds) (rings : List (List ℕ)) (walk : List ℕ) : Type 0 where
  pub some : 0 < length walk
  pub steps : (i : ℕ) → i < length walk → IsOuter edges rings (corner walk i) (after walk i)

-- lists of numbers in dictionary order, a front before what it is a front of
abbrev pub list_before : List ℕ → List ℕ → Bool
list_before [] [] = false
list_before [] (y ∷ ys) = true
list_before (x ∷ xs) [] = false
list_before (x ∷ xs) (y ∷ ys) = nat_lt x y || ((x == y) && list_before xs ys)

-- the mark of an edge, whose number is to be below the length
abbrev pub mark_at : List Mark → ℕ → Mark
mark_at marks e = slice_index_or marks e B

-- a border edge has one side in a ring, any other has both
abbrev pub FitsMark : List (List ℕ) → EdgeEnds → Mark → Type 0
FitsMark rings e B = (Belongs rings e.a e.b × (Belongs rings e.b e.a → ⊥))
    ⊎ ((Belongs rings e.a e.b → ⊥) × Belongs rings e.b e.a)
FitsMark rings e _ = Belongs rings e.a e.b × Belongs rings e.b e.a

-- where marks are absent, each edge has at least one side in a ring
abbrev pub FitMarks : List EdgeEnds → List (List ℕ) → Option (List Mark) → Type 0
FitMarks edges rings (Some marks) = (e : ℕ) → e < length edges
    → FitsMark rings (edge_at edges e) (mark_at marks e)
FitMarks edges rings None = (e : ℕ) → e < length edges → Belongs rings (edge_at edges e).a (edge_at edges e).b
    ⊎ Belongs rings (edge_at edges e).b (edge_at edges e).a

-- The rings are the faces of the drawing. A drawing has at most one such list.
pub record AreRings (points : List Pt) (edges : List EdgeEnds) (marks : Option (List Mark))
    (rings : List (List ℕ)) : Type 0 where
  pub each : (f : ℕ) → f < length rings → IsRing points edges (ring_at rings f)
  -- each side of an edge belongs to at most one ring
  pub one : (f g u v : ℕ) → f < length rings → g < length rings → Goes (ring_at rings f) u v
      → Goes (ring_at rings g) u v → f ≡ g
  pub fit : FitMarks edges rings marks
  -- the sheet is in one piece: a chain of rings joins any two
  pub chained : (f g : ℕ) → f < length rings → g < length rings → AreChained rings f g
  -- at most one outer directed edge leaves each vertex
  pub leaves : (u v w : ℕ) → IsOuter edges rings u v → IsOuter edges rings u w → v ≡ w
  -- no walk along them goes round a hole: the area isn't positive
  pub no_hole : (walk : List ℕ) → IsOuterWalk edges rings walk → area points walk ≤ℤ pos 0
  -- each ring begins with its least vertex, and the rings are sorted as lists
  pub least : (f i : ℕ) → f < length rings → i < length (ring_at rings f)
      → corner (ring_at rings f) 0 ≤ corner (ring_at rings f) i
  pub sorted : (f g : ℕ) → f < g → g < length rings → IsTrue (list_before (ring_at rings f) (ring_at rings g))

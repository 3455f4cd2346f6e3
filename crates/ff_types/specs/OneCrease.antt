-- A sheet with one crease: a convex ring whose edges are border edges, and one more edge across it. This project's own.
use Rattle.std.specs.Prelude.{◌≡◌, ◌≢◌, ℕ, zero, suc, ◌+◌, ◌-◌, ◌<◌, ◌⊎◌, ◌==◌, ◌&&◌, ℤ, pos, ◌<ℤ◌, Bool, not, List, [], ◌∷◌, ◌++◌, length, Some}
use Rattle.std.specs.List.{range_with_len}
use Rattle.ff_whole.specs.declared.points.Pt.{Pt}
use Rattle.ff_whole.specs.Points.{turn}
use Rattle.ff_whole.specs.Convex.{point_at}
use Rattle.ff_types.specs.declared.patterns.EdgeEnds.{EdgeEnds}
use Rattle.ff_types.specs.declared.patterns.Mark.{Mark}
use Rattle.ff_types.specs.declared.patterns.Mark.TheVariants.{B}
use Rattle.ff_types.specs.Drawings.{IsDrawing}
use Rattle.ff_types.specs.Faces.{mark_at, AreRings}
use Rattle.ff_types.specs.Foldings.{IsFolding}
use Rattle.ff_types.specs.Sheets.{Sheet, lies_up}
use Rattle.ff_types.specs.Inside.{Overlap}
use Rattle.ff_types.specs.Crossings.{IsGeometricStacking}
use Rattle.ff_types.specs.PlainSheets.{IsPlainRing}

-- the corners from i on to j
abbrev pub inner : ℕ → ℕ → List ℕ
inner i j = range_with_len i (j + 1 - i)

-- those of n corners from 0 on to i, and from j on to the last
abbrev pub outer : ℕ → ℕ → ℕ → List ℕ
outer n i j = range_with_len 0 (i + 1) ++ range_with_len j (n - j)

-- the two rings, the lesser first
abbrev pub creased : ℕ → ℕ → ℕ → List (List ℕ)
creased n zero j = inner zero j ∷ outer n zero j ∷ []
creased n (suc i) j = outer n (suc i) j ∷ inner (suc i) j ∷ []

-- The edge joins the corners i and j of the ring, in either direction. A corner between them lies strictly right of
-- the line from i to j, and some corner strictly left.
pub record CutsAcross (points : List Pt) (c : EdgeEnds) (i j : ℕ) : Type 0 where
  pub joins : (c ≡ record { a = i; b = j }) ⊎ (c ≡ record { a = j; b = i })
  pub later : i < j
  pub there : j < length points
  pub right : (m : ℕ) × (i < m) × (m < j) × (turn (point_at points i) (point_at points j) (point_at points m) <ℤ pos 0)
  pub left : (o : ℕ) × (o < length points) × (pos 0 <ℤ turn (point_at points i) (point_at points j) (point_at points o))

-- a plain ring, and one more edge across it
pub record IsCreasedRing (points : List Pt) (edges : List EdgeEnds) (c : EdgeEnds) (i j : ℕ) : Type 0 where
  pub ring : IsPlainRing points edges
  pub crease : CutsAcross points c i j

-- all edges are border edges but the last of n + 1
pub record AreCreased (n : ℕ) (marks : List Mark) : Type 0 where
  pub as_many : length marks ≡ n + 1
  pub border : (e : ℕ) → e < n → mark_at marks e ≡ B
  pub crease : mark_at marks n ≢ B

-- a creased ring is a drawing
abbrev pub CreasedRingsAreDrawings : Type 0
CreasedRingsAreDrawings = (points : List Pt) (edges : List EdgeEnds) (c : EdgeEnds) (i j : ℕ)
    → IsCreasedRing points edges c i j → IsDrawing points (edges ++ c ∷ [])

-- it has the two faces on the two sides of the crease
abbrev pub CreasedRingsHaveTwoFaces : Type 0
CreasedRingsHaveTwoFaces = (points : List Pt) (edges : List EdgeEnds) (c : EdgeEnds) (i j : ℕ) (marks : List Mark)
    → IsCreasedRing points edges c i j → AreCreased (length points) marks
    → AreRings points (edges ++ c ∷ []) (Some marks) (creased (length points) i j)

-- the sheet of a creased ring, folded at a scale
pub record IsCreasedSheet (points : List Pt) (edges : List EdgeEnds) (c : EdgeEnds) (i j : ℕ) (scale : ℤ) (g : Sheet) : Type 0 where
  pub ring : IsCreasedRing points edges c i j
  pub rings : g.rings ≡ creased (length points) i j
  pub folding : IsFolding points (creased (length points) i j) g.sides g.marks scale g.images g.up

-- where its faces lie differently, the one up and the other down, they overlap
abbrev pub FoldedFacesOverlap : Type 0
FoldedFacesOverlap = (points : List Pt) (edges : List EdgeEnds) (c : EdgeEnds) (i j : ℕ) (scale : ℤ) (g : Sheet)
    → IsCreasedSheet points edges c i j scale g → lies_up g 1 ≡ not (lies_up g 0) → Overlap g 0 1

-- where they lie alike, beside a flat crease, they don't
abbrev pub FlatFacesLieApart : Type 0
FlatFacesLieApart = (points : List Pt) (edges : List EdgeEnds) (c : EdgeEnds) (i j : ℕ) (scale : ℤ) (g : Sheet)
    → IsCreasedSheet points edges c i j scale g → lies_up g 1 ≡ lies_up g 0 → Overlap g 0 1 → ⊥

-- face x above face y, and no other pair
abbrev pub one_pair : ℕ → ℕ → ℕ → ℕ → Bool
one_pair x y f h = (f == x) && (h == y)

-- two faces that overlap have exactly two geometric stackings: the one above the other, or the other above the one
abbrev pub TwoFacesStackTwice : Type 0
TwoFacesStackTwice = (g : Sheet) → length g.rings ≡ 2 → Overlap g 0 1
    → IsGeometricStacking g (one_pair 1 0) × IsGeometricStacking g (one_pair 0 1)
    × ((above : ℕ → ℕ → Bool) → IsGeometricStacking g above
    → ((f h : ℕ) → above f h ≡ one_pair 1 0 f h) ⊎ ((f h : ℕ) → above f h ≡ one_pair 0 1 f h))

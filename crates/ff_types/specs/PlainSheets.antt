-- A plain sheet: a convex ring of points whose edges are all border edges. This project's own.
use Rattle.std.specs.Prelude.{◌≡◌, ℕ, ◌<◌, ◌≤◌, pos, Bool, true, false, List, [], ◌∷◌, length, Some, None}
use Rattle.std.specs.List.{All, range_with_len}
use Rattle.ff_whole.specs.declared.points.Pt.{Pt}
use Rattle.ff_whole.specs.Points.{IsNear}
use Rattle.ff_whole.specs.Convex.{next, AreApart, IsConvex}
use Rattle.ff_types.specs.declared.patterns.EdgeEnds.{EdgeEnds}
use Rattle.ff_types.specs.declared.patterns.Mark.{Mark}
use Rattle.ff_types.specs.declared.patterns.Mark.TheVariants.{B}
use Rattle.ff_types.specs.declared.faces.EdgeSides.{EdgeSides}
use Rattle.ff_types.specs.Patterns.{edge_at}
use Rattle.ff_types.specs.Drawings.{IsDrawing}
use Rattle.ff_types.specs.Faces.{mark_at}
use Rattle.ff_types.specs.Sides.{sides_at, AreFaces}
use Rattle.ff_types.specs.Foldings.{IsFolding}
use Rattle.ff_types.specs.Sheets.{Sheet}
use Rattle.ff_types.specs.Crossings.{IsGeometricStacking}

-- the edges join each of n vertices to the next
pub record IsCycle (n : ℕ) (edges : List EdgeEnds) : Type 0 where
  pub as_many : length edges ≡ n
  pub joined : (i : ℕ) → i < n → edge_at edges i ≡ record { a = i; b = next n i }

-- all vertices in order
abbrev pub whole : ℕ → List ℕ
whole n = range_with_len 0 n

-- a convex ring of at least three different points within the limit, each joined to the next
pub record IsPlainRing (points : List Pt) (edges : List EdgeEnds) : Type 0 where
  pub near : All IsNear points
  pub apart : AreApart points
  pub convex : IsConvex points
  pub enough : 3 ≤ length points
  pub cycle : IsCycle (length points) edges

-- such a ring whose edges are all border edges, each with face 0 on its left and none on its right
pub record IsPlainSheet (points : List Pt) (edges : List EdgeEnds) (marks : List Mark) (sides : List EdgeSides) : Type 0 where
  pub ring : IsPlainRing points edges
  pub as_many_marks : length marks ≡ length points
  pub border : (e : ℕ) → e < length points → mark_at marks e ≡ B
  pub as_many_sides : length sides ≡ length points
  pub inward : (e : ℕ) → e < length points → sides_at sides e ≡ record { left = Some 0; right = None }

-- the empty set of pairs
abbrev pub no_pairs : ℕ → ℕ → Bool
no_pairs f h = false

-- a plain ring is a drawing
abbrev pub PlainRingsAreDrawings : Type 0
PlainRingsAreDrawings = (points : List Pt) (edges : List EdgeEnds) → IsPlainRing points edges → IsDrawing points edges

-- a plain sheet has the one face of all its vertices
abbrev pub PlainSheetsHaveOneFace : Type 0
PlainSheetsHaveOneFace = (points : List Pt) (edges : List EdgeEnds) (marks : List Mark) (sides : List EdgeSides)
    → IsPlainSheet points edges marks sides → AreFaces points edges (Some marks) (whole (length points) ∷ []) sides marks

-- it folds to itself, at scale 1
abbrev pub PlainSheetsFoldToThemselves : Type 0
PlainSheetsFoldToThemselves = (points : List Pt) (edges : List EdgeEnds) (marks : List Mark) (sides : List EdgeSides)
    → IsPlainSheet points edges marks sides
    → IsFolding points (whole (length points) ∷ []) sides marks (pos 1) points (true ∷ [])

-- the empty set is the one geometric stacking of a sheet with one face
abbrev pub OneFaceStacksAlone : Type 0
OneFaceStacksAlone = (g : Sheet) → length g.rings ≡ 1 → IsGeometricStacking g no_pairs
    × ((above : ℕ → ℕ → Bool) → IsGeometricStacking g above → (f h : ℕ) → above f h ≡ false)

-- What lies on the two sides of each edge: a ring, by its number, or the outside.
-- For the proofs of this crate alone.
use Rattle.std.specs.Prelude.{◌≡◌, ℕ, ◌<◌, List, length, Option, Some, None}
use Rattle.ff_whole.specs.declared.points.Pt.{Pt}
use Rattle.ff_types.specs.declared.patterns.EdgeEnds.{EdgeEnds}
use Rattle.ff_types.specs.declared.patterns.Mark.{Mark}
use Rattle.ff_types.specs.declared.patterns.Mark.TheVariants.{B}
use Rattle.ff_types.specs.declared.faces.EdgeSides.{EdgeSides}
use Rattle.ff_types.specs.Patterns.{edge_at}
use Rattle.ff_types.specs.Rings.{Goes}
use Rattle.ff_types.specs.Faces.{ring_at, mark_at}
use Rattle.ff_types.specs.Sides.{sides_at}
use Rattle.ff_types.specs.Walks.{IsOuterSide}

-- the side of a directed edge: a face whose ring goes along it, or the outside
abbrev pub IsSeenOf : List Pt → List EdgeEnds → List (List ℕ) → ℕ → ℕ → Option ℕ → Type 0
IsSeenOf points edges rings u v (Some f) = (f < length rings) × Goes (ring_at rings f) u v
IsSeenOf points edges rings u v None = IsOuterSide points edges u v

-- both sides of an edge
pub record AreSeen (points : List Pt) (edges : List EdgeEnds) (rings : List (List ℕ)) (e : EdgeEnds) (sides : EdgeSides) : Type 0 where
  pub left : IsSeenOf points edges rings e.a e.b sides.left
  pub right : IsSeenOf points edges rings e.b e.a sides.right

-- the sides of all edges
pub record AreAllSeen (points : List Pt) (edges : List EdgeEnds) (rings : List (List ℕ)) (sides : List EdgeSides) : Type 0 where
  pub as_many : length sides ≡ length edges
  pub each : (e : ℕ) → e < length edges → AreSeen points edges rings (edge_at edges e) (sides_at sides e)

-- the mark of an edge, where there are marks
abbrev pub given_mark : Option (List Mark) → ℕ → Option Mark
given_mark (Some marks) e = Some (mark_at marks e)
given_mark None e = None

-- the sides of an edge don't fit a sheet, or its mark doesn't fit them
abbrev pub IsUnfit : Option Mark → Option ℕ → Option ℕ → Type 0
IsUnfit mark None None = Unit {0}
IsUnfit (Some B) (Some f) (Some g) = Unit {0}
IsUnfit mark (Some f) (Some g) = ⊥
IsUnfit None left right = ⊥
IsUnfit (Some B) left right = ⊥
IsUnfit (Some mark) left right = Unit {0}

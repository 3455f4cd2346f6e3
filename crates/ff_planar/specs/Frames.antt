-- How far vertices and rings reach, and that no vertex is inside a ring.
-- For the proofs of this crate alone.
use Rattle.std.specs.Prelude.{◌≡◌, ℕ, ◌<◌, ◌≤◌, ◌≤ℤ◌, List, length}
use Rattle.ff_whole.specs.declared.points.Pt.{Pt}
use Rattle.ff_whole.specs.Points.{IsNear}
use Rattle.ff_whole.specs.Convex.{point_at}
use Rattle.ff_types.specs.Rings.{corner}
use Rattle.ff_types.specs.Faces.{ring_at}
use Rattle.ff_drawn.specs.declared.extents.Extent.{Extent}
use Rattle.ff_planar.specs.Reflex.{IsInside}
use Rattle.ff_drawn.specs.Extents.{extent_at, IsAround}

-- the first n corners of a ring are within the extent
pub record IsAroundCorners (points : List Pt) (ring : List ℕ) (n : ℕ) (e : Extent) : Type 0 where
  pub low_near : IsNear e.low
  pub high_near : IsNear e.high
  pub around : (k : ℕ) → k < n → IsAround (point_at points (corner ring k)) e

-- the extent has all corners of its ring
pub record IsRingExtent (points : List Pt) (rings : List (List ℕ)) (e : Extent) : Type 0 where
  pub there : e.number < length rings
  pub corners : IsAroundCorners points (ring_at rings e.number) (length (ring_at rings e.number)) e

-- one extent for each ring
pub record AreRingExtents (points : List Pt) (rings : List (List ℕ)) (list : List Extent) : Type 0 where
  pub each : (i : ℕ) → i < length list → IsRingExtent points rings (extent_at list i)
  pub all : (f : ℕ) → f < length rings → (i : ℕ) × (i < length list) × ((extent_at list i).number ≡ f)

-- no ring is empty
abbrev pub AreSome : List (List ℕ) → Type 0
AreSome rings = (f : ℕ) → f < length rings → 0 < length (ring_at rings f)

-- the vertices at the places before n aren't east of the ring's west end
abbrev pub AreWest : List Extent → Extent → ℕ → Type 0
AreWest spots frame n = (j : ℕ) → j < n → (extent_at spots j).low.x ≤ℤ frame.low.x

-- the vertices at the places from start to n aren't inside the ring
abbrev pub HoldsNone : List Pt → List ℕ → List Extent → ℕ → ℕ → Type 0
HoldsNone points ring spots start n = (j : ℕ) → start ≤ j → j < n → IsInside points ring (extent_at spots j).number → ⊥

-- the rings at the places before n have no vertex inside
abbrev pub AreHollow : List Pt → List (List ℕ) → List Extent → List Extent → ℕ → Type 0
AreHollow points rings spots frames n = (i : ℕ) → i < n → HoldsNone points (ring_at rings (extent_at frames i).number) spots 0 (length spots)

-- no vertex is inside a ring
abbrev pub NoneInside : List Pt → List (List ℕ) → Type 0
NoneInside points rings = (f v : ℕ) → f < length rings → v < length points → IsInside points (ring_at rings f) v → ⊥

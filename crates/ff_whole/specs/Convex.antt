-- Convex rings of points; elementary.
use Rattle.std.specs.Prelude.{◌≡◌, ℕ, ◌+◌, ◌<◌, ℤ, pos, ◌<ℤ◌, ◌≤ℤ◌, List, length, slice_index_or, nat_lt, if◌then◌else◌}
use Rattle.ff_whole.specs.declared.points.Pt.{Pt}
use Rattle.ff_whole.specs.Points.{turn, origin}

-- the place after i in a closed list of length n
abbrev pub next : ℕ → ℕ → ℕ
next n i = if nat_lt (i + 1) n then i + 1 else 0

-- the point at a place, which is to be below the length
abbrev pub point_at : List Pt → ℕ → Pt
point_at points i = slice_index_or points i origin

-- no two of the points are one
pub record AreApart (points : List Pt) : Type 0 where
  pub differ : (i j : ℕ) → i < length points → j < length points → point_at points i ≡ point_at points j → i ≡ j

-- how far left of the line from the point at i to the next one a point is
abbrev pub left_of : List Pt → ℕ → Pt → ℤ
left_of points i p = turn (point_at points i) (point_at points (next (length points) i)) p

-- The points are the corners of a convex ring in counterclockwise order. Corners of 180 degrees are allowed.
pub record IsConvex (points : List Pt) : Type 0 where
  pub some : 0 < length points
  -- each point is on or left of each directed edge
  pub left : (i j : ℕ) → i < length points → j < length points → pos 0 ≤ℤ left_of points i (point_at points j)
  -- not all are on one edge's line
  pub wide : (i : ℕ) → i < length points → (j : ℕ) × (j < length points) × (pos 0 <ℤ left_of points i (point_at points j))

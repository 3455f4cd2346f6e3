-- The test of a ring of points one place at a time.
use Rattle.std.specs.Prelude.{◌≡◌, ℕ, ◌+◌, ◌<◌, ℤ, pos, ◌+ℤ◌, ◌*ℤ◌, ◌<ℤ◌, ◌≤ℤ◌, List, length}
use Rattle.ff_whole.specs.declared.points.Pt.{Pt}
use Rattle.ff_whole.specs.declared.sizes.TheConstants.{POINT_SIZE}
use Rattle.ff_whole.specs.Convex.{next, point_at, left_of}

-- a number by which near points stand in the order of x, and then of y
abbrev pub rank : Pt → ℤ
rank p = pos (POINT_SIZE + POINT_SIZE) *ℤ p.x +ℤ p.y

-- At the place after i the ring goes straight or turns left. At the first place it turns left, and only there may both
-- neighbours have greater ranks.
pub record IsCorner (points : List Pt) (first i : ℕ) : Type 0 where
  pub left : pos 0 ≤ℤ left_of points i (point_at points (next (length points) (next (length points) i)))
  pub sharp : next (length points) i ≡ first → pos 0 <ℤ left_of points i (point_at points (next (length points) (next (length points) i)))
  pub lone : rank (point_at points (next (length points) i)) <ℤ rank (point_at points i)
      → rank (point_at points (next (length points) i)) <ℤ rank (point_at points (next (length points) (next (length points) i)))
      → next (length points) i ≡ first

-- so it is at every place
pub record AreCorners (points : List Pt) (first : ℕ) : Type 0 where
  pub corner : (i : ℕ) → i < length points → IsCorner points first i

-- Points with whole coordinates, and on which side of a line they lie; elementary.
use Rattle.std.specs.Prelude.{ℕ, ℤ, pos, ◌+ℤ◌, ◌-ℤ◌, ◌*ℤ◌}
use Rattle.ff_whole.specs.Sizes.{IsBelow}
use Rattle.ff_whole.specs.declared.points.Pt.{Pt}
use Rattle.ff_whole.specs.declared.sizes.TheConstants.{POINT_SIZE}

-- both coordinates are within the limit
pub record IsNear (p : Pt) : Type 0 where
  pub x_below : IsBelow POINT_SIZE p.x
  pub y_below : IsBelow POINT_SIZE p.y

-- the point 0,0
abbrev pub origin : Pt
origin = record { x = pos 0; y = pos 0 }

-- the direction to q from p
abbrev pub minus : Pt → Pt → Pt
minus q p = record { x = q.x -ℤ p.x; y = q.y -ℤ p.y }

-- the dot product
abbrev pub dot : Pt → Pt → ℤ
dot u v = (u.x *ℤ v.x) +ℤ (u.y *ℤ v.y)

-- positive exactly where v is to the left of u
abbrev pub cross : Pt → Pt → ℤ
cross u v = (u.x *ℤ v.y) -ℤ (u.y *ℤ v.x)

-- twice the signed area of the triangle p q r: positive exactly where r is left of the line from p to q
abbrev pub turn : Pt → Pt → Pt → ℤ
turn p q r = cross (minus q p) (minus r p)

-- s times p and t times q: the point (s p + t q) / (s + t) of the segment, times s + t
abbrev pub mix : ℕ → Pt → ℕ → Pt → Pt
mix s p t q = record { x = (pos s *ℤ p.x) +ℤ (pos t *ℤ q.x); y = (pos s *ℤ p.y) +ℤ (pos t *ℤ q.y) }

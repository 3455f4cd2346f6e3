-- The size of a whole number, and the sizes of the numbers of lines and places; the limits are this project's own.
use Rattle.std.specs.Prelude.{ℕ, ◌<◌, ℤ, pos, ◌<ℤ◌, ◌≢◌, ◌⊎◌, unsigned_abs}
use Rattle.ff_whole.specs.declared.lines.Line.{Line}
use Rattle.ff_whole.specs.declared.places.Place.{Place}
use Rattle.ff_whole.specs.declared.sizes.TheConstants.{SLOPE_SIZE, OFFSET_SIZE, MEET_SIZE, MEET_WEIGHT, PLACE_SIZE, PLACE_WEIGHT}

-- z is below m in size. A record, so that m and z can be read off a proof
pub record IsBelow (m : ℕ) (z : ℤ) : Type 0 where
  pub below : unsigned_abs z < m

-- a line with numbers such as a line through two near points has
pub record IsLine (l : Line) : Type 0 where
  pub a_below : IsBelow SLOPE_SIZE l.a
  pub b_below : IsBelow SLOPE_SIZE l.b
  pub c_below : IsBelow OFFSET_SIZE l.c
  pub direction : (l.a ≢ pos 0) ⊎ (l.b ≢ pos 0)

-- a near point, or a place with numbers such as the place where two such lines meet has
pub record IsMeetPlace (s : Place) : Type 0 where
  pub x_below : IsBelow MEET_SIZE s.x
  pub y_below : IsBelow MEET_SIZE s.y
  pub w_below : IsBelow MEET_WEIGHT s.w
  pub positive : pos 0 <ℤ s.w

-- a place whose side may be asked
pub record IsSmallPlace (s : Place) : Type 0 where
  pub x_below : IsBelow PLACE_SIZE s.x
  pub y_below : IsBelow PLACE_SIZE s.y
  pub w_below : IsBelow PLACE_WEIGHT s.w
  pub positive : pos 0 <ℤ s.w

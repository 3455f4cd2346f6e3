-- The orders of places by x, and of lines by height at two places.
-- For the proofs of this crate alone.
use Rattle.std.specs.Prelude.{pos, ◌*ℤ◌, ◌<ℤ◌, Bool}
use Rattle.std.specs.declared.cmp.Ordering.{Ordering}
use Rattle.std.specs.Ordering.{int_cmp, is_lt, ordering_then}
use Rattle.ff_whole.specs.Sizes.{IsBelow}
use Rattle.ff_whole.specs.Meeting.{rise}
use Rattle.ff_whole.specs.declared.sizes.TheConstants.{SLOPE_SIZE, OFFSET_SIZE}
use Rattle.ff_whole.specs.declared.lines.Line.{Line}
use Rattle.ff_whole.specs.declared.places.Place.{Place}

-- how p lies to q from left to right
abbrev pub x_cmp : Place → Place → Ordering
x_cmp p q = int_cmp (p.x *ℤ q.w) (q.x *ℤ p.w)

-- the place is west of the other
abbrev pub x_before : Place → Place → Bool
x_before p q = is_lt (x_cmp p q)

-- how lines with b above 0 lie from below to above at the x of a place
abbrev pub rise_cmp : Place → Line → Line → Ordering
rise_cmp at k l = int_cmp (rise k at *ℤ l.b) (rise l at *ℤ k.b)

-- at the first place, then at the second
abbrev pub low_cmp : Place → Place → Line → Line → Ordering
low_cmp left right k l = ordering_then (rise_cmp left k l) (rise_cmp right k l)

-- the one line is below the other between the borders
abbrev pub is_lower : Place → Place → Line → Line → Bool
is_lower left right k l = is_lt (low_cmp left right k l)

-- a line whose b is above 0, so that heights over it are above it
pub record IsRising (l : Line) : Type 0 where
  pub a_below : IsBelow SLOPE_SIZE l.a
  pub b_below : IsBelow SLOPE_SIZE l.b
  pub c_below : IsBelow OFFSET_SIZE l.c
  pub rises : pos 0 <ℤ l.b

-- How bars lie from below to above just right of a place: by height there, then by slope.
-- For the proofs of this crate alone.
use Rattle.std.specs.Prelude.{◌≡◌, ◌⊎◌, pos, ◌*ℤ◌, ◌<ℤ◌, ◌≤ℤ◌, neg_ℤ, Bool}
use Rattle.std.specs.declared.cmp.Ordering.{Ordering}
use Rattle.std.specs.Ordering.{int_cmp, is_lt, ordering_then}
use Rattle.ff_whole.specs.Places.{height, slant}
use Rattle.ff_whole.specs.declared.lines.Line.{Line}
use Rattle.ff_whole.specs.declared.places.Place.{Place}
use Rattle.ff_cells.specs.Before.{rise_cmp}
use Rattle.ff_cells.specs.Gap.{gap}

-- how steep the lines are
abbrev pub slope_cmp : Line → Line → Ordering
slope_cmp k l = int_cmp (neg_ℤ k.a *ℤ l.b) (neg_ℤ l.a *ℤ k.b)

-- which of two lines is lower just east of a border: by height there, then by slope
abbrev pub start_cmp : Place → Line → Line → Ordering
start_cmp at k l = ordering_then (rise_cmp at k l) (slope_cmp k l)

-- the line is the lower one there
abbrev pub starts_lower : Place → Line → Line → Bool
starts_lower at k l = is_lt (start_cmp at k l)

-- l is over k at the place, or meets it there and is no lower to the right
abbrev pub StartsBelow : Place → Line → Line → Type 0
StartsBelow at k l = (pos 0 <ℤ gap k l at) ⊎ ((gap k l at ≡ pos 0) × (pos 0 ≤ℤ slant k l))

-- the two lines close up to the right of left, and meet at m
pub record ClosesAt (left m : Place) (k l : Line) : Type 0 where
  pub apart : pos 0 <ℤ gap k l left
  pub meets : gap k l m ≡ pos 0
  pub closing : slant k l <ℤ pos 0
  pub on_k : height k m ≡ pos 0
  pub on_l : height l m ≡ pos 0

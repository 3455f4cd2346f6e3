-- The bars that a sweep from left to right has come to.
-- For the proofs of this crate alone.
use Rattle.std.specs.Prelude.{ℕ, ℤ, ◌≡◌, ◌<◌, ◌≤◌, ◌<ℤ◌, ◌≤ℤ◌, Bool, List, length, filter, take, slice_index_or, int_le}
use Rattle.std.specs.Ordering.{int_cmp, is_lt}
use Rattle.std.specs.List.Sorted.{IsSortedBy, IsPermutation}
use Rattle.ff_cells.specs.declared.bars.Bar.{Bar}
use Rattle.ff_cells.specs.declared.active.Active.{Active}

-- the bars lie from left to right by their left ends
abbrev pub AreFromLeft : List Bar → Type 0
AreFromLeft bars = IsSortedBy (λ a b. is_lt (int_cmp a.lo.x b.lo.x)) bars

-- the bar doesn't end before c
abbrev pub lasts : ℤ → Bar → Bool
lasts c b = int_le c b.hi.x

-- the bars reached begin at a or before, and those of them are there, in any order, that don't end before c
pub record AreActive (bars : List Bar) (a c : ℤ) (active : Active) : Type 0 where
  pub within : active.reached ≤ length bars
  pub begun : (k : ℕ) (d : Bar) → k < active.reached → (slice_index_or bars k d).lo.x ≤ℤ a
  pub are : IsPermutation (filter (lasts c) (take active.reached bars)) active.bars.items

-- the next bar begins after a
abbrev pub IsReached : List Bar → ℤ → ℕ → Type 0
IsReached bars a n = (d : Bar) → n < length bars → a <ℤ (slice_index_or bars n d).lo.x

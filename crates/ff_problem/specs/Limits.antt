-- Why a folded sheet has too many cells, entries, pairs or constraints for a case. The limits are this project's own.
use Rattle.std.specs.Prelude.{◌≡◌, ◌≢◌, ℕ, ◌<◌, ◌⊎◌, List, length, slice_get, Some}
use Rattle.ff_types.specs.declared.cites.Cite.{Cite}
use Rattle.ff_types.specs.declared.refusals.Refusal.{Refusal}
use Rattle.ff_types.specs.declared.refusals.Refusal.TheVariants.{TooMany}
use Rattle.ff_types.specs.declared.refusals.What.TheVariants.{Pairs, Constraints}
use Rattle.ff_types.specs.declared.refusals.No.{No}
use Rattle.ff_types.specs.declared.refusals.No.TheVariants.{Refused, NoMemory}
use Rattle.ff_types.specs.Pairs.{AreSorted}
use Rattle.ff_types.specs.Sheets.{Sheet}
use Rattle.ff_types.specs.Inside.{Overlap}
use Rattle.ff_types.specs.Cites.{Holds}
use Rattle.ff_types.specs.Cases.{key}
use Rattle.ff_cells.specs.SlabCells.{HasFewCells, WhyNoCells}
use Rattle.ff_types.specs.declared.limits.TheConstants.{MOST_PAIRS}
use Rattle.ff_types.specs.declared.limits.TheConstants.{MOST_CONSTRAINTS}

-- different overlapping pairs, in order
pub record OverlapInOrder (g : Sheet) (pairs : List (ℕ × ℕ)) : Type 0 where
  pub sorted : AreSorted pairs
  pub each : (n : ℕ) (p : ℕ × ℕ) → slice_get pairs n ≡ Some p → Overlap g p.0 p.1

-- different constraints that hold
pub record HoldApart (g : Sheet) (cites : List Cite) : Type 0 where
  pub apart : (m n : ℕ) (c d : Cite) → m < n → slice_get cites m ≡ Some c → slice_get cites n ≡ Some d → key c ≢ key d
  pub each : (n : ℕ) (c : Cite) → slice_get cites n ≡ Some c → Holds g c

-- more of them than the limit
abbrev pub HasManyPairs : Sheet → Type 0
HasManyPairs g = (pairs : List (ℕ × ℕ)) × OverlapInOrder g pairs × (MOST_PAIRS < length pairs)

-- more constraints hold than the limit
abbrev pub HasManyConstraints : Sheet → Type 0
HasManyConstraints g = (cites : List Cite) × HoldApart g cites × (MOST_CONSTRAINTS < length cites)

-- too many slab cells or entries; else too many pairs; else too many constraints
abbrev pub RefusesCase : Sheet → Refusal → Type 0
RefusesCase g r = WhyNoCells g (Refused r)
    ⊎ (HasFewCells g × (((r ≡ TooMany Pairs MOST_PAIRS) × HasManyPairs g)
    ⊎ ((HasManyPairs g → ⊥) × (r ≡ TooMany Constraints MOST_CONSTRAINTS) × HasManyConstraints g)))

-- why there is no case
abbrev pub WhyNoCase : Sheet → No → Type 0
WhyNoCase g (Refused r) = RefusesCase g r
WhyNoCase g NoMemory = Unit {0}

-- none of them is too many
pub record IsWithinLimits (g : Sheet) : Type 0 where
  pub cells : HasFewCells g
  pub pairs : HasManyPairs g → ⊥
  pub constraints : HasManyConstraints g → ⊥

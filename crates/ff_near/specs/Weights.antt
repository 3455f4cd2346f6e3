-- What each value of a variable adds to a cost.
-- For the proofs of this crate alone.
use Rattle.std.specs.Prelude.{Bool, true, false, ◌≡◌, ℕ, ◌<◌, List, length, slice_index}
use Rattle.ff_tables.specs.declared.orders.Order.{Order}
use Rattle.ff_tables.specs.declared.orders.Order.TheVariants.{Below, Above}
use Rattle.ff_types.specs.declared.pins.Pin.{Pin}
use Rattle.ff_near.specs.Distance.{against}

-- a number for each variable: of the listed pairs, how many get the other order where it has this value
pub record AreCounts (pairs : List (ℕ × ℕ)) (list : List Pin) (value : Order) (counts : List ℕ) : Type 0 where
  pub wide : length counts ≡ length pairs
  pub each : (u : ℕ) → u < length pairs → slice_index counts u ≡ against pairs list value u

-- the same for both values
pub record AreWeights (pairs : List (ℕ × ℕ)) (list : List Pin) (below above : List ℕ) : Type 0 where
  pub below_counts : AreCounts pairs list Below below
  pub above_counts : AreCounts pairs list Above above

-- the list rises
abbrev pub IsRising : List ℕ → Type 0
IsRising part = (i j : ℕ) → i < j → j < length part → slice_index part i < slice_index part j

-- variables below a bound
abbrev pub AreWithin : ℕ → List ℕ → Type 0
AreWithin bound part = (i : ℕ) → i < length part → slice_index part i < bound

-- the number of a variable for this value
abbrev pub weight_in : List ℕ → List ℕ → Order → ℕ → ℕ
weight_in below above Below u = slice_index below u
weight_in below above Above u = slice_index above u

-- one where it is so
abbrev pub count_of : Bool → ℕ
count_of true = 1
count_of false = 0

-- What is kept of the parts that are searched.
-- For the proofs of this crate alone.
use Rattle.std.specs.Prelude.{◌≡◌, ℕ, List, filter_map, Option, Some, None, Bool}
use Rattle.ff_tables.specs.declared.orders.Order.{Order}
use Rattle.ff_near.specs.declared.parts.PartBest.{PartBest}
use Rattle.ff_near.specs.declared.parts.PartNear.{PartNear}
use Rattle.ff_near.specs.declared.parts.PartNear.TheVariants as outcome
use Rattle.ff_types.specs.declared.cases.Case.{Case}
use Rattle.ff_types.specs.declared.pins.Pin.{Pin}
use Rattle.ff_propagate.specs.declared.parts.Part.{Part}
use Rattle.ff_near.specs.Near.{AreOutcomes, IsFirst, HoldsOfNone, has_none, is_unfinished}

-- the best solutions of the part, where it has some
abbrev pub best_in : PartNear → Option PartBest
best_in (outcome.Best best first) = Some best
best_in outcome.None = None
best_in outcome.Unfinished = None

-- the first of them
abbrev pub first_in : PartNear → Option (List Order)
first_in (outcome.Best best first) = Some first
first_in outcome.None = None
first_in outcome.Unfinished = None

-- the first outcome of which the test holds, or none
abbrev pub Tells : (PartNear → Bool) → List PartNear → Option ℕ → Type 0
Tells test outcomes None = HoldsOfNone test outcomes
Tells test outcomes (Some k) = IsFirst test outcomes k

-- what is kept of these outcomes
pub record AreGathered (outcomes : List PartNear) (bests : List PartBest) (firsts : List (List Order)) (none unfinished : Option ℕ) : Type 0 where
  pub bests_are : bests ≡ filter_map best_in outcomes
  pub firsts_are : firsts ≡ filter_map first_in outcomes
  pub none_is : Tells has_none outcomes none
  pub unfinished_is : Tells is_unfinished outcomes unfinished

-- the earlier one, if there is one
abbrev pub earlier_of : Option ℕ → ℕ → Option ℕ
earlier_of (Some j) k = Some j
earlier_of None k = Some k

-- what is kept of the parts that were searched, whatever they come to
pub record HasSearched (case : Case) (list : List Pin) (value : ℕ → Option Order) (budget : ℕ) (parts : List Part) (bests : List PartBest)
    (firsts : List (List Order)) (none unfinished : Option ℕ) : Type 0 where
  pub outcomes : List PartNear
  pub are : AreOutcomes case list value budget parts outcomes
  pub gathered : AreGathered outcomes bests firsts none unfinished

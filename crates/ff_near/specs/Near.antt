-- The nearest stackings, by what the search of each part comes to. This project's own.
use Rattle.std.specs.Prelude.{◌≡◌, ℕ, ◌+◌, ◌<◌, Bool, true, false, List, length, slice_get, slice_index_or, sum_by, Option, Some}
use Rattle.ff_tables.specs.declared.orders.Order.{Order}
use Rattle.ff_tables.specs.declared.orders.Order.TheVariants.{Below}
use Rattle.ff_types.specs.declared.cases.Case.{Case}
use Rattle.ff_types.specs.declared.pins.Pin.{Pin}
use Rattle.ff_propagate.specs.declared.parts.Part.{Part}
use Rattle.ff_propagate.specs.Solutions.{solutions_of}
use Rattle.ff_propagate.specs.Choices.{value_of}
use Rattle.ff_parts.specs.Lists.{vars_of}
use Rattle.ff_near.specs.declared.parts.PartBest.{PartBest}
use Rattle.ff_near.specs.declared.parts.PartNear.{PartNear}
use Rattle.ff_near.specs.declared.parts.PartNear.TheVariants.{Best, None, Unfinished}
use Rattle.ff_near.specs.declared.parts.Near.{Near}
use Rattle.ff_near.specs.declared.parts.Near.TheVariants as near
use Rattle.ff_near.specs.Best.{ComesTo}
use Rattle.ff_near.specs.Distance.{share, AreBest}

-- what each part comes to
pub record AreOutcomes (case : Case) (list : List Pin) (value : ℕ → Option Order) (budget : ℕ) (parts : List Part) (outcomes : List PartNear)
    : Type 0 where
  pub as_many : length outcomes ≡ length parts
  pub each : (k : ℕ) (part : Part) (outcome : PartNear) → slice_get parts k ≡ Some part → slice_get outcomes k ≡ Some outcome
      → ComesTo case list value budget part.vars outcome

-- a part that is finished has no solution
abbrev pub has_none : PartNear → Bool
has_none (Best best first) = false
has_none None = true
has_none Unfinished = false

-- the budget doesn't cover the part's tree
abbrev pub is_unfinished : PartNear → Bool
is_unfinished (Best best first) = false
is_unfinished None = false
is_unfinished Unfinished = true

-- the test holds of this outcome, and of none before
pub record IsFirst (test : PartNear → Bool) (outcomes : List PartNear) (k : ℕ) : Type 0 where
  pub outcome : PartNear
  pub there : slice_get outcomes k ≡ Some outcome
  pub holds : test outcome ≡ true
  pub before : (j : ℕ) (other : PartNear) → j < k → slice_get outcomes j ≡ Some other → test other ≡ false

-- the test holds of no outcome
abbrev pub HoldsOfNone : (PartNear → Bool) → List PartNear → Type 0
HoldsOfNone test outcomes = (k : ℕ) (outcome : PartNear) → slice_get outcomes k ≡ Some outcome → test outcome ≡ false

-- the first best solution of the part
pub record IsFirstBest (case : Case) (value : ℕ → Option Order) (part : List ℕ) (best : PartBest) (solution : List Order) : Type 0 where
  pub number : ℕ
  pub first : slice_get best.best 0 ≡ Some number
  pub there : slice_get (solutions_of case.system.constraints value part) number ≡ Some solution

-- All best solutions of each part, how many given orders the closure and those decide otherwise, and the stacking of the first ones.
pub record AreAllBest (case : Case) (list : List Pin) (value : ℕ → Option Order) (parts : List Part) (distance decided : ℕ) (bests : List PartBest)
    (values : List Order) : Type 0 where
  pub as_many : length bests ≡ length parts
  pub best : (k : ℕ) (part : Part) (best : PartBest) → slice_get parts k ≡ Some part → slice_get bests k ≡ Some best
      → AreBest case.system.constraints value case.pairs list part.vars best.cost best.best
  pub decided_is : decided ≡ share case.pairs list value
  pub distance_is : distance ≡ decided + sum_by (λ (b : PartBest). b.cost) bests
  pub firsts : List (List Order)
  pub as_many_firsts : length firsts ≡ length parts
  pub firsts_are : (k : ℕ) (part : Part) (best : PartBest) (solution : List Order) → slice_get parts k ≡ Some part → slice_get bests k ≡ Some best
      → slice_get firsts k ≡ Some solution → IsFirstBest case value part.vars best solution
  pub all_values : length values ≡ case.system.vars
  pub values_are : (v : ℕ) → v < case.system.vars → value_of value (vars_of parts) firsts v ≡ Some (slice_index_or values v Below)

-- The answer, by what each part comes to: the least finished part without a solution, else the least unfinished one, else all best
-- solutions.
abbrev pub Answers : Case → List Pin → (ℕ → Option Order) → List Part → List PartNear → Near → Type 0
Answers case list value parts outcomes (near.None part) = IsFirst has_none outcomes part
Answers case list value parts outcomes (near.Unfinished part) = HoldsOfNone has_none outcomes × IsFirst is_unfinished outcomes part
Answers case list value parts outcomes (near.Best distance decided bests values) = HoldsOfNone has_none outcomes × HoldsOfNone is_unfinished outcomes
    × AreAllBest case list value parts distance decided bests values

-- the same of whatever each part comes to
pub record IsNear (case : Case) (list : List Pin) (value : ℕ → Option Order) (budget : ℕ) (parts : List Part) (answer : Near) : Type 0 where
  pub outcomes : List PartNear
  pub are : AreOutcomes case list value budget parts outcomes
  pub answers : Answers case list value parts outcomes answer

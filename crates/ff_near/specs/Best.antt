-- The best solutions of a part, as far as a search has come. This project's own.
use Rattle.std.specs.Prelude.{◌≡◌, ℕ, ◌<◌, ◌≤◌, List, [], length, slice_get, Option, Some, Contains}
use Rattle.ff_tables.specs.declared.orders.Order.{Order}
use Rattle.ff_types.specs.declared.cases.Case.{Case}
use Rattle.ff_types.specs.declared.pins.Pin.{Pin}
use Rattle.ff_propagate.specs.Solutions.{solutions_of}
use Rattle.ff_solve.specs.Outcomes.{EndsWithin, GoesBeyond}
use Rattle.ff_near.specs.declared.parts.PartNear.{PartNear}
use Rattle.ff_near.specs.declared.parts.PartNear.TheVariants.{Best, None, Unfinished}
use Rattle.ff_near.specs.Distance.{cost}

-- Of these solutions, the numbers of those of least cost, in increasing order, that cost, and the first of them.
pub record AreLeast (cost_of : List Order → ℕ) (solutions : List (List Order)) (least : ℕ) (best : List ℕ) (first : List Order)
    : Type 0 where
  pub some : 0 < length solutions → 0 < length best
  pub each : (i n : ℕ) → slice_get best i ≡ Some n → (solution : List Order) × (slice_get solutions n ≡ Some solution)
      × (cost_of solution ≡ least)
  pub all : (n : ℕ) (solution : List Order) → slice_get solutions n ≡ Some solution
      → (least ≤ cost_of solution) × (cost_of solution ≡ least → Contains best n)
  pub rising : (i j m n : ℕ) → i < j → slice_get best i ≡ Some m → slice_get best j ≡ Some n → m < n
  pub first_is : (n : ℕ) → slice_get best 0 ≡ Some n → slice_get solutions n ≡ Some first

-- What the search of a part comes to: its tree ends within the budget, with solutions, of which these are the best; or without any; or
-- it goes beyond the budget.
abbrev pub ComesTo : Case → List Pin → (ℕ → Option Order) → ℕ → List ℕ → PartNear → Type 0
ComesTo case list value budget part (Best best first) = EndsWithin case.system.constraints value budget part
    × (0 < length (solutions_of case.system.constraints value part))
    × AreLeast (cost case.pairs list part) (solutions_of case.system.constraints value part) best.cost best.best first
ComesTo case list value budget part None = EndsWithin case.system.constraints value budget part
    × (solutions_of case.system.constraints value part ≡ [])
ComesTo case list value budget part Unfinished = GoesBeyond case.system.constraints value budget part

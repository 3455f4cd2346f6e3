-- Laws of distances. This project's own.
use Rattle.std.specs.Prelude.{◌≡◌, ℕ, ◌+◌, ◌≤◌, ◌↔◌, Bool, List, [], Option}
use Rattle.ff_tables.specs.declared.orders.Order.{Order}
use Rattle.ff_tables.specs.declared.terms.Constraint.{Constraint}
use Rattle.ff_types.specs.declared.pins.Pin.{Pin}
use Rattle.ff_types.specs.declared.cases.Case.{Case}
use Rattle.ff_types.specs.Sheets.{Sheet}
use Rattle.ff_types.specs.Stackings.{OrdersOverlaps}
use Rattle.ff_propagate.specs.Parts.{AreParts}
use Rattle.ff_propagate.specs.Choices.{IsChoice}
use Rattle.ff_solve.specs.Choices.{IsKept, IsSetOf, AreStackings}
use Rattle.ff_types.specs.Cases.{IsCaseOf}
use Rattle.ff_near.specs.Wishes.{AreWishes}
use Rattle.ff_near.specs.Distance.{distance, AreWanted, share, costs, IsBestChoice}

-- The distance of a stacking is the share of the decided pairs and the costs of its choice.
abbrev pub DistancesAreSums : Type 0
DistancesAreSums = (g : Sheet) (case : Case) (list : List Pin) → AreWanted g case.pairs list
    → (value : ℕ → Option Order) (parts : List (List ℕ)) → AreParts case.system.vars case.system.constraints value parts
    → (above : ℕ → ℕ → Bool) → OrdersOverlaps g above → (choice : List (List Order))
    → IsChoice case.system.constraints value parts choice → IsSetOf case.pairs value parts choice above
    → distance above list ≡ share case.pairs list value + costs case.pairs list parts choice

-- No choice costs less than one of best solutions, and those that cost as much are of best solutions.
abbrev pub LeastSumsAreBest : Type 0
LeastSumsAreBest = (cons : List Constraint) (value : ℕ → Option Order) (pairs : List (ℕ × ℕ)) (list : List Pin) (parts : List (List ℕ))
    (best other : List (List Order)) → IsBestChoice cons value pairs list parts best → IsChoice cons value parts other
    → (costs pairs list parts best ≤ costs pairs list parts other)
    × ((costs pairs list parts other ≡ costs pairs list parts best) ↔ IsBestChoice cons value pairs list parts other)

-- a stacking that keeps the creases, and none has a smaller distance
pub record IsNearest (g : Sheet) (list : List Pin) (above : ℕ → ℕ → Bool) : Type 0 where
  pub kept : IsKept g [] above
  pub least : (other : ℕ → ℕ → Bool) → IsKept g [] other → distance above list ≤ distance other list

-- The stackings of choices of best solutions are the nearest ones.
abbrev pub NearestAreBest : Type 0
NearestAreBest = (g : Sheet) (case : Case) (list : List Pin) → AreWanted g case.pairs list
    → (value : ℕ → Option Order) (parts : List (List ℕ)) → AreParts case.system.vars case.system.constraints value parts
    → AreStackings g [] case value parts
    → (best : List (List Order)) → IsBestChoice case.system.constraints value case.pairs list parts best
    → (above : ℕ → ℕ → Bool) → IsKept g [] above → (choice : List (List Order))
    → IsChoice case.system.constraints value parts choice → IsSetOf case.pairs value parts choice above
    → ((share case.pairs list value + costs case.pairs list parts best) ≤ distance above list)
    × (IsNearest g list above ↔ IsBestChoice case.system.constraints value case.pairs list parts choice)
    × ((distance above list ≡ share case.pairs list value + costs case.pairs list parts best) ↔ IsBestChoice case.system.constraints value case.pairs list parts choice)

-- On the sheet of a case, given orders of listed pairs are given orders of overlapping faces.
abbrev pub WishesAreWanted : Type 0
WishesAreWanted = (g : Sheet) (case : Case) → IsCaseOf g case → (list : List Pin) → AreWishes case.pairs list → AreWanted g case.pairs list

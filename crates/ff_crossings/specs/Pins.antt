-- Pinned orders as givens: the fact that a pin gives of the variable of its pair. This project's own.
use Rattle.std.specs.Prelude.{◌≡◌, ◌≢◌, ℕ, ◌↔◌, List, ◌++◌, map, nat_lt, slice_get, Option, Some, None}
use Rattle.ff_tables.specs.declared.orders.Order.{Order}
use Rattle.ff_tables.specs.declared.givens.Given.{Given}
use Rattle.ff_tables.specs.declared.givens.GivenBy.TheVariants as by
use Rattle.ff_tables.specs.Orders.{turn}
use Rattle.ff_types.specs.declared.cases.Case.{Case}
use Rattle.ff_types.specs.declared.pins.Pin.{Pin}
use Rattle.ff_types.specs.Pairs.{number_of}
use Rattle.ff_types.specs.Sheets.{Sheet}
use Rattle.ff_types.specs.Keeping.{KeepsCreases, KeepsPins}
use Rattle.ff_types.specs.Assignments.{set_by, HoldsStarts, IsTrueTo}

-- the pin is of two faces, whose pair is listed
pub record IsListedPin (pairs : List (ℕ × ℕ)) (pin : Pin) : Type 0 where
  pub differ : pin.f ≢ pin.g
  pub number : ℕ
  pub listed : number_of pairs pin.f pin.g ≡ Some number

-- each pin is of a listed pair
abbrev pub AreListedPins : List (ℕ × ℕ) → List Pin → Type 0
AreListedPins pairs pins = (i : ℕ) (pin : Pin) → slice_get pins i ≡ Some pin → IsListedPin pairs pin

-- the number of a listed pair
abbrev pub number_or : Option ℕ → ℕ
number_or (Some n) = n
number_or None = 0

-- the order of the lesser face to the greater one that the pin says
abbrev pub pinned_value : Pin → Order
pinned_value pin = turn (nat_lt pin.g pin.f) pin.value

-- the fact of its pair's variable
abbrev pub given_of : List (ℕ × ℕ) → Pin → Given
given_of pairs pin = record { var = number_or (number_of pairs pin.f pin.g); value = pinned_value pin; by = by.Pin }

-- the starts of the case, and behind them the facts of the pins
abbrev pub with_pins : Case → List Pin → List Given
with_pins case pins = case.starts ++ map (given_of case.pairs) pins

-- For pins on listed pairs, an assignment holds the starts followed by the pins exactly where its set of pairs keeps the
-- creases and the pins.
abbrev pub PinsAreHeld : Type 0
PinsAreHeld = (g : Sheet) (case : Case) → IsTrueTo g case → (pins : List Pin) → AreListedPins case.pairs pins
    → (a : ℕ → Order) → HoldsStarts (with_pins case pins) a
    ↔ (KeepsCreases g (set_by case.pairs a) × KeepsPins (set_by case.pairs a) pins)

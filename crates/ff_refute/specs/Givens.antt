-- What a refutation is made from: givens and pins, and where facts clash. This project's own.
use Rattle.std.specs.Prelude.{◌≡◌, ℕ, ◌<◌, List, ◌++◌, map, length, drop, slice_get, Option, Some}
use Rattle.ff_tables.specs.declared.terms.Constraint.{Constraint}
use Rattle.ff_tables.specs.declared.givens.Given.{Given}
use Rattle.ff_tables.specs.declared.givens.GivenBy.TheVariants as by
use Rattle.ff_types.specs.declared.pins.Pin.{Pin}
use Rattle.ff_types.specs.declared.cases.Case.{Case}
use Rattle.ff_propagate.specs.declared.facts.Fact.{Fact}
use Rattle.ff_propagate.specs.declared.facts.ClashAt.{ClashAt}
use Rattle.ff_propagate.specs.declared.facts.ClashAt.TheVariants as at
use Rattle.ff_propagate.specs.Closing.{Contradict, IsDeadIn}
use Rattle.ff_log.specs.declared.claims.Claim.{Claim}
use Rattle.ff_log.specs.Grounds.{claim_of_pin, claim_of_given}

-- The givens are the case's starts, and after them givens by pins on pairs of the case.
pub record AreGivens (case : Case) (gs : List Given) : Type 0 where
  pub pins : List Given
  pub are : gs ≡ case.starts ++ pins
  pub by_pins : (i : ℕ) (g : Given) → slice_get pins i ≡ Some g → g.by ≡ by.Pin
  pub fit : (i : ℕ) (g : Given) → slice_get pins i ≡ Some g → g.var < case.system.vars

-- what the givens after the starts say of faces
abbrev pub pin_claims : Case → List Given → List Claim
pin_claims case gs = map (claim_of_given case.pairs) (drop (length case.starts) gs)

-- The pins say what the givens after the starts say, in their order.
abbrev pub SayPins : Case → List Given → List Pin → Type 0
SayPins case gs pins = map claim_of_pin pins ≡ pin_claims case gs

-- A clash: two givens that contradict each other, or a constraint with no row that agrees with the facts.
abbrev pub IsClash : List Constraint → List Given → List (Option Fact) → ClashAt → Type 0
IsClash cons gs fs (at.Givens first second) = (g : Given) × (h : Given) × (slice_get gs first ≡ Some g)
    × (slice_get gs second ≡ Some h) × Contradict g h
IsClash cons gs fs (at.Dead c) = IsDeadIn cons fs c

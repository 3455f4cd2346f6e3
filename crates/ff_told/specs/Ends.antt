-- What an epoch with these givens comes to, the journal left aside. This project's own.
use Rattle.std.specs.Prelude.{◌≡◌, List, drop, length, map}
use Rattle.ff_tables.specs.declared.givens.Given.{Given}
use Rattle.ff_types.specs.declared.cases.Case.{Case}
use Rattle.ff_types.specs.declared.pins.Pin.{Pin}
use Rattle.ff_propagate.specs.Closure.{IsClosure, Clashes, Gives}
use Rattle.ff_log.specs.Grounds.{IsAcceptedIn}
use Rattle.ff_refute.specs.Givens.{SayPins}
use Rattle.ff_journal.specs.declared.entries.Outcome.{Outcome}
use Rattle.ff_journal.specs.declared.entries.Outcome.TheVariants as outcome
use Rattle.ff_journal.specs.Epochs.{pin_of_given}
use Rattle.ff_journal.specs.Publications.{on_board}

-- the pins of the givens that come after the starts
abbrev pub pins_in : Case → List Given → List Pin
pins_in case gs = map (pin_of_given case.pairs) (drop (length case.starts) gs)

-- The outcome is a board, exactly the closure of the givens. Or it is Impossible, since their closure clashes, with their pins and a
-- log that is accepted for all pins that say what these say.
abbrev pub IsEndOf : Case → List Given → Outcome → Type 0
IsEndOf case gs (outcome.Board board) = (length board ≡ case.system.vars) × IsClosure case.system.constraints (Gives gs) (on_board board)
IsEndOf case gs (outcome.Impossible pins log) = Clashes case.system.constraints (Gives gs) × (pins ≡ pins_in case gs)
    × ((said : List Pin) → SayPins case gs said → IsAcceptedIn case said log.lines)

-- the same where it is no board
abbrev pub IsRefutedBy : Case → List Given → Outcome → Type 0
IsRefutedBy case gs (outcome.Board board) = ⊥
IsRefutedBy case gs (outcome.Impossible pins log) = IsEndOf case gs (outcome.Impossible pins log)

-- Laws of reports. This project's own.
use Rattle.std.specs.Prelude.{◌≡◌, ℕ, Bool, List, [], Option}
use Rattle.ff_tables.specs.declared.orders.Order.{Order}
use Rattle.ff_types.specs.declared.faces.Faces.{Faces}
use Rattle.ff_types.specs.declared.faces.Folded.{Folded}
use Rattle.ff_types.specs.declared.cases.Case.{Case}
use Rattle.ff_types.specs.declared.pins.Pin.{Pin}
use Rattle.ff_types.specs.Sheets.{Sheet}
use Rattle.ff_types.specs.Cases.{IsCaseOf}
use Rattle.ff_types.specs.Assignments.{IsTrueTo}
use Rattle.ff_propagate.specs.Closure.{Clashes, Gives}
use Rattle.ff_parts.specs.Factors.{Factors}
use Rattle.ff_crossings.specs.CaseLaws.{AreAlike}
use Rattle.ff_crossings.specs.Pins.{AreListedPins, with_pins}
use Rattle.ff_report.specs.declared.lines.Last.{Last}
use Rattle.ff_report.specs.Alike.{AreOneText}
use Rattle.ff_solve.specs.Choices.{IsKept, AreStackings}
use Rattle.ff_solve.specs.Reports.{IsReport}
use Rattle.ff_solve.specs.Summaries.{IsSummary}

-- For pins on listed pairs, choices of one solution of each part of the board of the starts and the pins correspond
-- one-to-one to the stackings of the sheet that keep the creases and the pins.
abbrev pub ChoicesAreStackings : Type 0
ChoicesAreStackings = (g : Sheet) (case : Case) → IsCaseOf g case → IsTrueTo g case
    → (pins : List Pin) → AreListedPins case.pairs pins → (value : ℕ → Option Order) (parts : List (List ℕ))
    → Factors case.system.vars case.system.constraints (with_pins case pins) value parts
    → AreStackings g pins case value parts

-- where the closure of the starts and the pins clashes there is none
abbrev pub ClashHasNone : Type 0
ClashHasNone = (g : Sheet) (case : Case) → IsTrueTo g case → (pins : List Pin) → AreListedPins case.pairs pins
    → Clashes case.system.constraints (Gives (with_pins case pins)) → (above : ℕ → ℕ → Bool) → IsKept g pins above → ⊥

-- the case without pins: choices on the board of the starts alone are the stackings that keep the creases
abbrev pub StartsAreStackings : Type 0
StartsAreStackings = (g : Sheet) (case : Case) → IsCaseOf g case → IsTrueTo g case
    → (value : ℕ → Option Order) (parts : List (List ℕ))
    → Factors case.system.vars case.system.constraints case.starts value parts → AreStackings g [] case value parts

-- and where the closure of the starts clashes there is none
abbrev pub StartClashHasNone : Type 0
StartClashHasNone = (g : Sheet) (case : Case) → IsTrueTo g case → Clashes case.system.constraints (Gives case.starts)
    → (above : ℕ → ℕ → Bool) → IsKept g [] above → ⊥

-- Reports of cases that differ at most in the places of their cites end alike and are one text but for their logs.
abbrev pub ReportIsOne : Type 0
ReportIsOne = (faces : Faces) (folded : Folded) (case other : Case) (budget : ℕ) (l m : Last) (t u : List ℕ) → AreAlike case other
    → IsReport faces folded case budget l t → IsReport faces folded other budget m u → (l ≡ m) × AreOneText t u

-- Such cases have one summary.
abbrev pub SummaryIsOne : Type 0
SummaryIsOne = (count : ℕ) (faces : Faces) (folded : Folded) (case other : Case) (budget : ℕ) (l m : Last) (t u : List ℕ) → AreAlike case other
    → IsSummary count faces folded case budget l t → IsSummary count faces folded other budget m u → (l ≡ m) × (t ≡ u)

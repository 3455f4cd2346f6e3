-- What an accepted log means. This project's own.
use Rattle.std.specs.Prelude.{◌≡◌, ℕ, Bool, List}
use Rattle.ff_types.specs.declared.pins.Pin.{Pin}
use Rattle.ff_types.specs.Sheets.{Sheet}
use Rattle.ff_types.specs.declared.cases.Case.{Case}
use Rattle.ff_types.specs.Cases.{IsCaseOf}
use Rattle.ff_types.specs.Crossings.{IsGeometricStacking}
use Rattle.ff_types.specs.Keeping.{KeepsCreases, KeepsPins}
use Rattle.ff_log.specs.declared.logs.LogLine.{LogLine}
use Rattle.ff_log.specs.Grounds.{IsAccepted, IsAcceptedIn, sheet_ground}
use Rattle.ff_checker.specs.declared.verdicts.Verdict.{Verdict}
use Rattle.ff_checker.specs.Verdicts.{IsVerdict}

-- no geometric stacking keeps the creases and the pins
abbrev pub HasNoStacking : Sheet → List Pin → Type 0
HasNoStacking g pins = (above : ℕ → ℕ → Bool) → IsGeometricStacking g above → KeepsCreases g above → KeepsPins above pins → ⊥

-- where a log is accepted
abbrev pub AcceptedLogsRefute : Sheet → Type 0
AcceptedLogsRefute g = (pins : List Pin) (lines : List LogLine) → IsAccepted g pins lines → HasNoStacking g pins

-- a log over a sheet has one verdict
abbrev pub VerdictsAreOne : Type 0
VerdictsAreOne = (g : Sheet) (pins : List Pin) (lines : List LogLine) (v w : Verdict) → IsVerdict (sheet_ground g pins) lines v
    → IsVerdict (sheet_ground g pins) lines w → v ≡ w

-- It can't be that a log has no verdict. It is said by what can't be, since no definition decides which it is.
abbrev pub EachLogHasVerdict : Type 0
EachLogHasVerdict = (g : Sheet) (pins : List Pin) (lines : List LogLine) → ((v : Verdict) → IsVerdict (sheet_ground g pins) lines v → ⊥) → ⊥

-- a log that closes over the sheet's case is accepted for the sheet
abbrev pub CaseLogsAreAccepted : Sheet → Type 0
CaseLogsAreAccepted g = (case : Case) (pins : List Pin) (lines : List LogLine) → IsCaseOf g case → IsAcceptedIn case pins lines → IsAccepted g pins lines

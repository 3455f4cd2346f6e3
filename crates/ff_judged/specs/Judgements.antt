-- What is answered to the log of an input of `check`. This project's own.
use Rattle.std.specs.Prelude.{◌≡◌, ℕ, ◌<◌, ◌≤◌, ◌⊎◌, Bool, true, false, List, length}
use Rattle.ff_types.specs.declared.pins.Pin.{Pin}
use Rattle.ff_types.specs.declared.faces.Faces.{Faces}
use Rattle.ff_types.specs.declared.faces.Folded.{Folded}
use Rattle.ff_types.specs.declared.refusals.Refusal.{Refusal}
use Rattle.ff_types.specs.declared.refusals.Refusal.TheVariants.{TooLong}
use Rattle.ff_types.specs.declared.refusals.No.{No}
use Rattle.ff_types.specs.declared.refusals.No.TheVariants as no
use Rattle.ff_types.specs.FoldedPatterns.{IsFoldedPattern}
use Rattle.ff_types.specs.Sheets.{Sheet, sheet_of}
use Rattle.ff_log.specs.declared.logs.LogLine.{LogLine}
use Rattle.ff_log.specs.Grounds.{sheet_ground}
use Rattle.ff_log.specs.Texts.{IsFirstBad, SpellLines}
use Rattle.ff_checker.specs.declared.verdicts.Verdict.TheVariants.{Accepted, Refused}
use Rattle.ff_checker.specs.Verdicts.{IsVerdict}
use Rattle.ff_checker.specs.LogLaws.{HasNoStacking}
use Rattle.ff_read.specs.declared.checks.CheckInput.{CheckInput}
use Rattle.ff_read.specs.Checks.{IsCheck, RefusesInput}
use Rattle.ff_judged.specs.declared.judging.Judgement.{Judgement}
use Rattle.ff_judged.specs.declared.judging.Judgement.TheVariants.{BadLine, Checked}
use Rattle.ff_judged.specs.declared.judging.TheConstants.{MOST_CHECK_BYTES}
use Rattle.ff_judged.specs.Sheets.{RefusesSheet}

-- the log is accepted
abbrev pub accepts : Judgement → Bool
accepts (Checked Accepted) = true
accepts (Checked (Refused n why)) = false
accepts (BadLine n) = false

-- The first text that is no line; else the verdict on the lines that the texts spell, for the folded sheet and the pins.
abbrev pub JudgesLog : Sheet → List Pin → List (List ℕ) → Judgement → Type 0
JudgesLog g pins texts (BadLine n) = IsFirstBad texts n
JudgesLog g pins texts (Checked verdict) = (lines : List LogLine) × SpellLines texts lines × IsVerdict (sheet_ground g pins) lines verdict

-- The bytes, not too many, spell an input whose crease pattern has these faces and this folding.
pub record ReadsSheet (bytes : List ℕ) (input : CheckInput) (faces : Faces) (folded : Folded) : Type 0 where
  pub within : length bytes ≤ MOST_CHECK_BYTES
  pub read : IsCheck bytes input
  pub folds : IsFoldedPattern input.pattern faces folded

-- What is answered to their log.
pub record IsJudged (bytes : List ℕ) (judgement : Judgement) : Type 0 where
  pub input : CheckInput
  pub faces : Faces
  pub folded : Folded
  pub reads : ReadsSheet bytes input faces folded
  pub judges : JudgesLog (sheet_of input.pattern faces folded) input.pins input.lines judgement
  -- where the log is accepted no geometric stacking keeps the creases and the pins
  pub refutes : judgement ≡ Checked Accepted → HasNoStacking (sheet_of input.pattern faces folded) input.pins

-- they spell no input, or one whose crease pattern has no folded sheet
abbrev pub RefusesRead : List ℕ → Refusal → Type 0
RefusesRead bytes r = RefusesInput bytes r ⊎ ((input : CheckInput) × IsCheck bytes input × RefusesSheet input.pattern r)

-- exactly where a refusal comes: too many bytes, or bytes that are refused
abbrev pub IsRefused : List ℕ → Refusal → Type 0
IsRefused bytes r = ((MOST_CHECK_BYTES < length bytes) × (r ≡ TooLong)) ⊎ ((length bytes ≤ MOST_CHECK_BYTES) × RefusesRead bytes r)

-- why nothing is answered to the log: the refusal, or no memory
abbrev pub WhyNotJudged : List ℕ → No → Type 0
WhyNotJudged bytes (no.Refused r) = IsRefused bytes r
WhyNotJudged bytes no.NoMemory = Unit {0}

-- It can't be that bytes have no answer of `check`.
use Rattle.std.proofs.Common.{◌<◌, ◌≤◌, ◌⊎◌, inl, inr, ℕ, Bool, false, List, length, refl}
use Rattle.std.proofs.lemmas.Bool.{cases_lt}
use Rattle.ff_types.specs.declared.pins.Pin.{Pin}
use Rattle.ff_types.specs.declared.faces.Faces.{Faces}
use Rattle.ff_types.specs.declared.faces.Folded.{Folded}
use Rattle.ff_types.specs.declared.refusals.Refusal.{Refusal}
use Rattle.ff_types.specs.declared.refusals.Refusal.TheVariants.{TooLong}
use Rattle.ff_types.specs.FoldedPatterns.{IsFoldedPattern}
use Rattle.ff_types.specs.Sheets.{Sheet, sheet_of}
use Rattle.ff_borders.specs.Folded.{OfEachFolded}
use Rattle.ff_report.specs.Refusals.{refusal_line}
use Rattle.ff_log.specs.declared.logs.LogLine.{LogLine}
use Rattle.ff_log.specs.Texts.{IsFirstBad, SpellLines, TextsAreOne}
use Rattle.ff_checker.specs.LogLaws.{AcceptedLogsRefute, EachLogHasVerdict}
use Rattle.ff_read.specs.declared.checks.CheckInput.{CheckInput}
use Rattle.ff_read.specs.Checks.{IsCheck}
use Rattle.ff_read.specs.Readings.{CheckIsOne}
use Rattle.ff_answers.proofs.Patterns.{patterns_fold}
use Rattle.ff_judged.specs.declared.judging.TheConstants.{MOST_CHECK_BYTES}
use Rattle.ff_judged.specs.declared.judging.Judgement.{Judgement}
use Rattle.ff_judged.specs.declared.judging.Judgement.TheVariants.{BadLine, Checked}
use Rattle.ff_judged.specs.Judgements.{IsJudged, IsRefused, JudgesLog, accepts}
use Rattle.ff_judged.specs.Lines.{judgement_line}
use Rattle.ff_judged.specs.Answers.{AnswersLog, SomeJudgement}
use Rattle.ff_judged.proofs.Refuting.{is_judged}

-- a log is judged
some_judgement : TextsAreOne → EachLogHasVerdict → (g : Sheet) (pins : List Pin) (ts : List (List ℕ)) → ((j : Judgement) → JudgesLog g pins ts j → ⊥) → ⊥
some_judgement texts verdicts g pins ts none = by (texts.some ts) where
  by : ((ls : List LogLine) × SpellLines ts ls) ⊎ ((i : ℕ) × IsFirstBad ts i) → ⊥
  by (inl (ls, spelled)) = verdicts g pins ls (λ v is. none (Checked v) (ls, spelled, is))
  by (inr (i, bad)) = none (BadLine i) bad

module _ (reads : CheckIsOne) (texts : TextsAreOne) (verdicts : EachLogHasVerdict) (law : OfEachFolded AcceptedLogsRefute)
    (bytes : List ℕ) (none : (accepted : Bool) (text : List ℕ) → AnswersLog bytes accepted text → ⊥) where
  refused : (r : Refusal) → IsRefused bytes r → ⊥
  refused r h = none false (refusal_line r) (inl (refl, (r, h, refl)))

  judged : (j : Judgement) → IsJudged bytes j → ⊥
  judged j h = none (accepts j) (judgement_line j) (inr (j, h, refl, refl))

  of_folded : length bytes ≤ MOST_CHECK_BYTES → (input : CheckInput) → IsCheck bytes input → (faces : Faces) (folded : Folded) → IsFoldedPattern input.pattern faces folded → ⊥
  of_folded within input read faces folded h = some_judgement texts verdicts (sheet_of input.pattern faces folded) input.pins input.lines
      (λ j judges. judged j (is_judged bytes input faces folded j law (record { within = within; read = read; folds = h }) judges))

  of_bytes : length bytes ≤ MOST_CHECK_BYTES → ⊥
  of_bytes within = reads.some bytes
      (λ input read. patterns_fold input.pattern (λ r h. refused r (inr (within, inr (input, read, h)))) (of_folded within input read))
      (λ r h. refused r (inr (within, inl h)))

  of_length : (MOST_CHECK_BYTES < length bytes) ⊎ (length bytes ≤ MOST_CHECK_BYTES) → ⊥
  of_length (inl l) = refused TooLong (inl (l, refl))
  of_length (inr l) = of_bytes l

pub some_answer : CheckIsOne → TextsAreOne → EachLogHasVerdict → OfEachFolded AcceptedLogsRefute → SomeJudgement
some_answer reads texts verdicts law bytes none = of_length reads texts verdicts law bytes none (cases_lt MOST_CHECK_BYTES (length bytes))

-- No words and no input are without an answer.
use Rattle.std.proofs.Common.{◌<◌, ◌≤◌, ◌⊎◌, inl, inr, ℕ, List, length, Option, Some, None, refl}
use Rattle.std.proofs.lemmas.Bool.{cases_lt}
use Rattle.ff_types.specs.declared.limits.TheConstants.{MOST_BYTES}
use Rattle.ff_types.specs.declared.patterns.Pattern.{Pattern}
use Rattle.ff_types.specs.declared.faces.Faces.{Faces}
use Rattle.ff_types.specs.declared.faces.Folded.{Folded}
use Rattle.ff_types.specs.declared.refusals.Refusal.{Refusal}
use Rattle.ff_types.specs.declared.refusals.Refusal.TheVariants.{TooLong}
use Rattle.ff_read.proofs.OneReading.{reading_is_one}
use Rattle.ff_report.specs.Refusals.{refusal_line}
use Rattle.ff_top.specs.Texts.{usage_line}
use Rattle.ff_words.specs.declared.jobs.Job.{Job}
use Rattle.ff_words.specs.declared.jobs.Job.TheVariants.{Solve, Check, Bench, Lines, Make}
use Rattle.ff_words.specs.Form.{job_named}
use Rattle.ff_report.specs.declared.lines.Last.{Last}
use Rattle.ff_report.specs.declared.lines.Last.TheVariants as last
use Rattle.ff_answers.proofs.Patterns.{patterns_come}
use Rattle.ff_answers.proofs.Reports.{cases_have_reports}
use Rattle.ff_top.specs.Solving.{IsRefused, IsSolved, AnswersSolve}
use Rattle.ff_top.specs.Answer.{AnswersTo, NoBench, SomeAnswer}
use Rattle.ff_top.specs.declared.status.Status.{Status}
use Rattle.ff_top.specs.declared.status.Status.TheVariants.{Done, Impossible, Unfinished, Refused, Usage}
use Rattle.ff_judged.specs.Answers.{SomeJudgement}
use Rattle.ff_cut.specs.Answers.{SomeDrawing}
use Rattle.ff_made.specs.Answers.{SomeSummary}
use Rattle.ff_top.specs.Checking.{status_if}
use Rattle.ff_top.specs.Making.{status_made}
use Rattle.ff_top.specs.Counts.{HasCount}
use Rattle.ff_top.proofs.Counting.{has_count}
use Rattle.ff_top.proofs.Modes.{check_by, drawing_by, make_by}
use Rattle.ff_top.proofs.Reported.{solved}

-- the input is refused, or the report of what it comes to solves it
module _ (input : List ℕ) (budget : ℕ) (none : (s : Status) (text : List ℕ) → AnswersSolve budget input s text → ⊥) where
  refused : (r : Refusal) → IsRefused input r → ⊥
  refused r h = none Refused (refusal_line r) (r, h, refl)

  by_last : (l : Last) (text : List ℕ) → IsSolved input budget l text → ⊥
  by_last last.Done text s = none Done text s
  by_last last.Impossible text s = none Impossible text s
  by_last last.Unfinished text s = none Unfinished text s

  of_bytes : length input ≤ MOST_BYTES → ⊥
  of_bytes within = reading_is_one.some input
      (λ p read. patterns_come p (λ r h. refused r (inr (within, inr (record { pattern = p; read = read; refused = h }))))
      (λ faces folded case problem. cases_have_reports faces folded case budget problem.case_is.sorted_pairs (λ l text report. by_last l text
      (solved input faces folded case budget l text (record { within = within; pattern = p; read = read; problem = problem }) report))))
      (λ r h. refused r (inr (within, inl h)))

  of_length : (MOST_BYTES < length input) ⊎ (length input ≤ MOST_BYTES) → ⊥
  of_length (inl l) = refused TooLong (inl (l, refl))
  of_length (inr l) = of_bytes l

module _ (some_log : SomeJudgement) (some_drawing : SomeDrawing) (some_count : SomeSummary) where
  by_job : (o : Option Job) (input : List ℕ) → HasCount o → ((s : Status) (text : List ℕ) → AnswersTo NoBench o input s text → ⊥) → ⊥
  by_job None input h none = none Usage usage_line refl
  by_job (Some (Solve budget)) input h none = of_length input budget none (cases_lt MOST_BYTES (length input))
  by_job (Some Check) input h none = some_log input (λ a text k. none (status_if a) text (check_by input (status_if a) a text refl k))
  by_job (Some (Bench budget workers)) input h none = none Usage usage_line refl
  by_job (Some Lines) input h none = some_drawing input (λ a text k. none (status_if a) text (drawing_by input (status_if a) a text refl k))
  by_job (Some (Make count budget)) input h none = some_count count budget h.0 h.1
      (λ l text k. none (status_made l) text (make_by count budget (status_made l) l text refl k))

  pub some_answer : SomeAnswer
  some_answer words input none = by_job (job_named words) input (has_count words) none

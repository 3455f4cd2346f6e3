-- What `make` answers, by status. This project's own.
use Rattle.std.specs.Prelude.{ℕ, List, Option, Some, None}
use Rattle.ff_report.specs.declared.lines.Last.{Last}
use Rattle.ff_report.specs.declared.lines.Last.TheVariants as last
use Rattle.ff_made.specs.Answers.{AnswersCount}
use Rattle.ff_top.specs.Solving.{status_of}
use Rattle.ff_top.specs.declared.status.Status.{Status}
use Rattle.ff_top.specs.declared.status.Status.TheVariants.{Done, Impossible, Refused, Unfinished}

-- the status of a summary by how it ends, and of a refusal
abbrev pub status_made : Option Last → Status
status_made None = Refused
status_made (Some l) = status_of l

-- The status and the text, status by status.
abbrev pub AnswersMake : ℕ → ℕ → Status → List ℕ → Type 0
AnswersMake count budget Refused text = AnswersCount count budget None text
AnswersMake count budget Done text = AnswersCount count budget (Some last.Done) text
AnswersMake count budget Impossible text = AnswersCount count budget (Some last.Impossible) text
AnswersMake count budget Unfinished text = AnswersCount count budget (Some last.Unfinished) text
AnswersMake count budget status text = ⊥

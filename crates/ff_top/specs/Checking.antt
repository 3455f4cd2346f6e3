-- What `check` answers, by status. This project's own.
use Rattle.std.specs.Prelude.{ℕ, Bool, true, false, List}
use Rattle.ff_judged.specs.Answers.{AnswersLog}
use Rattle.ff_top.specs.declared.status.Status.{Status}
use Rattle.ff_top.specs.declared.status.Status.TheVariants.{Done, Refused}

-- the status where it is so, as where a log is accepted, and where it isn't or the input is refused
abbrev pub status_if : Bool → Status
status_if true = Done
status_if false = Refused

-- The status and the text, status by status.
abbrev pub AnswersCheck : List ℕ → Status → List ℕ → Type 0
AnswersCheck bytes Done text = AnswersLog bytes true text
AnswersCheck bytes Refused text = AnswersLog bytes false text
AnswersCheck bytes status text = ⊥

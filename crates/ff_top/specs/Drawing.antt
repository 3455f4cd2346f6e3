-- What `lines` answers, by status. This project's own.
use Rattle.std.specs.Prelude.{ℕ, true, false, List}
use Rattle.ff_cut.specs.Answers.{AnswersLines}
use Rattle.ff_top.specs.declared.status.Status.{Status}
use Rattle.ff_top.specs.declared.status.Status.TheVariants.{Done, Refused}

-- The status and the text, status by status: the crease pattern of the lines, or why they aren't drawn.
abbrev pub AnswersDrawing : List ℕ → Status → List ℕ → Type 0
AnswersDrawing bytes Done text = AnswersLines bytes true text
AnswersDrawing bytes Refused text = AnswersLines bytes false text
AnswersDrawing bytes status text = ⊥

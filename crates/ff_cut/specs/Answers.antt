-- What `lines` answers: whether the lines are drawn, and the text. This project's own.
use Rattle.std.specs.Prelude.{◌≡◌, ℕ, Bool, true, false, List}
use Rattle.ff_types.specs.declared.patterns.Pattern.{Pattern}
use Rattle.ff_types.specs.declared.refusals.Refusal.{Refusal}
use Rattle.ff_report.specs.Refusals.{refusal_line}
use Rattle.ff_lined.specs.Texts.{IsTextOf}
use Rattle.ff_cut.specs.Drawn.{DrawsLines, IsRefused}

-- the text of the drawing, or the line of a refusal
abbrev pub AnswersLines : List ℕ → Bool → List ℕ → Type 0
AnswersLines bytes true text = (p : Pattern) × DrawsLines bytes p × IsTextOf p text
AnswersLines bytes false text = (r : Refusal) × IsRefused bytes r × (text ≡ refusal_line r)

-- two answers to the same bytes are the same
abbrev pub OneDrawing : Type 0
OneDrawing = (bytes : List ℕ) (a b : Bool) (x y : List ℕ) → AnswersLines bytes a x → AnswersLines bytes b y → (a ≡ b) × (x ≡ y)

-- It can't be that bytes have no answer. It is said by what can't be, since no definition decides which it is.
abbrev pub SomeDrawing : Type 0
SomeDrawing = (bytes : List ℕ) → ((drawn : Bool) (text : List ℕ) → AnswersLines bytes drawn text → ⊥) → ⊥

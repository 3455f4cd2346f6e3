-- What `check` answers: whether the log is accepted, and the line. This project's own.
use Rattle.std.specs.Prelude.{◌≡◌, ℕ, ◌⊎◌, Bool, false, List}
use Rattle.ff_types.specs.declared.refusals.Refusal.{Refusal}
use Rattle.ff_report.specs.Refusals.{refusal_line}
use Rattle.ff_judged.specs.declared.judging.Judgement.{Judgement}
use Rattle.ff_judged.specs.Judgements.{IsJudged, IsRefused, accepts}
use Rattle.ff_judged.specs.Lines.{judgement_line}

-- the line of a refusal
abbrev pub AnswersRefused : List ℕ → Bool → List ℕ → Type 0
AnswersRefused bytes accepted text = (accepted ≡ false) × ((r : Refusal) × IsRefused bytes r × (text ≡ refusal_line r))

-- the line of what is answered to the log
abbrev pub AnswersJudged : List ℕ → Bool → List ℕ → Type 0
AnswersJudged bytes accepted text = (j : Judgement) × IsJudged bytes j × (accepted ≡ accepts j) × (text ≡ judgement_line j)

-- whether the log is accepted, and the line: one of the two
abbrev pub AnswersLog : List ℕ → Bool → List ℕ → Type 0
AnswersLog bytes accepted text = AnswersRefused bytes accepted text ⊎ AnswersJudged bytes accepted text

-- two answers to the same bytes are the same
abbrev pub OneJudgement : Type 0
OneJudgement = (bytes : List ℕ) (a b : Bool) (x y : List ℕ) → AnswersLog bytes a x → AnswersLog bytes b y → (a ≡ b) × (x ≡ y)

-- It can't be that bytes have no answer. It is said by what can't be, since no definition decides which it is.
abbrev pub SomeJudgement : Type 0
SomeJudgement = (bytes : List ℕ) → ((accepted : Bool) (text : List ℕ) → AnswersLog bytes accepted text → ⊥) → ⊥

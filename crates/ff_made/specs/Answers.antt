-- What `make` answers: how the summary ends and its text, or the line of a refusal. This project's own.
use Rattle.std.specs.Prelude.{◌≡◌, ℕ, ◌<◌, ◌≤◌, List, Option, Some, None}
use Rattle.ff_types.specs.declared.refusals.Refusal.{Refusal}
use Rattle.ff_report.specs.Refusals.{refusal_line}
use Rattle.ff_report.specs.declared.lines.Last.{Last}
use Rattle.ff_made.specs.Making.{IsMadeSolved, MakesRefused}

-- how the summary ends, None where the accordion is refused, and the text
abbrev pub AnswersCount : ℕ → ℕ → Option Last → List ℕ → Type 0
AnswersCount count budget None text = (r : Refusal) × MakesRefused count r × (text ≡ refusal_line r)
AnswersCount count budget (Some last) text = IsMadeSolved count budget last text

-- two answers to the same count and budget are the same
abbrev pub OneSummary : Type 0
OneSummary = (count budget : ℕ) (l m : Option Last) (x y : List ℕ) → AnswersCount count budget l x → AnswersCount count budget m y → (l ≡ m) × (x ≡ y)

-- It can't be that a count has no answer. It is said by what can't be, since no definition decides which it is.
abbrev pub SomeSummary : Type 0
SomeSummary = (count budget : ℕ) → 0 < count → count ≤ 400 → ((last : Option Last) (text : List ℕ) → AnswersCount count budget last text → ⊥) → ⊥

-- It can't be that a count has no answer of `make`.
use Rattle.std.proofs.Common.{inl, inr, ℕ, List, length, Option, Some, None, refl}
use Rattle.ff_types.specs.declared.patterns.Pattern.{Pattern}
use Rattle.ff_types.specs.declared.faces.Faces.{Faces}
use Rattle.ff_types.specs.declared.faces.Folded.{Folded}
use Rattle.ff_types.specs.declared.cases.Case.{Case}
use Rattle.ff_report.specs.Refusals.{refusal_line}
use Rattle.ff_report.specs.Summaries.{summary_lines}
use Rattle.ff_report.specs.declared.lines.Last.{Last}
use Rattle.ff_report.specs.declared.lines.Last.TheVariants as last
use Rattle.ff_solve.specs.Reports.{IsReport}
use Rattle.ff_make.specs.Laws.{IsMade, SomeAccordion}
use Rattle.ff_answers.proofs.Patterns.{patterns_come}
use Rattle.ff_answers.proofs.Reports.{cases_have_reports}
use Rattle.ff_made.specs.Making.{MakesProblem}
use Rattle.ff_made.specs.Answers.{AnswersCount, SomeSummary}

module _ (count budget : ℕ) (none : (last : Option Last) (text : List ℕ) → AnswersCount count budget last text → ⊥) where
  of_report : (faces : Faces) (folded : Folded) (case : Case) → MakesProblem count faces folded case → (l : Last) (text : List ℕ) → IsReport faces folded case budget l text → ⊥
  of_report faces folded case makes l text (inl c) = none (Some last.Impossible) (summary_lines count faces folded case None 0 last.Impossible)
      (record { faces = faces; folded = folded; case = case; makes = makes; summary = inl (record { clashes = c.clashes; ends = refl; is = refl }) })
  of_report faces folded case makes l text (inr b) = none (Some l) (summary_lines count faces folded case (Some b.facts) (length b.parts) l)
      (record { faces = faces; folded = folded; case = case; makes = makes; summary = inr (record { whole = text; report = b; is = refl }) })

  of_accordion : (p : Pattern) × IsMade count p → ⊥
  of_accordion (p, is) = patterns_come p (λ r h. none None (refusal_line r) (r, record { pattern = p; made = is; refused = h }, refl))
      (λ faces folded case problem. cases_have_reports faces folded case budget problem.case_is.sorted_pairs
      (of_report faces folded case (record { pattern = p; made = is; problem = problem })))

pub some_answer : SomeAccordion → SomeSummary
some_answer accordions count budget some few none = of_accordion count budget none (accordions count some few)

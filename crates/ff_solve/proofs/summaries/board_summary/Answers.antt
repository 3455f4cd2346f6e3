use Rattle.std.proofs.Common.{◌≡◌, ◌∙◌, ℕ, List, Some, Option, arith, ap, refl, sym, subst, length, slice_get}
use Rattle.std.proofs.lemmas.List.{length-map}
use Rattle.ff_propagate.specs.declared.parts.Part.{Part}
use Rattle.ff_propagate.specs.Facts.{value_at}
use Rattle.ff_propagate.specs.Parts.{IsPart, AreTouching}
use Rattle.ff_report.specs.Lines.{last_of}
use Rattle.ff_report.specs.Summaries.{summary_lines}
use Rattle.ff_solve.specs.Outcomes.{AreOutcomes}
use Rattle.ff_solve.proofs.Boards.{summary_of_board}
use Rattle.ff_solve.proofs.Lists.{few_parts}
use Rattle.ff_solve.proofs.summaries.board_summary.Goals as goal

pub outcomes_of-requires-clause-parts : goal.outcomes_of-requires-clause-parts
outcomes_of-requires-clause-parts c = subst
    (λ ps. (k : ℕ) (part : Part) → slice_get ps k ≡ Some part → IsPart c.args.case.now.system.vars c.args.case.now.system.constraints (value_at c.args.facts.now) part.vars)
    (sym c.as_slice.ensures) c.in_ok-parts.ensures.each

pub outcomes_of-requires-clause-touching : goal.outcomes_of-requires-clause-touching
outcomes_of-requires-clause-touching c = subst
    (λ ps. (k : ℕ) (part : Part) → slice_get ps k ≡ Some part → AreTouching c.args.case.now.system.constraints part.vars part.touching)
    (sym c.as_slice.ensures) c.in_ok-parts.ensures.touching

pub overflow_cast-as_slice : goal.overflow_cast-as_slice
overflow_cast-as_slice c = omega (arith, few_parts _ _ _ _ c.in_ok-parts.ensures.parts, length-map c.in_ok-parts.parts (λ (p : Part). p.vars), ap length c.as_slice-3.ensures)

pub returns : goal.returns
returns c = summary_of_board c.args.count c.args.faces.now c.args.folded.now c.args.case.now c.args.budget c.args.facts.now c.in_ok-parts.parts c.in_ok-outcomes.outcomes _ _
    c.requires.board c.in_ok-parts.ensures.parts c.in_ok-parts.ensures.factors
    (subst (λ ps. AreOutcomes c.args.case.now (value_at c.args.facts.now) c.args.budget ps c.in_ok-outcomes.outcomes) c.as_slice.ensures c.in_ok-outcomes.ensures)
    (c.ending-last.ensures ∙ ap last_of c.as_slice-2.ensures)
    (c.in_ok-text.ensures ∙ ap (λ (n : ℕ). summary_lines c.args.count c.args.faces.now c.args.folded.now c.args.case.now (Some c.args.facts.now) n c.ending-last.result) (ap length c.as_slice-3.ensures))

use Rattle.std.proofs.Common.{[], sym, subst, List}
use Rattle.ff_propagate.specs.Facts.{value_at}
use Rattle.ff_solver.specs.declared.steps.Step.{Step}
use Rattle.ff_solver.specs.Steps.{Runs}
use Rattle.ff_refute.specs.Telling.{HaveConstraints}
use Rattle.ff_refute.proofs.Accepting.{accepted}
use Rattle.ff_refute.proofs.Stepping.{runs_constraints}
use Rattle.ff_refute.proofs.parts.log_of_part.Goals as goal

pub trimmed-requires : goal.trimmed-requires
trimmed-requires c = record {
  there = subst (λ (steps : List Step). HaveConstraints c.args.case.now.system.constraints steps) (sym c.as_slice.ensures)
      (runs_constraints c.args.case.now.system.vars c.args.case.now.system.constraints (value_at c.args.facts.now) c.in_ok-steps.steps [] [] c.in_ok-steps.ensures);
}

pub lines_of_steps-requires-clause-runs : goal.lines_of_steps-requires-clause-runs
lines_of_steps-requires-clause-runs c = subst (λ (steps : List Step). Runs c.args.case.now.system.vars c.args.case.now.system.constraints
    (value_at c.args.facts.now) [] [] steps) (sym c.make_contiguous.ensures.value)
    (c.in_ok-kept.ensures.runs (value_at c.args.facts.now) (subst (λ (steps : List Step). Runs c.args.case.now.system.vars c.args.case.now.system.constraints
    (value_at c.args.facts.now) [] [] steps) (sym c.as_slice.ensures) c.in_ok-steps.ensures))

pub returns : goal.returns
returns c pins say = accepted c.args.case.now c.args.givens.now pins c.of.result c.in_ok-maker.maker.lines.items say c.of.ensures c.in_ok-maker.ensures

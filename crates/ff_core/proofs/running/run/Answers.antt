use Rattle.std.proofs.Common.{arith, ap, length, subst}
use Rattle.ff_journal.specs.Journals.{IsLegal}
use Rattle.ff_core.specs.Runs.{HasRun}
use Rattle.ff_core.proofs.Ran.{run_more, run_none, run_all, run_budget, step_grows}
use Rattle.ff_core.proofs.running.run.Goals as goal

pub loop-i-init : goal.loop-i-init
loop-i-init c = (
  c.in_ok-core.ensures.stands,
  run_none c.args.case.now c.args.budget c.as_slice-list.result.now c.in_ok-core.core c.in_ok-core.ensures.new,
  let e = ap (λ j. length j) c.in_ok-core.ensures.new.empty in omega (arith, e),
)

pub loop-i-preserved : goal.loop-i-preserved
loop-i-preserved c = (
  c.in_ok-step.ensures.stands,
  run_more c.args.case.now c.args.budget c.as_slice-list.result.now c.loop-i.i c.index-list-i.result c.in_ok-step.field-0 c.loop-i.core _ c.loop-i-test.true c.index-list-i.is
      c.loop-i.invariant.1 c.in_ok-step.ensures.step,
  let g = step_grows c.args.case.now c.loop-i.core c.index-list-i.result _ c.in_ok-step.field-0 c.in_ok-step.ensures.step in let l = c.loop-i.invariant.2 in omega (arith, g, l),
)

pub returns-clause-ran : goal.returns-clause-ran
returns-clause-ran c = subst (λ es. HasRun c.args.case.now c.args.budget es c.loop-i.core) c.as_slice-list.ensures
    (run_all c.args.case.now c.args.budget c.as_slice-list.result.now c.loop-i.i c.loop-i.core c.loop-i-test.false c.loop-i.invariant.1)

pub returns-clause-legal : goal.returns-clause-legal
returns-clause-legal c = subst (λ n. IsLegal c.args.case.now n c.loop-i.core.journal) (run_budget c.args.case.now c.args.budget _ c.loop-i.core c.loop-i.invariant.1) c.loop-i.invariant.0.legal

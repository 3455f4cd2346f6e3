use Rattle.std.proofs.Common.{[], subst, sym, length}
use Rattle.ff_propagate.specs.Facts.{value_at}
use Rattle.ff_refute.specs.Givens.{pin_claims}
use Rattle.ff_refute.specs.Marks.{IsWritten}
use Rattle.ff_refute.specs.Telling.{IsAtSteps}
use Rattle.ff_refute.proofs.Stepping.{runs_constraints, runs_variables, begins}
use Rattle.ff_refute.proofs.parts.lines_of_steps.Goals as goal

pub marks_of_steps-requires-clause-there : goal.marks_of_steps-requires-clause-there
marks_of_steps-requires-clause-there c = runs_constraints c.args.source.now.case.now.system.vars c.args.source.now.case.now.system.constraints
    (value_at c.args.source.now.facts.now) c.args.steps.now [] [] c.requires.runs

pub write_steps-requires-clause-there : goal.write_steps-requires-clause-there
write_steps-requires-clause-there c = runs_constraints c.args.source.now.case.now.system.vars c.args.source.now.case.now.system.constraints
    (value_at c.args.source.now.facts.now) c.args.steps.now [] [] c.requires.runs

pub write_steps-requires-clause-vars : goal.write_steps-requires-clause-vars
write_steps-requires-clause-vars c = runs_variables c.args.source.now.case.now.system.vars c.args.source.now.case.now.system.constraints
    (value_at c.args.source.now.facts.now) c.args.steps.now [] [] c.requires.runs

pub write_steps-requires-clause-at : goal.write_steps-requires-clause-at
write_steps-requires-clause-at c =
    let case = c.args.source.now.case.now in
    let pins = pin_claims case c.args.source.now.givens.now in
    let fs = c.args.source.now.facts.now in
    let order = c.in_ok-order.order.items in
    let marks = c.in_ok-marks.marks.items in
    let m = c.write_facts.new.self in
    let w : IsWritten case pins fs order marks (length order) m =
    subst (λ xs. IsWritten case pins fs order xs (length order) m) c.as_slice-3.ensures.value
    (subst (λ xs. IsWritten case pins fs xs c.as_slice-3.result.now (length xs) m) c.as_slice-2.ensures.value c.in_ok-write_facts.ensures) in
    subst (λ xs. IsAtSteps case pins (value_at fs) xs c.args.steps.now m) (sym c.as_slice-4.ensures.value)
    (begins case pins fs order marks c.in_ok-order.ensures m w c.args.steps.now c.requires.runs)

use Rattle.std.proofs.Common.{drop}
use Rattle.ff_propagate.specs.Facts.{value_at}
use Rattle.ff_refute.specs.Givens.{pin_claims}
use Rattle.ff_refute.specs.Telling.{IsAtSteps}
use Rattle.ff_refute.proofs.making.Maker.write_steps.Given as goal

abbrev pub invariant-loop-i : goal.invariant-loop-i
invariant-loop-i l = IsAtSteps l.source.case.now (pin_claims l.source.case.now l.source.givens.now) (value_at l.source.facts.now) l.marks (drop l.i l.steps) l.self

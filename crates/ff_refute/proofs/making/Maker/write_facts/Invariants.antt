use Rattle.ff_refute.specs.Givens.{pin_claims}
use Rattle.ff_refute.specs.Marks.{IsWritten}
use Rattle.ff_refute.proofs.making.Maker.write_facts.Given as goal

abbrev pub invariant-loop-n : goal.invariant-loop-n
invariant-loop-n l = IsWritten l.source.case.now (pin_claims l.source.case.now l.source.givens.now) l.source.facts.now l.order l.marks l.n l.self

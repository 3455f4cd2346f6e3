use Rattle.std.proofs.Common.{arith, ap, length}
use Rattle.ff_propagate.proofs.TrailSteps.{grows_trans}
use Rattle.ff_propagate.proofs.TrailVisits.{passes_on, passed, con_read}
use Rattle.ff_propagate.proofs.trail.Trail.pass.Goals as goal

pub loop-number-preserved : goal.loop-number-preserved
loop-number-preserved c =
    let cons = c.args.system.now.constraints in
    let n = c.loop-number.number in
    let there = con_read cons _ n c.index-constraints-number.result c.as_slice-constraints.ensures
    (omega (arith, c.loop-number-test.true, ap length c.as_slice-constraints.ensures))
    c.index-constraints-number.is in (
      c.examine.ensures.trail,
      grows_trans cons c.args.self.now c.loop-number.self c.examine.new.self c.loop-number.invariant.1
          c.examine.ensures.grows,
      passes_on cons c.loop-number.self c.examine.new.self (length c.args.self.now.steps.items) n
          c.index-constraints-number.result c.examine.ensures.grows c.loop-number.invariant.1.count there
          (c.examine.ensures.rests c.if-examine.false) c.loop-number.invariant.2,
    )

pub returns-then-examine-clause-grows : goal.returns-then-examine-clause-grows
returns-then-examine-clause-grows c = grows_trans c.args.system.now.constraints c.args.self.now
    c.loop-number.self c.examine.new.self c.loop-number.invariant.1 c.examine.ensures.grows

pub returns-clause-ends : goal.returns-clause-ends
returns-clause-ends c = passed c.args.system.now.constraints c.loop-number.self
    (length c.args.self.now.steps.items) c.loop-number.number
    (omega (arith, c.loop-number-test.false, ap length c.as_slice-constraints.ensures)) c.loop-number.invariant.2

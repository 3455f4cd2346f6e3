use Rattle.std.proofs.Common.{arith}
use Rattle.ff_drawn.proofs.StartTables.{start_here, start_past, passed_more}
use Rattle.ff_drawn.proofs.leaving.skip.Goals as goal

pub loop-d-preserved : goal.loop-d-preserved
loop-d-preserved c = record { within = omega (arith, c.loop-d-test.true); passed = passed_more _ _ _ c.loop-d.invariant.passed c.if-darts-d.false }

pub returns-then-darts-d : goal.returns-then-darts-d
returns-then-darts-d c = start_here _ _ _ c.requires.sorted c.loop-d-test.true c.loop-d.invariant.passed c.if-darts-d.true

pub returns : goal.returns
returns c = start_past _ _ _ c.loop-d-test.false c.loop-d.invariant.within c.loop-d.invariant.passed

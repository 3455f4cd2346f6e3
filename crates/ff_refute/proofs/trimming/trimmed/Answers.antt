use Rattle.std.proofs.Common.{arith}
use Rattle.ff_refute.proofs.Trimmed.{all_kept}
use Rattle.ff_refute.proofs.Rested.{lean_all}
use Rattle.ff_refute.proofs.trimming.trimmed.Goals as goal

pub returns-in-Some-clause-runs : goal.returns-in-Some-clause-runs
returns-in-Some-clause-runs c = all_kept c.args.system.now.vars c.args.system.now.constraints c.args.steps.now c.loop-k.k c.loop-k.kept.items c.pop.new.self.items
    c.in-Some.all (omega (arith, c.loop-k-test.false)) c.in-Some.ensures.items c.loop-k.invariant.1

pub returns-in-Some-clause-rested : goal.returns-in-Some-clause-rested
returns-in-Some-clause-rested c value runs = lean_all c.args.system.now.constraints c.loop-k.kept.items c.pop.new.self.items
    c.in-Some.all c.in-Some.ensures.items c.loop-k.invariant.2

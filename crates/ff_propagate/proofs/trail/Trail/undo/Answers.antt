use Rattle.std.proofs.Common.{refl, arith}
use Rattle.ff_propagate.proofs.TrailUndoes.{taken_back, undone, still_forced}
use Rattle.ff_propagate.proofs.trail.Trail.undo.Goals as goal

pub loop-self-preserved-in-Some : goal.loop-self-preserved-in-Some
loop-self-preserved-in-Some c = taken_back c.args.vars c.args.steps c.args.self.now c.loop-self.self
    c.in-Some.step _ c.loop-self.invariant
    (record { values = refl; steps = c.in-Some.ensures.items; room = c.in-Some.ensures.capacity })
    (omega (arith, c.loop-self-test.true, c.len.ensures))

pub returns-clause-forced : goal.returns-clause-forced
returns-clause-forced c cons n forced = still_forced cons n c.args.steps c.args.self.now c.loop-self.self
    (undone c.args.vars c.args.steps c.args.self.now c.loop-self.self c.loop-self.invariant
    (omega (arith, c.loop-self-test.false, c.len.ensures)))
    c.requires.steps c.loop-self.invariant.same forced

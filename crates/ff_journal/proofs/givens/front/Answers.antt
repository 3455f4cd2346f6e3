use Rattle.ff_journal.proofs.EpochGivens.{front_is}
use Rattle.ff_journal.proofs.givens.front.Goals as goal

pub returns-then-left-eq0-clause-changes : goal.returns-then-left-eq0-clause-changes
returns-then-left-eq0-clause-changes c l = front_is c.args.journal.now c.loop-i.i c.loop-i.left c.args.epoch c.loop-i.invariant c.if-left-eq0.true

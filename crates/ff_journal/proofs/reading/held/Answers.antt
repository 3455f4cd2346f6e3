use Rattle.std.proofs.Common.{◌∙◌}
use Rattle.ff_journal.proofs.NextEntry.{held_next}
use Rattle.ff_journal.proofs.reading.held.Goals as goal

pub loop-i-preserved : goal.loop-i-preserved
loop-i-preserved c = c.held_next-held.ensures
    ∙ held_next c.args.viewer c.args.pair c.args.journal.now c.loop-i.i c.index-journal-i.result c.loop-i.held c.loop-i-test.true c.index-journal-i.is c.loop-i.invariant

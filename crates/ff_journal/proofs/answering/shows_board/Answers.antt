use Rattle.std.proofs.Common.{◌∙◌}
use Rattle.ff_journal.proofs.LastPublished.{shown_next}
use Rattle.ff_journal.proofs.answering.shows_board.Goals as goal

pub loop-i-preserved : goal.loop-i-preserved
loop-i-preserved c = c.shown_next-shown.ensures
    ∙ shown_next c.args.journal.now c.loop-i.i c.index-journal-i.result c.loop-i.shown c.loop-i-test.true c.index-journal-i.is c.loop-i.invariant

use Rattle.ff_core.proofs.Refuted.{comes_more, comes_closed}
use Rattle.ff_core.proofs.refuting.scanned.Goals as goal

pub returns-in_ok-board-in-Quiet : goal.returns-in_ok-board-in-Quiet
returns-in_ok-board-in-Quiet c = comes_closed c.quiet_facts_are_the_closure.ensures c.args.case.now c.args.journal.now c.args.epoch c.args.givens.now c.args.facts.now c.in_ok-board-in-Quiet.board
    c.requires.givens c.requires.rule c.requires.holds c.in-Quiet.ensures c.in_ok-board-in-Quiet.ensures

pub returns-in-More : goal.returns-in-More
returns-in-More c = comes_more c.args.case.now c.args.journal.now c.args.epoch c.args.givens.now c.args.facts.now c.in-More.c c.requires.givens c.requires.holds c.in-More.ensures

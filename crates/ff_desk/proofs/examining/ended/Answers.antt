use Rattle.std.proofs.Common.{rules}
use Rattle.ff_desk.proofs.Examined.{closed_end, refuted_end}
use Rattle.ff_desk.proofs.examining.ended.Goals as goal

pub returns-in_ok-board-in-Closed-clause-end : goal.returns-in_ok-board-in-Closed-clause-end
returns-in_ok-board-in-Closed-clause-end c = closed_end c.args.case.now c.args.givens.now c.args.facts.now c.in_ok-board-in-Closed.board c.in_ok-board-in-Closed.ensures c.requires.rule (search rules)

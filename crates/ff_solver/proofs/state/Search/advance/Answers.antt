use Rattle.std.proofs.Common.{arith}
use Rattle.ff_solver.proofs.Advancing.{advanced, stays_finished, stays_spent, no_next, has_next}
use Rattle.ff_solver.proofs.state.Search.advance.Goals as goal

pub returns-then-is_none-clause-advances : goal.returns-then-is_none-clause-advances
returns-then-is_none-clause-advances c = stays_finished c.args.case.now.system.constraints c.args.turns c.args.self.now
    c.requires.search (no_next c.args.self.now.path.next c.if-is_none.ensures)

pub returns-then-turns-cost-clause-advances : goal.returns-then-turns-cost-clause-advances
returns-then-turns-cost-clause-advances c = stays_spent c.args.case.now.system.constraints c.args.turns
    c.args.self.now c.requires.search (has_next c.args.self.now.path.next c.if-is_none.ensures)
    (omega (arith, c.if-turns-cost.true, c.cost-cost.ensures))

pub returns-clause-stands : goal.returns-clause-stands
returns-clause-stands c = (advanced c.args.case.now.system.constraints c.args.turns c.args.self.now
    c.run.new.self c.run.result c.run.ensures.search c.run.ensures.same c.run.ensures.run).0

pub returns-clause-advances : goal.returns-clause-advances
returns-clause-advances c = (advanced c.args.case.now.system.constraints c.args.turns c.args.self.now
    c.run.new.self c.run.result c.run.ensures.search c.run.ensures.same c.run.ensures.run).1

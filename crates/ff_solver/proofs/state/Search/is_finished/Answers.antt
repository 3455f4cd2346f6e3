use Rattle.ff_solver.proofs.Advancing.{tells_finished, none_is}
use Rattle.ff_solver.proofs.state.Search.is_finished.Goals as goal

pub returns : goal.returns
returns c cons value at tree is = tells_finished c.args.self.now c.is_none.result (none_is c.args.self.now.path.next c.is_none.result c.is_none.ensures) cons value at tree is

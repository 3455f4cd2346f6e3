use Rattle.std.proofs.Common.{rules}
use Rattle.ff_session.proofs.Few.{has_vertices}
use Rattle.ff_session.proofs.Made.{not_folded}
use Rattle.ff_session.proofs.session.read_problem.Goals as goal

pub problem-requires : goal.problem-requires
problem-requires c = has_vertices c.args.bytes.now c.args.input.now c.requires

pub returns-clause-refused : goal.returns-clause-refused
returns-clause-refused c = not_folded c.args.bytes.now c.args.input.now c.requires c.problem.result c.problem.ensures.is

use Rattle.std.proofs.Common.{rules}
use Rattle.ff_session.proofs.Made.{not_read}
use Rattle.ff_session.proofs.session.read_input.Goals as goal

pub returns-clause-refused : goal.returns-clause-refused
returns-clause-refused c = not_read c.args.bytes.now c.read_bench.result c.read_bench.ensures.read

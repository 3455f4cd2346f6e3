use Rattle.std.proofs.Common.{rules}
use Rattle.ff_viewer.proofs.Words.{ascii_utf8}
use Rattle.ff_viewer.proofs.reading.command_of_bytes.Goals as goal

pub returns-in-Err : goal.returns-in-Err
returns-in-Err c = absurd (c.in-Err.ensures.cases.0 (ascii_utf8 c.args.bytes.now (search rules)))

use Rattle.std.proofs.Common.{codes}
use Rattle.serde_json.specs.View.{view}
use Rattle.ff_read.proofs.Sizes.{few_under}
use Rattle.ff_lined.proofs.Readings.{ok_proper}
use Rattle.ff_lined.proofs.reading.read_lines.Goals as goal

pub lines_of-requires : goal.lines_of-requires
lines_of-requires c = record { few = few_under c.args.bytes.now (view c.in_ok-object.object) c.requires c.in_ok-object.ensures (codes "lines") }

pub returns-clause-proper : goal.returns-clause-proper
returns-clause-proper c = ok_proper (view c.in_ok-object.object) c.lines_of.result c.lines_of.ensures

use Rattle.std.proofs.Common.{map}
use Rattle.serde_json.specs.View.{view}
use Rattle.ff_read.proofs.Lists.{all_of-more, get_view}
use Rattle.ff_lined.specs.Reading.{line_of}
use Rattle.ff_lined.proofs.reading.all_lines.Goals as goal

pub loop-i-preserved : goal.loop-i-preserved
loop-i-preserved c =
    let item = get_view c.args.list.now c.loop-i.i c.index-list-i.result c.loop-i-test.true c.index-list-i.is in
    rw c.in-Ok.ensures.items (all_of-more line_of (map view c.args.list.now) c.loop-i.i c.loop-i.lines.items (view c.index-list-i.result) c.in-Some.line c.loop-i.invariant item c.in-Some.ensures)

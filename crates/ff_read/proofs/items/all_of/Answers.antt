use Rattle.std.proofs.Common.{map}
use Rattle.serde_json.specs.View.{view}
use Rattle.ff_read.proofs.Lists.{get_view, all_of-more}
use Rattle.ff_read.proofs.items.all_of.Goals as goal

pub loop-i-preserved : goal.loop-i-preserved
loop-i-preserved g c =
    let item = get_view c.args.list.now c.loop-i.i c.index-list-i.result c.loop-i-test.true c.index-list-i.is in
    rw c.in-Ok.ensures.items (all_of-more g.T.FromJson.spelled (map view c.args.list.now) c.loop-i.i c.loop-i.items.items (view c.index-list-i.result) c.in-Some.item c.loop-i.invariant item c.in-Some.ensures)

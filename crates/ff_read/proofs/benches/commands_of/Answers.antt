use Rattle.std.proofs.Common.{map, rules}
use Rattle.serde_json.specs.View.{view}
use Rattle.ff_read.specs.Benches.{command_in}
use Rattle.ff_read.proofs.Lists.{get_view, all_of-more}
use Rattle.ff_read.proofs.benches.commands_of.Goals as goal

pub loop-i-preserved : goal.loop-i-preserved
loop-i-preserved c =
    let item = get_view c.args.list.now c.loop-i.i c.index-list-i.result c.loop-i-test.true c.index-list-i.is in
    rw c.in-Ok-push.ensures.items (all_of-more command_in (map view c.args.list.now) c.loop-i.i c.loop-i.commands.items (view c.index-list-i.result) c.in-Some.command c.loop-i.invariant item (search rules))

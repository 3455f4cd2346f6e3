use Rattle.std.proofs.Common.{map, sym}
use Rattle.serde_json.specs.View.{view}
use Rattle.ff_read.specs.Benches.{commands_in}
use Rattle.ff_read.specs.Scripts.{seen_lists}
use Rattle.ff_read.proofs.Lists.{all_of-more}
use Rattle.ff_read.proofs.ScriptLists.{get_seen, not_scripts, short_at}
use Rattle.ff_read.proofs.benches.all_commands.Goals as goal

pub commands_of-requires : goal.commands_of-requires
commands_of-requires c = short_at c.args.viewers.now c.loop-v.v c.index-viewers-v.result c.requires.short.1 c.loop-v-test.true c.index-viewers-v.is

pub returns-in-Err : goal.returns-in-Err
returns-in-Err c =
    not_scripts c.args.viewers.now c.loop-v.v c.index-viewers-v.result c.loop-v.scripts.items c.in-Err.no c.bad_script.result c.loop-v-test.true c.index-viewers-v.is c.loop-v.invariant c.in-Err.ensures
    c.bad_script.ensures

pub loop-v-preserved : goal.loop-v-preserved
loop-v-preserved c =
    let item = get_seen c.args.viewers.now c.loop-v.v c.index-viewers-v.result c.loop-v-test.true c.index-viewers-v.is in
    rw c.in-Ok-push.ensures.items (all_of-more commands_in (seen_lists c.args.viewers.now) c.loop-v.v c.loop-v.scripts.items (map view c.index-viewers-v.result.now) c.in-Ok.commands c.loop-v.invariant item (sym c.in-Ok.ensures))

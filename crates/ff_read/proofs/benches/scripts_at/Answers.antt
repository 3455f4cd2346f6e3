use Rattle.std.proofs.Common.{map, ap, sym, ◌∙◌, Some}
use Rattle.serde_json.specs.View.{view}
use Rattle.ff_read.specs.Benches.{script_in}
use Rattle.ff_read.specs.Scripts.{seen_lists, seen_in}
use Rattle.ff_read.proofs.Lists.{get_view, all_of-more}
use Rattle.ff_read.proofs.Members.{bad_none_at}
use Rattle.ff_read.proofs.ScriptLists.{seen_more}
use Rattle.ff_read.proofs.benches.scripts_at.Goals as goal

pub returns-in-None : goal.returns-in-None
returns-in-None c =
    let item = get_view c.args.list.now c.loop-i.i c.index-list-i.result c.loop-i-test.true c.index-list-i.is in
    bad_none_at script_in (map view c.args.list.now) c.loop-i.i (view c.index-list-i.result) item c.in-None.ensures

pub loop-i-preserved : goal.loop-i-preserved
loop-i-preserved c =
    let item = get_view c.args.list.now c.loop-i.i c.index-list-i.result c.loop-i-test.true c.index-list-i.is in
    all_of-more script_in (map view c.args.list.now) c.loop-i.i (seen_in c.loop-i.scripts) (view c.index-list-i.result) (map view c.in-Some.script.now) c.loop-i.invariant item c.in-Some.ensures
    ∙ ap Some (sym (seen_more c.loop-i.scripts.items c.in-Some.script) ∙ ap seen_lists (sym c.in_ok-push-in-Some.ensures.items))

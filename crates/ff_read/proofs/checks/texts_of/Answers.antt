use Rattle.std.proofs.Common.{◌∙◌, ap, map, Some}
use Rattle.serde_json.specs.View.{view}
use Rattle.ff_read.specs.Checks.{line_of}
use Rattle.ff_read.proofs.Lists.{get_view, all_of-more}
use Rattle.ff_read.proofs.Members.{bad_none_at}
use Rattle.ff_read.proofs.checks.texts_of.Goals as goal

pub returns-in-None : goal.returns-in-None
returns-in-None c =
    let item = get_view c.args.list.now c.loop-i.i c.index-list-i.result c.loop-i-test.true c.index-list-i.is in
    bad_none_at line_of (map view c.args.list.now) c.loop-i.i (view c.index-list-i.result) item c.in-None.ensures

pub loop-i-preserved : goal.loop-i-preserved
loop-i-preserved c =
    let item = get_view c.args.list.now c.loop-i.i c.index-list-i.result c.loop-i-test.true c.index-list-i.is in
    rw c.in_ok-push-in-Some.ensures.items (all_of-more line_of (map view c.args.list.now) c.loop-i.i c.loop-i.texts.items (view c.index-list-i.result) c.of.result c.loop-i.invariant item
    (ap Some (c.of.ensures ∙ c.in_ok-from_str-in-Some.ensures.ok) ∙ c.in-Some.ensures))

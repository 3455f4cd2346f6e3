use Rattle.std.proofs.Common.{rules, map, true}
use Rattle.serde_json.specs.View.{view}
use Rattle.ff_read.specs.Spelling.{ends_of}
use Rattle.ff_read.specs.Seen.{Adds}
use Rattle.ff_read.proofs.Lists.{get_view, all_of-more}
use Rattle.ff_read.proofs.edges.one_by_one.Goals as goal

pub returns-in_default : goal.returns-in_default
returns-in_default c = record {
  item = view c.index-list-i.result;
  is = get_view c.args.list.now c.loop-i.i c.index-list-i.result c.loop-i-test.true c.index-list-i.is;
  front = c.loop-i.edges.items;
  before = c.loop-i.invariant.0;
  edges = c.loop-i.invariant.1.good;
  bad = λ new e i. search rules;
}

pub returns-in-Ok-false : goal.returns-in-Ok-false
returns-in-Ok-false c = record {
  item = view c.index-list-i.result;
  is = get_view c.args.list.now c.loop-i.i c.index-list-i.result c.loop-i-test.true c.index-list-i.is;
  front = c.loop-i.edges.items;
  before = c.loop-i.invariant.0;
  edges = c.loop-i.invariant.1.good;
  bad = λ new e i. search rules;
}

pub loop-i-preserved : goal.loop-i-preserved
loop-i-preserved c =
    let item = get_view c.args.list.now c.loop-i.i c.index-list-i.result c.loop-i-test.true c.index-list-i.is in
    let spelled = all_of-more ends_of (map view c.args.list.now) c.loop-i.i c.loop-i.edges.items (view c.index-list-i.result) c.in-Some.ends c.loop-i.invariant.0 item c.in-Some.ensures in
    let added : Adds c.args.n c.loop-i.edges.items c.in-Some.ends c.add_edge.new.edges.items c.add_edge.new.seen true = search rules in
    (rw added.0 spelled, added.2)

use Rattle.std.proofs.Common.{◌+◌, ◌∙◌, ap}
use Rattle.std.proofs.lemmas.List.{length_push}
use Rattle.ff_drawn.proofs.EdgeExtents.{extents_more, extents_all}
use Rattle.ff_drawn.proofs.extents.edge_extents.Goals as goal

pub loop-e-preserved : goal.loop-e-preserved
loop-e-preserved c =
    let v = c.loop-e.invariant in
    let x = c.edge_extent.ensures in
    rw c.in_ok-push.ensures.items (record {
      count = length_push c.loop-e.list.items _ ∙ ap (λ n. n + 1) v.count;
      each = extents_more c.args.points.now c.args.edges.now c.loop-e.list.items c.loop-e.e _ v.count v.each x.around x.number;
    })

pub returns : goal.returns
returns c = let v = c.loop-e.invariant in extents_all c.args.points.now c.args.edges.now c.loop-e.list.items c.loop-e.e v.count v.each c.loop-e-test.false

use Rattle.std.proofs.Common.{◌+◌, ◌<◌, ◌∙◌, ap, arith}
use Rattle.std.proofs.lemmas.List.{length_push}
use Rattle.ff_drawn.specs.Extents.{IsVertexExtent}
use Rattle.ff_drawn.proofs.VertexSpots.{each_more}
use Rattle.ff_drawn.proofs.spots.vertex_extents.Goals as goal

pub loop-v-preserved : goal.loop-v-preserved
loop-v-preserved c =
    let v = c.loop-v.invariant in
    let x = c.vertex_extent.ensures in
    rw c.in_ok-push.ensures.items (record {
      count = length_push c.loop-v.list.items _ ∙ ap (λ n. n + 1) v.count;
      each = each_more (IsVertexExtent c.args.points.now) c.loop-v.list.items c.loop-v.v _ v.count v.each x.vertex x.number;
    })

pub returns : goal.returns
returns c = let v = c.loop-v.invariant in let n = v.count in record {
  each = λ i l. (v.each i (omega (arith, l, n))).0;
  all = λ k l. let m : k < c.loop-v.v = omega (arith, l, c.loop-v-test.false) in (k, omega (arith, m, n), (v.each k m).1);
}

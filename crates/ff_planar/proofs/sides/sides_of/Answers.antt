use Rattle.std.proofs.Common.{◌+◌, ◌∙◌, ap}
use Rattle.std.proofs.lemmas.List.{length_push}
use Rattle.ff_planar.proofs.FoundDarts.{seen_more}
use Rattle.ff_planar.proofs.sides.sides_of.Goals as goal

pub loop-e-preserved : goal.loop-e-preserved
loop-e-preserved c =
    let v = c.loop-e.invariant in
    rw c.in_ok-push.ensures.items (record {
      count = length_push c.loop-e.seen.items _ ∙ ap (λ n. n + 1) v.count;
      each = seen_more c.args.points.now c.args.edges.now c.args.rings.now c.loop-e.seen.items c.loop-e.e _ v.count v.each (record { left = c.face_of-left.ensures; right = c.face_of-right.ensures });
    })

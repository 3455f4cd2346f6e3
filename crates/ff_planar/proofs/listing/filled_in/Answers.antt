use Rattle.std.proofs.Common.{◌+◌, ◌∙◌, ap}
use Rattle.std.proofs.lemmas.List.{length_push}
use Rattle.ff_planar.proofs.GivenFaces.{mark_more}
use Rattle.ff_planar.proofs.listing.filled_in.Goals as goal

pub loop-e-preserved : goal.loop-e-preserved
loop-e-preserved c =
    let v = c.loop-e.invariant in
    rw c.in_ok-push.ensures.items (record {
      count = length_push c.loop-e.filled_in.items _ ∙ ap (λ n. n + 1) v.count;
      each = mark_more c.args.marks.now c.args.seen.now c.loop-e.filled_in.items c.loop-e.e _ v.count v.each c.mark_for.ensures;
    })

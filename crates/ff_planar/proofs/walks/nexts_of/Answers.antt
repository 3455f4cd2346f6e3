use Rattle.std.proofs.Common.{◌+◌, ◌∙◌, ap}
use Rattle.std.proofs.lemmas.List.{length_push}
use Rattle.ff_planar.proofs.NextTables.{next_more}
use Rattle.ff_planar.proofs.walks.nexts_of.Goals as goal

pub loop-d-preserved : goal.loop-d-preserved
loop-d-preserved c = let v = c.loop-d.invariant in rw c.in_ok-push.ensures.items (record { count = length_push c.loop-d.nexts.items _ ∙ ap (λ n. n + 1) v.count; each = next_more c.args.points.now c.args.edges.now c.args.darts.now c.loop-d.nexts.items c.loop-d.d _ v.count v.each c.next_of.ensures })

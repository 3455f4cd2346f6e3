use Rattle.std.proofs.Common.{subst}
use Rattle.std.proofs.lemmas.Result.{IfOk-weaker}
use Rattle.ff_drawn.specs.Extents.{NoneCross}
use Rattle.ff_drawn.proofs.EdgeExtents.{no_crossing}
use Rattle.ff_drawn.proofs.crossings.any_crossing.Goals as goal

pub returns : goal.returns
returns c =
    let points = c.args.points.now in
    let edges = c.args.edges.now in
    IfOk-weaker c.any_within.result _ _ (λ any h e. no_crossing points edges c.in_ok-list.list.items c.in_ok-list.ensures (subst (NoneCross points edges) c.as_mut_slice.ensures.value (h e))) c.any_within.ensures

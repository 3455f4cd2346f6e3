use Rattle.ff_types.specs.Sheets.{sheet_of}
use Rattle.ff_edges.specs.Extents.{IsRoundInner}
use Rattle.ff_edges.proofs.ExtentLists.{extents_more}
use Rattle.ff_edges.proofs.reaches.inner_extents.Goals as goal

pub loop-e-preserved : goal.loop-e-preserved
loop-e-preserved c =
    let x = c.inner_extent.ensures in
    rw c.in_ok-push.ensures.pushed (extents_more (IsRoundInner (sheet_of c.args.pattern.now c.args.faces.now c.args.folded.now)) c.loop-e.e c.loop-e.list.items c.inner_extent.result c.loop-e.invariant x.extent x.round)

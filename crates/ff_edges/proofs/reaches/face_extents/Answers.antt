use Rattle.ff_types.specs.Sheets.{sheet_of}
use Rattle.ff_edges.specs.Extents.{IsRoundFace}
use Rattle.ff_edges.proofs.ExtentLists.{extents_more}
use Rattle.ff_edges.proofs.reaches.face_extents.Goals as goal

pub loop-f-preserved : goal.loop-f-preserved
loop-f-preserved c =
    let x = c.face_extent.ensures in
    rw c.in_ok-push.ensures.pushed (extents_more (IsRoundFace (sheet_of c.args.pattern.now c.args.faces.now c.args.folded.now)) c.loop-f.f c.loop-f.list.items c.face_extent.result c.loop-f.invariant x.extent x.round)

use Rattle.std.proofs.Common.{◌∙◌}
use Rattle.ff_planar.proofs.Boxes.{around_more}
use Rattle.ff_planar.proofs.frames.ring_extent.Goals as goal

pub loop-i-preserved : goal.loop-i-preserved
loop-i-preserved c =
    let v = c.loop-i.invariant in
    let g = c.grown-e.ensures in
    record { around = around_more c.args.points.now c.args.ring.now c.loop-i.i c.loop-i.e c.grown-e.result v.around g.low g.high g.here g.others; number = g.number ∙ v.number }

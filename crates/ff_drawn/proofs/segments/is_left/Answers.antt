use Rattle.ff_whole.proofs.Bounds.{sign_read, above_zero, zero_above}
use Rattle.ff_whole.specs.Points.{turn}
use mir.Syntax.{w8}
use Rattle.ff_drawn.proofs.segments.is_left.Goals as goal

pub returns : goal.returns
returns c =
    let z = turn c.args.a c.args.b c.args.p in
    let e = sign_read w8 z c.orient.ensures tt in
    (above_zero _ z e, zero_above _ z e)

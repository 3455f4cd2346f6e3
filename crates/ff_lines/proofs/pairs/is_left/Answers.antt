use Rattle.std.proofs.Common.{w8}
use Rattle.ff_whole.specs.Points.{turn}
use Rattle.ff_whole.proofs.Bounds.{sign_read, above_zero, zero_above}
use Rattle.ff_lines.proofs.pairs.is_left.Goals as goal

pub returns : goal.returns
returns c =
    let z = turn c.args.p c.args.q c.args.r in
    let e = sign_read w8 z c.orient.ensures tt in
    ((λ t. above_zero _ z e t), (λ l. zero_above _ z e l))

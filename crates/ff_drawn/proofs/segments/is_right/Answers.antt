use Rattle.std.proofs.Common.{◌≡◌, true, ℤ, pos, refl, ◌<ℤ◌}
use Rattle.std.specs.Int.{int_signum}
use lib.Signed.{lt_z}
use Rattle.ff_whole.proofs.Bounds.{sign_read, below_zero}
use Rattle.ff_whole.proofs.Signs.{sign-neg}
use Rattle.ff_whole.specs.Points.{turn}
use mir.Syntax.{w8}
use Rattle.ff_drawn.proofs.segments.is_right.Goals as goal

zero_below : (x z : ℤ) → x ≡ int_signum z → z <ℤ pos 0 → lt_z x (pos 0) ≡ true
zero_below x z e h = rw (e, sign-neg z h) refl

pub returns : goal.returns
returns c =
    let z = turn c.args.a c.args.b c.args.p in
    let e = sign_read w8 z c.orient.ensures tt in
    (below_zero _ z e, zero_below _ z e)

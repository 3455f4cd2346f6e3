use Rattle.std.proofs.Common.{◌≡◌, refl, ℤ, pos, negsuc, ◌<ℤ◌, true, w8, arith}
use Rattle.std.specs.Int.{int_signum}
use Rattle.std.proofs.lemmas.Int.{ints}
use lib.Signed.{lt_z}
use Rattle.ff_whole.specs.Points.{turn}
use Rattle.ff_whole.proofs.Bounds.{sign_read, below_zero}
use Rattle.ff_lines.proofs.pairs.is_right.Goals as goal

pub returns : goal.returns
returns c =
    let z = turn c.args.p c.args.q c.args.r in
    let e = sign_read w8 z c.orient.ensures tt in
    ((λ t. below_zero _ z e t), (λ l. zero_below _ z e l))
  where
    zero_below : (x z : ℤ) → x ≡ int_signum z → z <ℤ pos 0 → lt_z x (pos 0) ≡ true
    zero_below x (pos n) e h = absurd (omega (arith, ints))
    zero_below x (negsuc n) e h = rw e refl

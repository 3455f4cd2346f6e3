use Rattle.std.proofs.Common.{ℤ, pos, negsuc, zero, suc, ◌≤ℤ◌, IsTrue, arith, ap, refl}
use Rattle.std.specs.Int.{int_signum}
use Rattle.std.proofs.lemmas.Int.{ints}
use Rattle.std.proofs.lemmas.Bool.{false≢true}
use lib.Signed.{le_z}
use mir.Syntax.{w8}
use Rattle.ff_whole.proofs.Bounds.{sign_read}
use Rattle.ff_whole.proofs.Signs.{sign-pos}
use Rattle.ff_whole.specs.Points.{turn}
use Rattle.ff_whole.proofs.convex.is_on_or_left.Goals as goal

at_sign : (z : ℤ) → (IsTrue (le_z (pos 0) (int_signum z)) → pos 0 ≤ℤ z) × (pos 0 ≤ℤ z → IsTrue (le_z (pos 0) (int_signum z)))
at_sign (pos zero) = (λ h. omega (arith, ints), λ h. refl)
at_sign (pos (suc n)) = (λ h. omega (arith, ints), λ h. ap (le_z (pos 0)) (sign-pos (pos (suc n)) (omega (arith, ints))))
at_sign (negsuc n) = (λ h. absurd (false≢true h), λ h. absurd (omega (arith, ints)))

pub returns : goal.returns
returns c = let z = turn c.args.p c.args.q c.args.r in rw (sign_read w8 z c.orient.ensures tt) (at_sign z)

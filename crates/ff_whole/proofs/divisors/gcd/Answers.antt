use Rattle.std.proofs.lemmas.Nat.Gcd.{IsGcd-from_zero, IsGcd-from_mod}
use Rattle.ff_whole.proofs.divisors.gcd.Goals as goal

pub loop-n-preserved : goal.loop-n-preserved
loop-n-preserved c = λ g h. c.loop-n.invariant g (IsGcd-from_mod _ _ g h)

pub returns : goal.returns
returns c = c.loop-n.invariant _ (IsGcd-from_zero _ _ c.loop-n-test.false)

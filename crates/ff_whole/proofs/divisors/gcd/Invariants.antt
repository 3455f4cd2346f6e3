use Rattle.std.proofs.Common.{ℕ}
use Rattle.std.specs.Int.{IsGcd}
use Rattle.ff_whole.proofs.divisors.gcd.Given as goal

-- what divides m and n is what divides a and b
abbrev pub invariant-loop-n : goal.invariant-loop-n
invariant-loop-n l = (g : ℕ) → IsGcd l.m l.n g → IsGcd l.fn.a l.fn.b g

abbrev pub decreases-loop-n : goal.decreases-loop-n
decreases-loop-n l = l.n

-- Products of differences, as the code computes them.
use Rattle.std.proofs.Common.{◌≡◌, ℕ, ◌*◌, ◌+◌, ℤ, ◌+ℤ◌, ◌-ℤ◌, ◌*ℤ◌, to_z, of_z, subst, arith}
use lib.IntN.{neg_ℤ}
use Rattle.ff_whole.proofs.Laws.{neg-*ℤ}
use Rattle.ff_whole.proofs.Signs.{linear}
use mir.Syntax.{w64}
use Rattle.ff_whole.specs.Sizes.{IsBelow}
use Rattle.ff_whole.specs.declared.sizes.TheConstants.{POINT_SIZE}
use Rattle.ff_whole.proofs.Bounds.{Exactly, given, trip, difference, multiple}

pub part : {a b c d : ℤ} → IsBelow POINT_SIZE a → IsBelow POINT_SIZE b → IsBelow POINT_SIZE c → IsBelow POINT_SIZE d
    → Exactly ((POINT_SIZE + POINT_SIZE) * (POINT_SIZE + POINT_SIZE)) (to_z w64 (of_z w64 (to_z w64 (of_z w64 a) -ℤ to_z w64 (of_z w64 b))) *ℤ to_z w64 (of_z w64 (to_z w64 (of_z w64 c) -ℤ to_z w64 (of_z w64 d)))) ((a -ℤ b) *ℤ (c -ℤ d))
part a b c d = multiple (trip w64 (difference (trip w64 (given a) tt) (trip w64 (given b) tt)) tt) (trip w64 (difference (trip w64 (given c) tt) (trip w64 (given d) tt)) tt)

-- what a call gave, which its clauses say and bound
pub called : {m : ℕ} {r : ℤ} (z : ℤ) → r ≡ z → IsBelow m r → Exactly m r z
called {m} z e h = record { is = e; size = subst (IsBelow m) e h }

-- minus the opposite is plus
pub minus_opposite : (a c e : ℤ) → a -ℤ (neg_ℤ c *ℤ e) ≡ a +ℤ (c *ℤ e)
minus_opposite a c e = let q = neg-*ℤ c e in omega (arith, linear)

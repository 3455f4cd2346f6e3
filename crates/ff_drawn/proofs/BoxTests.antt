-- The four tests by which one pair of numbers is below another.
use Rattle.std.proofs.Common.{◌≡◌, ◌↔◌, arith, sym, false, IsTrue, ℤ}
use Rattle.std.proofs.lemmas.Int.{ints}
use borrow.Author.Differences.{true_is_lt}
use lib.Signed.{lt_z, le_z}
use Rattle.ff_drawn.specs.Beside.{AreBelow}

pub below_tells : (a b c d w x y z : ℤ) → w ≡ a → x ≡ b → y ≡ c → z ≡ d → le_z y w ≡ false → le_z z w ≡ false → le_z y x ≡ false
    → IsTrue (lt_z x z) ↔ AreBelow a b c d
below_tells a b c d w x y z ea eb ec ed f g h = (
  λ t. (omega (arith, ints), omega (arith, ints), omega (arith, ints), omega (arith, ints)),
  λ k. let l = k.3 in sym (true_is_lt x z (omega (arith, ints))),
)

-- The order of triples by their keys.
use Rattle.std.proofs.Common.{◌≡◌, ℕ, ◌<◌, ◌==◌, ◌&&◌, ◌||◌, ◌⊎◌, inl, inr, refl, Bool, true, false, IsTrue, List, ◌∷◌, nat_lt}
use Rattle.std.proofs.lemmas.Bool.{lt-ltb, ltb-true, false≢true, eqb-true}
use Rattle.ff_basics.proofs.Numbers.{same_number}
use Rattle.ff_basics.proofs.Tests.{of_second}
use Rattle.ff_types.specs.Pairs.{is_before}
use Rattle.ff_types.specs.Faces.{list_before}

-- what the order of pairs says
pub by_pair : (p q : ℕ × ℕ) → IsTrue (is_before p q) → (p.0 < q.0) ⊎ ((p.0 ≡ q.0) × (p.1 < q.1))
by_pair p q t = by (nat_lt p.0 q.0) (p.0 == q.0) (nat_lt p.1 q.1) refl refl refl t where
  by : (a b c : Bool) → nat_lt p.0 q.0 ≡ a → (p.0 == q.0) ≡ b → nat_lt p.1 q.1 ≡ c → IsTrue (a || (b && c)) → (p.0 < q.0) ⊎ ((p.0 ≡ q.0) × (p.1 < q.1))
  by true b c d e f t = inl (ltb-true p.0 q.0 d)
  by false true true d e f t = inr (eqb-true p.0 q.0 e, ltb-true p.1 q.1 f)
  by false true false d e f t = absurd (false≢true t)
  by false false c d e f t = absurd (false≢true t)

-- a lesser number, or the same number and then a lesser list
pub at_first : (x y : ℕ) (xs ys : List ℕ) → x < y → IsTrue (list_before (x ∷ xs) (y ∷ ys))
at_first x y xs ys l = rw (lt-ltb x y l) refl

pub at_next : (x y : ℕ) (xs ys : List ℕ) → x ≡ y → IsTrue (list_before xs ys) → IsTrue (list_before (x ∷ xs) (y ∷ ys))
at_next x y xs ys e t = of_second (nat_lt x y) ((x == y) && list_before xs ys) (rw (e, same_number y) t)

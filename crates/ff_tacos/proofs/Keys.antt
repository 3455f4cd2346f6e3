-- The order of keys: by the family first, then by the two numbers.
use Rattle.std.proofs.Common.{◌≡◌, ℕ, ◌<◌, ◌==◌, refl, subst, Bool, true, false, ◌&&◌, ◌||◌, IsTrue, List, [], ◌∷◌, nat_lt}
use Rattle.std.proofs.lemmas.Bool.{false≢true, lt-ltb}
use Rattle.ff_types.specs.declared.cites.Cite.{Cite}
use Rattle.ff_types.specs.declared.cites.Cite.TheVariants.{Transitivity, TacoTaco, TacoFace, TacoEdge, FlatFace, FlatEdge}
use Rattle.ff_types.specs.Faces.{list_before}
use Rattle.ff_types.specs.Pairs.{is_before}
use Rattle.ff_types.specs.Cases.{key}

abbrev pub family : Cite → ℕ
family (Transitivity f g h at) = 0
family (TacoTaco e k) = 1
family (TacoFace e face at) = 2
family (TacoEdge e flat) = 3
family (FlatFace flat face at) = 4
family (FlatEdge flat flat2) = 5

abbrev numbers : Cite → List ℕ
numbers (Transitivity f g h at) = f ∷ g ∷ h ∷ []
numbers (TacoTaco e k) = e ∷ k ∷ []
numbers (TacoFace e face at) = e ∷ face ∷ []
numbers (TacoEdge e flat) = e ∷ flat ∷ []
numbers (FlatFace flat face at) = flat ∷ face ∷ []
numbers (FlatEdge flat flat2) = flat ∷ flat2 ∷ []

key_is : (c : Cite) → family c ∷ numbers c ≡ key c
key_is (Transitivity f g h at) = refl
key_is (TacoTaco e k) = refl
key_is (TacoFace e face at) = refl
key_is (TacoEdge e flat) = refl
key_is (FlatFace flat face at) = refl
key_is (FlatEdge flat flat2) = refl

first_before : (x y : ℕ) (xs ys : List ℕ) → x < y → IsTrue (list_before (x ∷ xs) (y ∷ ys))
first_before x y xs ys l = rw (lt-ltb x y l) refl

pub family_before : (c d : Cite) → family c < family d → IsTrue (list_before (key c) (key d))
family_before c d l = subst (λ ks. IsTrue (list_before ks (key d))) (key_is c)
    (subst (λ ks. IsTrue (list_before (family c ∷ numbers c) ks)) (key_is d)
    (first_before (family c) (family d) (numbers c) (numbers d) l))

-- the same family
pub numbers_before : (a b c d : ℕ) → IsTrue (is_before (a, b) (c, d))
    → IsTrue (list_before (a ∷ b ∷ []) (c ∷ d ∷ []))
numbers_before a b c d t = by (nat_lt a c) (a == c) (nat_lt b d) (b == d) t where
  by : (x y z w : Bool) → IsTrue (x || (y && z)) → IsTrue (x || (y && (z || (w && false))))
  by true y z w t = refl
  by false true true w t = refl
  by false true false w t = absurd (false≢true t)
  by false false z w t = absurd (false≢true t)

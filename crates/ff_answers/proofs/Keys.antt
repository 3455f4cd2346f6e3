-- Keys are in an order.
use Rattle.std.proofs.Common.{◌≡◌, ◌⊎◌, inl, inr, ℕ, ◌<◌, ◌==◌, ◌&&◌, List, [], ◌∷◌, nat_lt, IsTrue, refl, sym, ap, ◌∙◌, arith}
use Rattle.std.proofs.lemmas.Bool.{false≢true, lt-ltb, eq-eqb, ltb-true, eqb-true}
use Rattle.ff_basics.proofs.Tests.{both_of, either_of, of_both, of_first, of_second}
use Rattle.ff_basics.proofs.Numbers.{which}
use Rattle.ff_types.specs.Faces.{list_before}

abbrev Before : List ℕ → List ℕ → Type 0
Before p q = IsTrue (list_before p q)

first_before : (x y : ℕ) (p q : List ℕ) → x < y → Before (x ∷ p) (y ∷ q)
first_before x y p q l = of_first (nat_lt x y) ((x == y) && list_before p q) (lt-ltb x y l)

then_before : (x y : ℕ) (p q : List ℕ) → x ≡ y → Before p q → Before (x ∷ p) (y ∷ q)
then_before x y p q e b = of_second (nat_lt x y) ((x == y) && list_before p q)
    (of_both (x == y) (list_before p q) (eq-eqb x y e) b)

before_is : (x y : ℕ) (p q : List ℕ) → Before (x ∷ p) (y ∷ q) → (x < y) ⊎ ((x ≡ y) × Before p q)
before_is x y p q b = elim (either_of (nat_lt x y) ((x == y) && list_before p q) b) [
  | inl l ↦ inl (ltb-true x y l)
  | inr r ↦ let t = both_of (x == y) (list_before p q) r in inr (eqb-true x y t.0, t.1)
]

pub keys_compare : (p q : List ℕ) → Before p q ⊎ (Before q p ⊎ (p ≡ q))
keys_compare [] [] = inr (inr refl)
keys_compare [] (y ∷ q) = inl refl
keys_compare (x ∷ p) [] = inr (inl refl)
keys_compare (x ∷ p) (y ∷ q) = elim (which x y) [
  | inl l ↦ inl (first_before x y p q l)
  | inr (inl l) ↦ inr (inl (first_before y x q p l))
  | inr (inr e) ↦ elim (keys_compare p q) [
    | inl b ↦ inl (then_before x y p q e b)
    | inr (inl b) ↦ inr (inl (then_before y x q p (sym e) b))
    | inr (inr f) ↦ inr (inr (ap (λ z. z ∷ p) e ∙ ap (λ zs. y ∷ zs) f))
  ]
]

pub keys_later : (p q r : List ℕ) → Before p q → Before q r → Before p r
keys_later [] q [] a b = absurd (never q b) where
  never : (q : List ℕ) → Before q [] → ⊥
  never [] c = false≢true c
  never (y ∷ q) c = false≢true c
keys_later [] q (z ∷ r) a b = refl
keys_later (x ∷ p) [] r a b = absurd (false≢true a)
keys_later (x ∷ p) (y ∷ q) [] a b = absurd (false≢true b)
keys_later (x ∷ p) (y ∷ q) (z ∷ r) a b = elim (before_is x y p q a) [
  | inl l ↦ elim (before_is y z q r b) [
    | inl m ↦ first_before x z p r (omega (arith, l, m))
    | inr m ↦ first_before x z p r (omega (arith, l, m.0))
  ]
  | inr l ↦ elim (before_is y z q r b) [
    | inl m ↦ first_before x z p r (omega (arith, l.0, m))
    | inr m ↦ then_before x z p r (l.0 ∙ m.0) (keys_later p q r l.1 m.1)
  ]
]

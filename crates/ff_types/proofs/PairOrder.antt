-- A list of pairs is sorted where each pair comes after the one before.
use Rattle.std.proofs.Common.{◌≡◌, ℕ, zero, suc, ◌-◌, ◌<◌, ◌==◌, Bool, true, false, ◌&&◌, ◌||◌, List, length, refl, sym, ◌∙◌, subst, Some, arith, IsTrue, slice_get, nat_lt, ◌⊎◌, inl, inr}
use Rattle.std.proofs.lemmas.Bool.{eqb-true, eqb-false, lt-ltb}
use Rattle.std.proofs.lemmas.Option.{slice_get-get_or, slice_get_within, get_or_from_slice_get}
use Rattle.ff_basics.proofs.Numbers.{same_number}
use Rattle.ff_types.specs.Pairs.{AreSorted, IsNext, is_before, pair_at}
use Rattle.ff_types.proofs.SortedPairs.{before_is}

first_before : (p q : ℕ × ℕ) → p.0 < q.0 → IsTrue (is_before p q)
first_before p q h = rw (lt-ltb p.0 q.0 h) refl

second_before : (p q : ℕ × ℕ) → p.0 ≡ q.0 → p.1 < q.1 → IsTrue (is_before p q)
second_before p q e h = by (nat_lt p.0 q.0) where
  same : IsTrue (p.0 == q.0 && nat_lt p.1 q.1)
  same = rw (e, same_number q.0, lt-ltb p.1 q.1 h) refl

  by : (b : Bool) → IsTrue (b || (p.0 == q.0 && nat_lt p.1 q.1))
  by true = refl
  by false = same

pub before_trans : (p q r : ℕ × ℕ) → IsTrue (is_before p q) → IsTrue (is_before q r) → IsTrue (is_before p r)
before_trans p q r h k = by (before_is p q h) (before_is q r k) where
  by : (p.0 < q.0) ⊎ ((p.0 ≡ q.0) × (p.1 < q.1)) → (q.0 < r.0) ⊎ ((q.0 ≡ r.0) × (q.1 < r.1)) → IsTrue (is_before p r)
  by (inl a) (inl b) = first_before p r (omega (arith, a, b))
  by (inl a) (inr b) = first_before p r (omega (arith, a, b.0))
  by (inr a) (inl b) = first_before p r (omega (arith, a.0, b))
  by (inr a) (inr b) = second_before p r (a.0 ∙ b.0) (omega (arith, a.1, b.1))

there : (list : List (ℕ × ℕ)) (n : ℕ) → n < length list → slice_get list n ≡ Some (pair_at list n)
there list n h = slice_get-get_or list n (0, 0) h

pub sorted_from_next : (list : List (ℕ × ℕ)) → ((k : ℕ) → k < length list → IsNext list k) → AreSorted list
sorted_from_next list f = record {
  rising = λ n p e. subst (λ (q : ℕ × ℕ). q.0 < q.1) (get_or_from_slice_get list n p (0, 0) e) (f n (slice_get_within list n p e)).rising;
  sorted = λ m n p q l a b. subst (λ r. IsTrue (is_before r q)) (get_or_from_slice_get list m p (0, 0) a) (subst (λ r. IsTrue (is_before (pair_at list m) r)) (get_or_from_slice_get list n q (0, 0) b) (far m n l (slice_get_within list n q b)));
} where
  step : (n : ℕ) → suc n < length list → IsTrue (is_before (pair_at list n) (pair_at list (suc n)))
  step n h = subst (λ k. IsTrue (is_before (pair_at list k) (pair_at list (suc n)))) less ((f (suc n) h).after (omega arith)) where
    less : suc n - 1 ≡ n
    less = omega arith

  far : (m n : ℕ) → m < n → n < length list → IsTrue (is_before (pair_at list m) (pair_at list n))
  far m zero l h = absurd (omega (arith, l))
  far m (suc n) l h = by (m == n) refl (far m n) where
    by : (b : Bool) → (m == n) ≡ b → (m < n → n < length list → IsTrue (is_before (pair_at list m) (pair_at list n))) → IsTrue (is_before (pair_at list m) (pair_at list (suc n)))
    by true e g = subst (λ k. IsTrue (is_before (pair_at list k) (pair_at list (suc n)))) (sym (eqb-true m n e)) (step n h)
    by false e g = before_trans (pair_at list m) (pair_at list n) (pair_at list (suc n)) (g (less (eqb-false m n e)) (omega (arith, h))) (step n h) where
      less : (m ≡ n → ⊥) → m < n
      less d = grind (arith, l, d)

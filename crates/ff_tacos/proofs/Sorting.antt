-- What sorting pairs that are all different comes to.
use Rattle.std.proofs.Common.{◌≡◌, ◌≢◌, ℕ, ◌<◌, ◌≤◌, ◌==◌, inl, inr, refl, sym, ◌∙◌, ap, arith, Bool, true, false, ◌&&◌, ◌||◌, IsTrue, List, nat_lt, Some, slice_get, Less, Equal}
use Rattle.std.specs.List.{IsDistinct}
use Rattle.std.specs.List.Sorted.{IsPermutation, IsSorted}
use Rattle.std.specs.Ordering.{ordering_then, nat_cmp, is_lt}
use Rattle.std.specs.Cmp.{IsTotalOrder, nat_cmp_is}
use Rattle.std.proofs.lemmas.Bool.{false≢true, lt-ltb, cases_lt, eqb-true}
use Rattle.std.proofs.lemmas.Cmp.{nat_cmp_total, then_total, on_total}
use Rattle.std.proofs.lemmas.List.Sorted.{sorted_far, ranks_by}
use Rattle.std.proofs.lemmas.Map.Keys.{IsDistinct-IsPermutation, IsDistinct-from_apart, apart_from_distinct}
use Rattle.std.proofs.lemmas.Option.{slice_get-get_or, slice_get_within, get_or_from_slice_get}
use Rattle.ff_basics.proofs.Numbers.{same_number}
use Rattle.ff_basics.proofs.Tests.{and_true}
use Rattle.ff_types.specs.Pairs.{is_before}
use Rattle.ff_tacos.specs.Making.{pair_cmp}
use Rattle.ff_tacos.proofs.Rising.{Rising, rising_at, rising_from}

-- ---- all different

abbrev same_pair : ℕ × ℕ → ℕ × ℕ → Bool
same_pair p q = p.0 == q.0 && p.1 == q.1

one_pair : (q p : ℕ × ℕ) → (q.0 ≡ p.0) → (q.1 ≡ p.1) → q ≡ p
one_pair (a, b) (c, d) e f = ap (λ x. (x, b)) e ∙ ap (λ y. (c, y)) f

not_same : (p q : ℕ × ℕ) → p ≢ q → same_pair p q ≡ false
not_same p q n = by (same_pair p q) refl where
  by : (b : Bool) → same_pair p q ≡ b → same_pair p q ≡ false
  by false e = e
  by true e = let b = and_true (p.0 == q.0) (p.1 == q.1) e in
      absurd (n (one_pair p q (eqb-true _ _ b.0) (eqb-true _ _ b.1)))

same_itself : (p : ℕ × ℕ) → same_pair p p ≡ true
same_itself p = rw (same_number p.0, same_number p.1) refl

flips : (p q : ℕ × ℕ) → same_pair p q ≡ same_pair q p
flips p q = ap (λ b. b && p.1 == q.1) (turned p.0 q.0) ∙ ap (λ b. q.0 == p.0 && b) (turned p.1 q.1) where
  turned : (x y : ℕ) → (x == y) ≡ (y == x)
  turned x y = grind arith

different : (xs list : List (ℕ × ℕ)) → Rising (λ p q. p ≢ q) xs → IsPermutation xs list
    → IsDistinct same_pair list
different xs list h moved = IsDistinct-IsPermutation same_pair flips xs list moved
    (IsDistinct-from_apart same_pair xs
    (λ i j d l m. not_same _ _ (rising_at (λ p q. p ≢ q) xs h i j _ _ l
    (slice_get-get_or xs i d (omega (arith, l, m))) (slice_get-get_or xs j d m))))

-- ---- pairs in order

pair_total : IsTotalOrder pair_cmp
pair_total = then_total (on_total (λ (p : ℕ × ℕ). p.0) nat_cmp_total)
    (on_total (λ (p : ℕ × ℕ). p.1) nat_cmp_total)

cmp_less : (x y : ℕ) → x < y → nat_cmp x y ≡ Less
cmp_less x y h = sym (nat_cmp_is x y Less h)

cmp_equal : (x y : ℕ) → x ≡ y → nat_cmp x y ≡ Equal
cmp_equal x y h = sym (nat_cmp_is x y Equal h)

less_by_first : (p q : ℕ × ℕ) → p.0 < q.0 → is_lt (pair_cmp p q) ≡ true
less_by_first p q h = ap (λ o. is_lt (ordering_then o (nat_cmp p.1 q.1))) (cmp_less p.0 q.0 h)

less_by_second : (p q : ℕ × ℕ) → p.0 ≡ q.0 → p.1 < q.1 → is_lt (pair_cmp p q) ≡ true
less_by_second p q e h = ap (λ o. is_lt (ordering_then o (nat_cmp p.1 q.1))) (cmp_equal p.0 q.0 e)
    ∙ ap is_lt (cmp_less p.1 q.1 h)

before_by_first : (p q : ℕ × ℕ) → p.0 < q.0 → IsTrue (is_before p q)
before_by_first p q h = rw (lt-ltb p.0 q.0 h) refl

before_by_second : (p q : ℕ × ℕ) → p.0 ≡ q.0 → p.1 < q.1 → IsTrue (is_before p q)
before_by_second p q e h = by (nat_lt p.0 q.0) where
  same : IsTrue (p.0 == q.0 && nat_lt p.1 q.1)
  same = rw (e, same_number q.0, lt-ltb p.1 q.1 h) refl

  by : (b : Bool) → IsTrue (b || (p.0 == q.0 && nat_lt p.1 q.1))
  by true = refl
  by false = same

one_number : (i j : ℕ) → j ≤ i → i ≤ j → i ≡ j
one_number i j a b = omega (arith, a, b)

-- not after, and not the same
before_by : (p q : ℕ × ℕ) → is_lt (pair_cmp q p) ≡ false → p ≢ q → IsTrue (is_before p q)
before_by p q not differ = elim (cases_lt p.0 q.0) [
  | inl l ↦ before_by_first p q l
  | inr l ↦ elim (cases_lt q.0 p.0) [
    | inl m ↦ absurd (false≢true (sym not ∙ less_by_first q p m))
    | inr m ↦ elim (cases_lt p.1 q.1) [
      | inl n ↦ before_by_second p q (one_number p.0 q.0 l m) n
      | inr n ↦ elim (cases_lt q.1 p.1) [
        | inl o ↦ absurd (false≢true (sym not ∙ less_by_second q p (one_number q.0 p.0 m l) o))
        | inr o ↦ absurd (differ (one_pair p q (one_number p.0 q.0 l m) (one_number p.1 q.1 n o)))
      ]
    ]
  ]
]

-- ---- sorted

pub rising_sorted : (xs list : List (ℕ × ℕ)) → Rising (λ p q. p ≢ q) xs → IsPermutation xs list
    → IsSorted pair_cmp list → Rising (λ p q. IsTrue (is_before p q)) list
rising_sorted xs list h moved sorted =
    rising_from _ list (λ m n p q l a b. before_by p q (up m n p q l a b) (apart m n p q l a b)) where
      up : (m n : ℕ) (p q : ℕ × ℕ) → m < n → slice_get list m ≡ Some p → slice_get list n ≡ Some q
          → is_lt (pair_cmp q p) ≡ false
      up m n p q l a b =
          let r = sorted_far (λ x y. is_lt (pair_cmp x y)) (ranks_by pair_total (λ (p : ℕ × ℕ). p)) list
          sorted m n p (omega (arith, l)) (slice_get_within list n q b) in
          (λ i. is_lt (pair_cmp (sym (get_or_from_slice_get list n q p b) i)
          (sym (get_or_from_slice_get list m p p a) i))) ∙ r

      apart : (m n : ℕ) (p q : ℕ × ℕ) → m < n → slice_get list m ≡ Some p → slice_get list n ≡ Some q → p ≢ q
      apart m n p q l a b e =
          let no = apart_from_distinct same_pair list m n p (different xs list h moved) l
          (slice_get_within list n q b) in
          let yes = (λ i. same_pair (get_or_from_slice_get list m p p a i)
          ((get_or_from_slice_get list n q p b ∙ sym e) i)) ∙ same_itself p in
          false≢true (sym no ∙ yes)

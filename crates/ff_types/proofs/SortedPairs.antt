-- Where a pair stands in a sorted list, and that halving finds it.
use Rattle.std.proofs.Common.{◌≡◌, ℕ, zero, suc, ◌+◌, ◌<◌, ◌≤◌, ◌==◌, Bool, true, false, ◌&&◌, ◌||◌, List, [], ◌∷◌, length, refl, sym, ◌∙◌, ap, subst, Some, None, Option, arith, IsTrue, slice_get, if◌then◌else◌, option_map, nat_lt, ◌⊎◌, inl, inr, get_or, Result, Ok, Err, Ordering, Less, Equal, Greater}
use Rattle.std.specs.Ordering.{ordering_then, nat_cmp, is_lt, MatchOrdering}
use Rattle.std.specs.Cmp.{IsTotalOrder, nat_cmp_is, ranks}
use Rattle.std.specs.List.Sorted.{IsBinarySearchResult, IsSearchInRange, IsSortedBy, IsPartitionPoint}
use Rattle.std.specs.Result.{result_ok}
use Rattle.std.proofs.lemmas.Bool.{false≢true, eqb-true, ltb-true, ltb-false, lt-ltb}
use Rattle.std.proofs.lemmas.Cmp.{nat_cmp_total, then_total, on_total}
use Rattle.std.proofs.lemmas.List.Sorted.{searchable_from_sorted}
use Rattle.std.proofs.lemmas.Option.{slice_get-get_or, slice_get_within, get_or_from_slice_get, same_Some}
use Rattle.ff_basics.proofs.Tests.{and_true}
use Rattle.ff_basics.proofs.Numbers.{same_number}
use Rattle.ff_types.specs.Pairs.{AreSorted, is_before, place_in, number_of, StandsIn, in_order}

-- ---- a pair stands at one place

either_true : (b c : Bool) → (b || c) ≡ true → (b ≡ true) ⊎ (c ≡ true)
either_true true c e = inl refl
either_true false c e = inr e

-- before, in numbers
pub before_is : (p q : ℕ × ℕ) → IsTrue (is_before p q) → (p.0 < q.0) ⊎ ((p.0 ≡ q.0) × (p.1 < q.1))
before_is p q h = elim (either_true _ _ h) [
  | inl e ↦ inl (ltb-true _ _ e)
  | inr e ↦ let b = and_true _ _ e in inr (eqb-true _ _ b.0, ltb-true _ _ b.1)
]

not_before_itself : (p : ℕ × ℕ) → IsTrue (is_before p p) → ⊥
not_before_itself p h = elim (before_is p p h) [
  | inl e ↦ omega (arith, e)
  | inr e ↦ omega (arith, e.1)
]

same_place : (list : List (ℕ × ℕ)) (p : ℕ × ℕ) (m n : ℕ) → AreSorted list → slice_get list m ≡ Some p → slice_get list n ≡ Some p → (m < n → ⊥)
same_place list p m n h a b l = not_before_itself p (h.sorted m n p p l a b)

pub stands_once : (list : List (ℕ × ℕ)) (p : ℕ × ℕ) (r s : Option ℕ) → AreSorted list → StandsIn list p r → StandsIn list p s → r ≡ s
stands_once list p (Some m) (Some n) h a b = ap Some (one (same_place list p m n h a b) (same_place list p n m h b a)) where
  one : (m < n → ⊥) → (n < m → ⊥) → m ≡ n
  one x y = grind (arith, x, y)
stands_once list p (Some m) None h a b = absurd (b m a)
stands_once list p None (Some n) h a b = absurd (a n b)
stands_once list p None None h a b = refl

-- ---- the search from the front finds it

next_stands : (q : ℕ × ℕ) (list : List (ℕ × ℕ)) (p : ℕ × ℕ) (r : Option ℕ) → (q ≡ p → ⊥) → StandsIn list p r → StandsIn (q ∷ list) p (option_map (λ n. n + 1) r)
next_stands q list p (Some n) d h = subst (λ k. slice_get (q ∷ list) k ≡ Some p) (add_one n) h where
  add_one : (n : ℕ) → suc n ≡ n + 1
  add_one n = omega arith
next_stands q list p None d h = λ n. elsewhere n where
  elsewhere : (n : ℕ) → slice_get (q ∷ list) n ≡ Some p → ⊥
  elsewhere zero e = d (same_Some q p e)
  elsewhere (suc n) e = h n e

same_pair : (q p : ℕ × ℕ) → (q.0 ≡ p.0) → (q.1 ≡ p.1) → q ≡ p
same_pair (a, b) (c, d) e f = ap (λ x. (x, b)) e ∙ ap (λ y. (c, y)) f

pair_itself : (p : ℕ × ℕ) → (p.0 == p.0 && p.1 == p.1) ≡ true
pair_itself p = rw (same_number p.0, same_number p.1) refl

pub place_stands : (list : List (ℕ × ℕ)) (p : ℕ × ℕ) → StandsIn list p (place_in list p)
place_stands [] p = λ n e. omega (arith, slice_get_within [] n p e)
place_stands (q ∷ list) p = by (q.0 == p.0 && q.1 == p.1) refl (place_stands list p) where
  differ : (q.0 == p.0 && q.1 == p.1) ≡ false → q ≡ p → ⊥
  differ f e = false≢true (sym f ∙ (ap (λ x. x.0 == p.0 && x.1 == p.1) e ∙ pair_itself p))

  by : (b : Bool) → (q.0 == p.0 && q.1 == p.1) ≡ b → StandsIn list p (place_in list p) → StandsIn (q ∷ list) p (if b then Some 0 else option_map (λ n. n + 1) (place_in list p))
  by true e h = let b = and_true (q.0 == p.0) (q.1 == p.1) e in ap Some (same_pair q p (eqb-true _ _ b.0) (eqb-true _ _ b.1))
  by false e h = next_stands q list p (place_in list p) (differ e) h

-- ---- halving finds it

-- the order of pairs
abbrev pair_cmp : ℕ × ℕ → ℕ × ℕ → Ordering
pair_cmp p q = ordering_then (nat_cmp p.0 q.0) (nat_cmp p.1 q.1)

pair_cmp_total : IsTotalOrder pair_cmp
pair_cmp_total = then_total (on_total (λ (p : ℕ × ℕ). p.0) nat_cmp_total) (on_total (λ (p : ℕ × ℕ). p.1) nat_cmp_total)

cmp_greater : (x y : ℕ) → y < x → nat_cmp x y ≡ Greater
cmp_greater x y h = sym (nat_cmp_is x y Greater h)

cmp_equal : (x y : ℕ) → x ≡ y → nat_cmp x y ≡ Equal
cmp_equal x y h = sym (nat_cmp_is x y Equal h)

after_greater : (p q : ℕ × ℕ) → IsTrue (is_before p q) → pair_cmp q p ≡ Greater
after_greater p q h = elim (before_is p q h) [
  | inl e ↦ ap (λ o. ordering_then o (nat_cmp q.1 p.1)) (cmp_greater q.0 p.0 e)
  | inr e ↦ ap (λ o. ordering_then o (nat_cmp q.1 p.1)) (cmp_equal q.0 p.0 (sym e.0)) ∙ cmp_greater q.1 p.1 e.1
]

cmp_itself : (p : ℕ × ℕ) → pair_cmp p p ≡ Equal
cmp_itself p = ap (λ o. ordering_then o (nat_cmp p.1 p.1)) (cmp_equal p.0 p.0 refl) ∙ cmp_equal p.1 p.1 refl

rises : (list : List (ℕ × ℕ)) → AreSorted list → IsSortedBy (λ a b. is_lt (pair_cmp a b)) list
rises list h k d low high = ap is_lt (after_greater (get_or list k d) (get_or list (k + 1) d) (h.sorted k (k + 1) _ _ (omega arith) (slice_get-get_or list k d (omega arith)) (slice_get-get_or list (k + 1) d high)))

less_is_not : (o : Ordering) → o ≡ Less → o ≡ Equal → ⊥
less_is_not o a b = cc

greater_is_not : (o : Ordering) → o ≡ Greater → o ≡ Equal → ⊥
greater_is_not o a b = cc

-- two pairs of which neither comes before the other are one
equal_is : (p q : ℕ × ℕ) → pair_cmp p q ≡ Equal → p ≡ q
equal_is p q e = by (nat_cmp p.0 q.0) (nat_cmp p.1 q.1) (ranks p.0 q.0) (ranks p.1 q.1) e where
  by : (a b : Ordering) → MatchOrdering a (p.0 < q.0) (p.0 ≡ q.0) (q.0 < p.0) → MatchOrdering b (p.1 < q.1) (p.1 ≡ q.1) (q.1 < p.1) → ordering_then a b ≡ Equal → p ≡ q
  by Less b x y e = absurd (less_is_not Less refl e)
  by Equal Less x y e = absurd (less_is_not Less refl e)
  by Equal Equal x y e = same_pair p q x y
  by Equal Greater x y e = absurd (greater_is_not Greater refl e)
  by Greater b x y e = absurd (greater_is_not Greater refl e)

below_or_not : (i n : ℕ) → (n < i) ⊎ (i ≤ n)
below_or_not i n = by (nat_lt n i) refl where
  by : (b : Bool) → nat_lt n i ≡ b → (n < i) ⊎ (i ≤ n)
  by true e = inl (ltb-true n i e)
  by false e = inr (ltb-false n i e)

nowhere : (list : List (ℕ × ℕ)) (p : ℕ × ℕ) (i : ℕ) → IsPartitionPoint (λ y. pair_cmp y p ≡ Less) (λ y. pair_cmp y p ≡ Greater) list i → (n : ℕ) → slice_get list n ≡ Some p → ⊥
nowhere list p i split n e = by (below_or_not i n) where
  here : pair_cmp (get_or list n (0, 0)) p ≡ Equal
  here = ap (λ q. pair_cmp q p) (get_or_from_slice_get list n p (0, 0) e) ∙ cmp_itself p

  by : (n < i) ⊎ (i ≤ n) → ⊥
  by (inl l) = less_is_not _ (split.0 n (0, 0) (omega arith) l) here
  by (inr l) = greater_is_not _ (split.1 n (0, 0) l (slice_get_within list n p e)) here

pub found : (list : List (ℕ × ℕ)) (p : ℕ × ℕ) (r : Result ℕ ℕ) → AreSorted list → IsSearchInRange r (length list) → IsBinarySearchResult (λ y. pair_cmp y p) list r → StandsIn list p (result_ok r)
found list p (Ok i) h inside at = slice_get-get_or list i (0, 0) inside ∙ ap Some (equal_is (get_or list i (0, 0)) p (at (0, 0)))
found list p (Err i) h inside at = nowhere list p i (at (searchable_from_sorted pair_cmp_total (λ (y : ℕ × ℕ). y) list p (rises list h)))

-- ---- numbers

-- what halving found is the number
pub number_is : (list : List (ℕ × ℕ)) (f g : ℕ) (r : Option ℕ) → AreSorted list → StandsIn list (in_order f g) r → r ≡ number_of list f g
number_is list f g r h s = stands_once list (in_order f g) r (number_of list f g) h s (place_stands list (in_order f g))

-- the pair that stands at a place has this place as its number
pub number_there : (list : List (ℕ × ℕ)) (n : ℕ) (p : ℕ × ℕ) → AreSorted list → slice_get list n ≡ Some p → number_of list p.0 p.1 ≡ Some n
number_there list n p h e = sym (number_is list p.0 p.1 (Some n) h (e ∙ ap Some (sym turned))) where
  turned : in_order p.0 p.1 ≡ p
  turned = rw (lt-ltb p.0 p.1 (h.rising n p e)) refl

-- the same where the list is read through a slice
pub number_found : (list now slice : List (ℕ × ℕ)) (f g : ℕ) (p : ℕ × ℕ) (r : Option ℕ) → AreSorted list → slice ≡ list → list ≡ now → p ≡ in_order f g → StandsIn slice p r → r ≡ number_of now f g
number_found list now slice f g p r h s v o at = rw (← v) (number_is list f g r h (subst (λ l. StandsIn l (in_order f g) r) s (subst (λ q. StandsIn slice q r) o at)))

pub number_read : (list now slice : List (ℕ × ℕ)) (n : ℕ) → AreSorted list → slice ≡ list → list ≡ now → n < length now
    → number_of now (get_or slice n (0, 0)).0 (get_or slice n (0, 0)).1 ≡ Some n
number_read list now slice n h s v l = rw s (rw v (number_there now n (get_or now n (0, 0)) (subst (λ x. AreSorted x) v h) (slice_get-get_or now n (0, 0) l)))

-- The elements that pass a test, of a list in another order.
use Rattle.std.proofs.Common.{ℕ, zero, suc, cond, ◌≡◌, ◌<◌, List, [], ◌∷◌, length, get_or, filter, arith, refl, sym, ap, subst, Bool, true, false}
use Rattle.std.specs.Prelude.{slice_set, slice_index_or}
use Rattle.std.specs.List.{swap}
use Rattle.std.specs.List.Sorted.{IsPermutation}
use Rattle.std.proofs.lemmas.List.Sorted.{IsPermutation-refl, IsPermutation-cons, IsPermutation-trans, IsPermutation-middle, IsPermutation-keeps}

module _ {X : Type 0} (p : X → Bool) where
  flipped : (x y : X) (xs : List X) → IsPermutation (filter p (x ∷ y ∷ xs)) (filter p (y ∷ x ∷ xs))
  flipped x y xs = by (p x) (p y)
    where
      by : (a b : Bool) → IsPermutation (cond a (x ∷ cond b (y ∷ filter p xs) (filter p xs)) (cond b (y ∷ filter p xs) (filter p xs)))
          (cond b (y ∷ cond a (x ∷ filter p xs) (filter p xs)) (cond a (x ∷ filter p xs) (filter p xs)))
      by true true = IsPermutation-middle (x ∷ []) y (filter p xs)
      by true false = IsPermutation-refl (x ∷ filter p xs)
      by false true = IsPermutation-refl (y ∷ filter p xs)
      by false false = IsPermutation-refl (filter p xs)

  below : (x : X) (xs ys : List X) → IsPermutation (filter p xs) (filter p ys)
      → IsPermutation (filter p (x ∷ xs)) (filter p (x ∷ ys))
  below x xs ys h = by (p x)
    where
      by : (a : Bool) → IsPermutation (cond a (x ∷ filter p xs) (filter p xs)) (cond a (x ∷ filter p ys) (filter p ys))
      by true = IsPermutation-cons x (filter p xs) (filter p ys) h
      by false = h

  -- the first element in the place k of the others, and that one in its place
  first_moved : (xs : List X) (k : ℕ) (x d : X) → k < length xs
      → IsPermutation (filter p (x ∷ xs)) (filter p (slice_index_or xs k d ∷ slice_set xs k x))
  first_moved [] k x d lt = absurd (omega (arith, lt))
  first_moved (y ∷ ys) zero x d lt = flipped x y ys
  first_moved (y ∷ ys) (suc k) x d lt =
      let g = slice_index_or ys k d in
      let zs = slice_set ys k x in
      IsPermutation-trans _ _ _ (flipped x y ys)
      (IsPermutation-trans _ _ _ (below y (x ∷ ys) (g ∷ zs) (first_moved ys k x d (omega (arith, lt))))
      (flipped y g zs))

  exchanged : (xs : List X) (i j : ℕ) (d : X) → i < length xs → j < length xs
      → IsPermutation (filter p xs)
      (filter p (slice_set (slice_set xs i (slice_index_or xs j d)) j (slice_index_or xs i d)))
  exchanged [] i j d li lj = absurd (omega (arith, li))
  exchanged (x ∷ xs) zero zero d li lj = IsPermutation-refl _
  exchanged (x ∷ xs) zero (suc j) d li lj = first_moved xs j x d (omega (arith, lj))
  exchanged (x ∷ xs) (suc i) zero d li lj = first_moved xs i x d (omega (arith, li))
  exchanged (x ∷ xs) (suc i) (suc j) d li lj =
      below x xs _ (exchanged xs i j d (omega (arith, li)) (omega (arith, lj)))

  swapped : (xs : List X) (i j : ℕ) → i < length xs → j < length xs
      → IsPermutation (filter p xs) (filter p (swap xs i j))
  swapped [] i j li lj = absurd (omega (arith, li))
  swapped (d ∷ ys) i j li lj = exchanged (d ∷ ys) i j d li lj

  pub filter_permutation : (xs ys : List X) → IsPermutation xs ys → IsPermutation (filter p xs) (filter p ys)
  filter_permutation xs = IsPermutation-keeps xs (λ l. IsPermutation (filter p xs) (filter p l))
      (IsPermutation-refl (filter p xs))
      (λ l i j li lj h. IsPermutation-trans _ _ _ h (swapped l i j li lj))

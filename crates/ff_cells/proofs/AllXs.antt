-- The x of all points in order: none is between two neighbours.
use Rattle.std.proofs.Common.{ℕ, zero, suc, ◌≡◌, ◌⊎◌, inl, inr, ◌+◌, ◌-◌, ◌<◌, ◌≤◌, List, [], ◌∷◌, map, length, get_or, arith, refl, sym, ap, subst, ◌∙◌, ℤ, pos, ◌≤ℤ◌}
use Rattle.std.specs.Ordering.{int_cmp}
use Rattle.std.specs.List.{All, Contains}
use Rattle.std.proofs.lemmas.Int.{ints}
use Rattle.std.proofs.lemmas.List.{get_or_default}
use Rattle.std.specs.List.Sorted.{IsSorted}
use Rattle.std.proofs.lemmas.List.Sorted.{Contains-permutation, IsPermutation-sym}
use Rattle.ff_basics.proofs.Memberships.{first_member, in_map, later_member}
use Rattle.ff_whole.specs.declared.points.Pt.{Pt}
use Rattle.ff_whole.specs.declared.sizes.TheConstants.{POINT_SIZE}
use Rattle.ff_whole.specs.Sizes.{IsBelow}
use Rattle.ff_whole.specs.Points.{IsNear, origin}
use Rattle.ff_whole.specs.Convex.{point_at}
use Rattle.ff_cells.specs.Xs.{AreXs}
use Rattle.ff_cells.proofs.Reached.{not_lower}

map_in : {A B : Type 0} (f : A → B) (xs : List A) (k : ℕ) (d : A) → k < length xs
    → Contains (map f xs) (f (get_or xs k d))
map_in f [] k d lt = absurd (omega (arith, lt))
map_in f (x ∷ xs) zero d lt = first_member (f x) (map f xs) (f x) refl
map_in f (x ∷ xs) (suc k) d lt = later_member (f x) (map f xs) (f (get_or xs k d))
    (map_in f xs k d (omega (arith, lt)))

pub rises : (xs : List ℤ) → IsSorted int_cmp xs → (k : ℕ) → k + 1 < length xs
    → get_or xs k (pos 0) ≤ℤ get_or xs (k + 1) (pos 0)
rises xs sorted k lt = not_lower (get_or xs k (pos 0)) (get_or xs (k + 1) (pos 0))
    (sorted k (pos 0) (omega arith) lt)

module _ {points : List Pt} {xs : List ℤ} (are : AreXs points xs) where
  abbrev pub at : ℕ → ℤ
  at k = get_or xs k (pos 0)

  next_up : (k : ℕ) → k + 1 < length xs → at k ≤ℤ at (k + 1)
  next_up = rises xs are.sorted

  pub up : (n i : ℕ) → i + n < length xs → at i ≤ℤ at (i + n)
  up zero i lt = let e : i + 0 ≡ i = omega arith in subst (λ j. at i ≤ℤ at j) (sym e) (omega (arith, ints))
  up (suc n) i lt =
      let e : i + suc n ≡ i + n + 1 = omega arith in
      let a = up n i (omega (arith, lt)) in
      let b = next_up (i + n) (omega (arith, lt)) in
      subst (λ j. at i ≤ℤ at j) (sym e) (omega (arith, ints, a, b))

  pub up_to : (i j : ℕ) → i ≤ j → j < length xs → at i ≤ℤ at j
  up_to i j le lt = let e : i + (j - i) ≡ j = omega (arith, le) in
      subst (λ k. at i ≤ℤ at k) e (up (j - i) i (subst (λ k. k < length xs) (sym e) lt))

  pub has : (u : ℕ) → u < length points → (k : ℕ) × (k < length xs) × (at k ≡ (point_at points u).x)
  has u lt =
      let c = Contains-permutation (map (λ p. p.x) points) xs (point_at points u).x are.same
      (map_in (λ (p : Pt). p.x) points u origin lt) in
      (c.0, c.1, get_or_default xs c.0 (pos 0) (point_at points u).x c.1 ∙ c.2)

  pub from : (k : ℕ) → k < length xs → (u : ℕ) × (u < length points) × ((point_at points u).x ≡ at k)
  from k lt =
      let c = Contains-permutation xs (map (λ p. p.x) points) (at k)
      (IsPermutation-sym (map (λ p. p.x) points) xs are.same)
      (k, lt, get_or_default xs k (at k) (pos 0) lt) in
      let m = in_map (λ (p : Pt). p.x) points (at k) c in
      let i = m.1 in
      (i.0, i.1, ap (λ (p : Pt). p.x) (get_or_default points i.0 origin m.0 i.1 ∙ i.2) ∙ m.2)

  -- none is between two neighbours
  pub clear : (n u : ℕ) → n + 1 < length xs → u < length points → ((point_at points u).x ≤ℤ at n)
      ⊎ (at (n + 1) ≤ℤ (point_at points u).x)
  clear n u lt m = by (has u m)
    where
      split : (k n : ℕ) → (k ≤ n) ⊎ (n + 1 ≤ k)
      split k n = grind arith

      by : (k : ℕ) × (k < length xs) × (at k ≡ (point_at points u).x) → ((point_at points u).x ≤ℤ at n)
          ⊎ (at (n + 1) ≤ℤ (point_at points u).x)
      by (k, l, e) = elim (split k n) [
        | inl a ↦ inl (subst (λ z. z ≤ℤ at n) e (up_to k n a (omega (arith, lt))))
        | inr a ↦ inr (subst (λ z. at (n + 1) ≤ℤ z) e (up_to (n + 1) k a l))
      ]

  pub all_near : All IsNear points → All (IsBelow POINT_SIZE) xs
  all_near near k d lt =
      let f = from k lt in
      subst (IsBelow POINT_SIZE) (f.2 ∙ get_or_default xs k (pos 0) d lt) (near f.0 origin f.1).x_below

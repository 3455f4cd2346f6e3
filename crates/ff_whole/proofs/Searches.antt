-- Searching the numbers below n, and rows of numbers below n.
use Rattle.std.proofs.Common.{◌≡◌, ◌⊎◌, inl, inr, ℕ, zero, suc, ◌<◌, arith, sym, subst, ℤ, pos, ◌+ℤ◌, ◌<ℤ◌, ◌≤ℤ◌}
use Rattle.ff_basics.proofs.Numbers.{below_or_last}
use Rattle.ff_whole.proofs.Signs.{linear}

-- one below n has the one fact, or all have the other
pub search : (n : ℕ) (P N : ℕ → Type 0) → ((i : ℕ) → i < n → P i ⊎ N i)
    → ((i : ℕ) × (i < n) × P i) ⊎ ((i : ℕ) → i < n → N i)
search zero P N h = inr (λ i l. absurd (omega arith))
search (suc n) P N h = elim (search n P N (λ i l. h i (omega arith))) [
  | inl r ↦ let l = r.1 in inl (r.0, omega arith, r.2)
  | inr all ↦ elim (h n (omega arith)) [
    | inl p ↦ inl (n, omega arith, p)
    | inr q ↦ inr (λ i l. elim (below_or_last n i l) [ inl k ↦ all i k | inr e ↦ subst N (sym e) q ])
  ]
]

-- ---- sums

-- f 0, .., f (n - 1) added up
abbrev pub sum : ℕ → (ℕ → ℤ) → ℤ
sum zero f = pos 0
sum (suc n) f = sum n f +ℤ f n

-- a sum of numbers that are not negative is not negative
pub sum-nonneg : (n : ℕ) (f : ℕ → ℤ) → ((i : ℕ) → i < n → pos 0 ≤ℤ f i) → pos 0 ≤ℤ sum n f
sum-nonneg zero f h = omega (arith, linear)
sum-nonneg (suc n) f h = let a = sum-nonneg n f (λ i l. h i (omega arith)) in let b = h n (omega arith) in
    omega (arith, linear)

-- and positive where one of them is
pub sum-pos : (n : ℕ) (f : ℕ → ℤ) → ((i : ℕ) → i < n → pos 0 ≤ℤ f i) → (k : ℕ) → k < n → pos 0 <ℤ f k
    → pos 0 <ℤ sum n f
sum-pos zero f h k l p = absurd (omega arith)
sum-pos (suc n) f h k l p = elim (below_or_last n k l) [
  | inl s ↦ let a = sum-pos n f (λ i m. h i (omega arith)) k s p in let b = h n (omega arith) in omega (arith, linear)
  | inr e ↦ let a = sum-nonneg n f (λ i m. h i (omega arith)) in let b = subst (λ i. pos 0 <ℤ f i) e p in
      omega (arith, linear)
]

-- a sum of zeros is 0
pub sum-zero : (n : ℕ) (f : ℕ → ℤ) → ((i : ℕ) → i < n → f i ≡ pos 0) → sum n f ≡ pos 0
sum-zero zero f h = omega (arith, linear)
sum-zero (suc n) f h = let a = sum-zero n f (λ i l. h i (omega arith)) in let b = h n (omega arith) in
    omega (arith, linear)

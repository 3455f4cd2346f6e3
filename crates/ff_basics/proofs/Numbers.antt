-- Cases on numbers.
use Rattle.std.proofs.Common.{◌≡◌, ◌≢◌, ◌⊎◌, inl, inr, ℕ, zero, suc, ◌+◌, ◌<◌, ◌≤◌, ◌==◌, Bool, true, false, refl, sym, subst, arith}
use Rattle.std.proofs.lemmas.Bool.{cases_eq, eqb-false}

-- ---- two numbers

pub last_or : (k n : ℕ) → k < n + 1 → (k < n) ⊎ (k ≡ n)
last_or k n l = grind arith

pub below_or_last : (n i : ℕ) → i < suc n → (i < n) ⊎ (i ≡ n)
below_or_last n i l = grind arith

pub at_most_or : (m n : ℕ) → (m ≤ n) ⊎ (n < m)
at_most_or m n = grind arith

pub which : (i j : ℕ) → (i < j) ⊎ ((j < i) ⊎ (i ≡ j))
which i j = grind arith

pub less_or : (i j : ℕ) → (i < j) ⊎ ((i ≡ j) ⊎ (j < i))
less_or i j = grind arith

pub same_or : (w z : ℕ) → (w ≢ z) ⊎ (w ≡ z)
same_or w z = elim (cases_eq w z) [ inl e ↦ inr e | inr n ↦ inl n ]

pub same_number : (n : ℕ) → (n == n) ≡ true
same_number n = by (n == n) refl where
  by : (b : Bool) → (n == n) ≡ b → (n == n) ≡ true
  by true e = e
  by false e = absurd (eqb-false n n e refl)

-- ---- all below a number

-- some number below n has Q, or each has P
pub scan : (P Q : ℕ → Type 0) (n : ℕ) → ((j : ℕ) → P j ⊎ Q j)
    → ((j : ℕ) × (j < n) × Q j) ⊎ ((j : ℕ) → j < n → P j)
scan P Q zero h = inr (λ j l. absurd (omega (arith, l)))
scan P Q (suc n) h = elim (scan P Q n h) [
  | inl r ↦ inl (r.0, omega (arith, r.1), r.2)
  | inr all ↦ elim (h n) [
    | inl p ↦ inr (λ j l. elim (cases_eq j n) [ inl e ↦ subst P (sym e) p | inr ne ↦ all j (omega (arith, l, ne)) ])
    | inr q ↦ inl (n, omega arith, q)
  ]
]

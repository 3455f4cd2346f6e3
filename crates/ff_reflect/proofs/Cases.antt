-- Cases that proofs split into.
use Rattle.std.proofs.Common.{◌≡◌, ℕ, zero, suc, ◌<◌, ◌≤◌, ◌==◌, arith, refl, true, false, Bool}
use Rattle.std.proofs.lemmas.Bool.{eqb-true, eqb-false}

-- below n or not
pub by_below {ℓ} : {P : Type ℓ} (i n : ℕ) → (i < n → P) → (n ≤ i → P) → P
by_below i zero f g = g (omega arith)
by_below zero (suc n) f g = f (omega arith)
by_below (suc i) (suc n) f g = by_below i n (λ h. f (omega (arith, h))) (λ h. g (omega (arith, h)))

-- two numbers are equal or not
pub by_same {ℓ} : {P : Type ℓ} (a b : ℕ) → (a ≡ b → P) → ((a ≡ b → ⊥) → P) → P
by_same {P = P} a b f g = by (a == b) refl where
  by : (t : Bool) → (a == b) ≡ t → P
  by true e = f (eqb-true a b e)
  by false e = g (eqb-false a b e)

-- a test is true or false
pub by_test {ℓ} : {P : Type ℓ} (b : Bool) → (b ≡ true → P) → (b ≡ false → P) → P
by_test true f g = f refl
by_test false f g = g refl

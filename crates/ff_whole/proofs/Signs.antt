-- Orders and signs of integers: products, sums, and what may be cancelled.
-- To prove an inequality: `solve` gives an identity, each product's sign is a `let` from here, and the rest is linear,
-- `omega (arith, linear)`, where each product is one unknown. To divide by a positive factor put a `.._from_mul` round it.
-- `ints` in place of `linear` serves for numerals, casts and tests, and multiplies products out.
use Rattle.std.proofs.Common.{◌≡◌, ◌≢◌, zero, suc, ◌⊎◌, inl, inr, arith, refl, ap, ◌∙◌, ℤ, pos, negsuc, ◌+ℤ◌, ◌*ℤ◌, ◌<ℤ◌, ◌≤ℤ◌}
use lib.IntN.{◌-ℤ◌, neg_ℤ, *ℤ_comm, *ℤ-zero, zero-*ℤ}
use Rattle.std.proofs.lemmas.Int.{ints}
use borrow.Author.Differences.{up, down, same_out, same_in, Apart-out, lt_out, le_out, below_in, at_most_in, sum_is_lem, neg_is}
use Rattle.std.specs.Int.{int_signum}
use Rattle.ff_whole.proofs.Laws.{*ℤ-distrib_left, neg-*ℤ}

-- for `omega`, where a product is one unknown: `ints` with no products, casts or tests
pub ruleset linear = (same_out, Apart-out, lt_out, le_out, same_in, below_in, at_most_in, sum_is_lem, neg_is)

-- ---- one number

-- a number is below 0, is 0, or is above 0
pub by_sign {ℓ} : {P : Type ℓ} (a : ℤ) → (a <ℤ pos 0 → P) → (a ≡ pos 0 → P) → (pos 0 <ℤ a → P) → P
by_sign (pos zero) f g h = g refl
by_sign (pos (suc n)) f g h = h (omega (arith, ints))
by_sign (negsuc n) f g h = f (omega (arith, ints))

-- ---- products

-- the product of two positive numbers is positive
pub pos-mul : (a b : ℤ) → pos 0 <ℤ a → pos 0 <ℤ b → pos 0 <ℤ (a *ℤ b)
pos-mul (pos zero) b h k = absurd (omega (arith, ints))
pos-mul (pos (suc n)) (pos zero) h k = absurd (omega (arith, ints))
pos-mul (pos (suc n)) (pos (suc m)) h k = omega (arith, ints)
pos-mul (pos (suc n)) (negsuc m) h k = absurd (omega (arith, ints))
pos-mul (negsuc n) b h k = absurd (omega (arith, ints))

-- the product of two numbers that are not negative is not negative
pub nonneg-mul : (a b : ℤ) → pos 0 ≤ℤ a → pos 0 ≤ℤ b → pos 0 ≤ℤ (a *ℤ b)
nonneg-mul (pos n) (pos m) h k = omega (arith, ints)
nonneg-mul (pos n) (negsuc m) h k = absurd (omega (arith, ints))
nonneg-mul (negsuc n) b h k = absurd (omega (arith, ints))

-- a positive times a negative number is negative
pub pos-mul_neg : (a b : ℤ) → pos 0 <ℤ a → b <ℤ pos 0 → (a *ℤ b) <ℤ pos 0
pos-mul_neg (pos zero) b h k = absurd (omega (arith, ints))
pos-mul_neg (pos (suc n)) (pos m) h k = absurd (omega (arith, ints))
pos-mul_neg (pos (suc n)) (negsuc m) h k = omega (arith, ints)
pos-mul_neg (negsuc n) b h k = absurd (omega (arith, ints))

-- a negative times a positive number is negative
pub neg-mul_pos : (a b : ℤ) → a <ℤ pos 0 → pos 0 <ℤ b → (a *ℤ b) <ℤ pos 0
neg-mul_pos a b h k = let e = *ℤ_comm a b in let l = pos-mul_neg b a k h in omega (arith, linear)

-- the product of two negative numbers is positive
pub neg-mul_neg : (a b : ℤ) → a <ℤ pos 0 → b <ℤ pos 0 → pos 0 <ℤ (a *ℤ b)
neg-mul_neg (negsuc n) (negsuc m) h k = omega (arith, ints)
neg-mul_neg (negsuc n) (pos m) h k = absurd (omega (arith, ints))
neg-mul_neg (pos n) b h k = absurd (omega (arith, ints))

-- a number that is not negative times one that is not positive is not positive
pub nonneg-mul_nonpos : (a b : ℤ) → pos 0 ≤ℤ a → b ≤ℤ pos 0 → (a *ℤ b) ≤ℤ pos 0
nonneg-mul_nonpos (pos n) (pos zero) h k = omega (arith, ints)
nonneg-mul_nonpos (pos n) (pos (suc m)) h k = absurd (omega (arith, ints))
nonneg-mul_nonpos (pos n) (negsuc m) h k = omega (arith, ints)
nonneg-mul_nonpos (negsuc n) b h k = absurd (omega (arith, ints))

-- a square is not negative
pub square_nonneg : (a : ℤ) → pos 0 ≤ℤ (a *ℤ a)
square_nonneg (pos n) = omega (arith, ints)
square_nonneg (negsuc n) = omega (arith, ints)

-- the square of a number that is not 0 is positive
pub square_pos : (a : ℤ) → a ≢ pos 0 → pos 0 <ℤ (a *ℤ a)
square_pos a h = by_sign a (λ l. neg-mul_neg a a l l) (λ e. absurd (h e)) (λ l. pos-mul a a l l)

-- ---- sums

-- a factor that is 0 gives 0
pub zero-mul : (a b : ℤ) → a ≡ pos 0 → a *ℤ b ≡ pos 0
zero-mul a b h = ap (λ z. z *ℤ b) h ∙ zero-*ℤ b

-- what are not below 0 and add up to 0 are 0
pub sum_zero : (a b : ℤ) → pos 0 ≤ℤ a → pos 0 ≤ℤ b → a +ℤ b ≡ pos 0 → (a ≡ pos 0) × (b ≡ pos 0)
sum_zero a b h k e = (omega (arith, linear), omega (arith, linear))

-- the sum of two squares is positive where one of the numbers is not 0
pub squares_pos : (a b : ℤ) → (a ≢ pos 0) ⊎ (b ≢ pos 0) → pos 0 <ℤ (a *ℤ a +ℤ b *ℤ b)
squares_pos a b (inl h) = let p = square_pos a h in let n = square_nonneg b in omega (arith, linear)
squares_pos a b (inr h) = let n = square_nonneg a in let p = square_pos b h in omega (arith, linear)

-- ---- what may be cancelled

-- a positive factor is cancelled: what is left is positive
pub pos_from_mul : (a b : ℤ) → pos 0 <ℤ a → pos 0 <ℤ (a *ℤ b) → pos 0 <ℤ b
pos_from_mul a b h k = by_sign b
    (λ l. let m = pos-mul_neg a b h l in absurd (omega (arith, linear)))
    (λ e. let m : a *ℤ b ≡ pos 0 = ap (λ z. a *ℤ z) e ∙ *ℤ-zero a in absurd (omega (arith, linear)))
    (λ l. l)

-- what is left is negative
pub neg_from_mul : (a b : ℤ) → pos 0 <ℤ a → (a *ℤ b) <ℤ pos 0 → b <ℤ pos 0
neg_from_mul a b h k = by_sign b
    (λ l. l)
    (λ e. let m : a *ℤ b ≡ pos 0 = ap (λ z. a *ℤ z) e ∙ *ℤ-zero a in absurd (omega (arith, linear)))
    (λ l. let m = pos-mul a b h l in absurd (omega (arith, linear)))

-- what is left is 0
pub zero_from_mul : (a b : ℤ) → pos 0 <ℤ a → a *ℤ b ≡ pos 0 → b ≡ pos 0
zero_from_mul a b h k = by_sign b
    (λ l. let m = pos-mul_neg a b h l in absurd (omega (arith, linear)))
    (λ e. e)
    (λ l. let m = pos-mul a b h l in absurd (omega (arith, linear)))

-- what is left is not negative
pub nonneg_from_mul : (a b : ℤ) → pos 0 <ℤ a → pos 0 ≤ℤ (a *ℤ b) → pos 0 ≤ℤ b
nonneg_from_mul a b h k = by_sign b
    (λ l. let m = pos-mul_neg a b h l in absurd (omega (arith, linear)))
    (λ e. omega (arith, linear))
    (λ l. omega (arith, linear))

-- where a product is 0, one of the factors is
pub zero_product : (a b : ℤ) → a *ℤ b ≡ pos 0 → (a ≡ pos 0) ⊎ (b ≡ pos 0)
zero_product a b h = by_sign a
    (λ l. inr (by_sign b
    (λ m. let n = neg-mul_neg a b l m in absurd (omega (arith, linear)))
    (λ e. e)
    (λ m. let n = neg-mul_pos a b l m in absurd (omega (arith, linear)))))
    (λ e. inl e)
    (λ l. inr (zero_from_mul a b l h))

-- a positive factor is cancelled on both sides of an equation
pub cancel_left : (a b c : ℤ) → pos 0 <ℤ a → a *ℤ b ≡ a *ℤ c → b ≡ c
cancel_left a b c h k =
    let d : a *ℤ (b -ℤ c) ≡ pos 0 = (let e = *ℤ-distrib_left a b (neg_ℤ c) in let f = neg-*ℤ c a in let g = *ℤ_comm a (neg_ℤ c) in let m = *ℤ_comm c a in omega (arith, linear)) in
    let z = zero_from_mul a (b -ℤ c) h d in
    omega (arith, linear)

-- a product by a difference, as one equation for `omega`
pub *ℤ-distrib_sub : (a b c : ℤ) → a *ℤ (b -ℤ c) ≡ a *ℤ b -ℤ a *ℤ c
*ℤ-distrib_sub a b c = *ℤ-distrib_left a b (neg_ℤ c) ∙ ap (λ z. a *ℤ b +ℤ z) (*ℤ_comm a (neg_ℤ c) ∙ neg-*ℤ c a ∙ ap neg_ℤ (*ℤ_comm c a))

-- both sides of an inequality times a number that is not negative
pub le-mul_left : (a b c : ℤ) → pos 0 ≤ℤ a → b ≤ℤ c → (a *ℤ b) ≤ℤ (a *ℤ c)
le-mul_left a b c h k = let d : pos 0 ≤ℤ (c -ℤ b) = omega (arith, linear) in let m = nonneg-mul a (c -ℤ b) h d in
    let e = *ℤ-distrib_sub a c b in omega (arith, linear)

-- both sides of a strict inequality times a positive number
pub lt-mul_left : (a b c : ℤ) → pos 0 <ℤ a → b <ℤ c → (a *ℤ b) <ℤ (a *ℤ c)
lt-mul_left a b c h k = let d : pos 0 <ℤ (c -ℤ b) = omega (arith, linear) in let m = pos-mul a (c -ℤ b) h d in
    let e = *ℤ-distrib_sub a c b in omega (arith, linear)

-- a positive factor is cancelled on both sides of an inequality
pub le_from_mul : (a b c : ℤ) → pos 0 <ℤ a → (a *ℤ b) ≤ℤ (a *ℤ c) → b ≤ℤ c
le_from_mul a b c h k = let e = *ℤ-distrib_sub a c b in let m : pos 0 ≤ℤ (a *ℤ (c -ℤ b)) = omega (arith, linear) in
    let d = nonneg_from_mul a (c -ℤ b) h m in omega (arith, linear)

-- and of a strict one
pub lt_from_mul : (a b c : ℤ) → pos 0 <ℤ a → (a *ℤ b) <ℤ (a *ℤ c) → b <ℤ c
lt_from_mul a b c h k = let e = *ℤ-distrib_sub a c b in let m : pos 0 <ℤ (a *ℤ (c -ℤ b)) = omega (arith, linear) in
    let d = pos_from_mul a (c -ℤ b) h m in omega (arith, linear)

-- ---- the sign of a number, 1, 0 or -1, as `z.signum()` gives it

-- the sign of a positive number is 1
pub sign-pos : (a : ℤ) → pos 0 <ℤ a → int_signum a ≡ pos 1
sign-pos (pos n) h = omega (arith, ints)
sign-pos (negsuc n) h = absurd (omega (arith, ints))

-- the sign of a negative number is -1
pub sign-neg : (a : ℤ) → a <ℤ pos 0 → int_signum a ≡ negsuc 0
sign-neg (pos n) h = absurd (omega (arith, ints))
sign-neg (negsuc n) h = refl

-- a number with the sign 0 is 0
pub zero_from_sign : (a : ℤ) → int_signum a ≡ pos 0 → a ≡ pos 0
zero_from_sign (pos n) h = omega (arith, ints)
zero_from_sign (negsuc n) h = absurd (omega (arith, ints))

-- How large an integer is: sums and products of bounded numbers, and what fits a type.
-- A goal's term is full of trips to bits and back. `Exactly m x z` says that the code's term x is the number z, which is below
-- m in size. It is built as the code is: `read w64 h tt` reads a number with h : IsBelow m z, `sum`, `difference`, `multiple`
-- and `minus` compute, `trip w e tt` stores or casts, `known` takes what a call ensures, `literal` a numeral. Then
-- `fits_exactly` closes a goal of no overflow, `e.is` an equation of the result, `e.size` a bound on it, and `sign_exactly`,
-- `zero_exactly` and `apart_exactly` close signs and tests. Each `tt` is the test that the bound fits the type, which computes.
-- The bounds come out by themselves, so a proof holds for any sizes that fit.
use Rattle.std.proofs.Common.{◌≡◌, ℕ, zero, suc, ◌+◌, ◌*◌, ◌^◌, ◌<◌, ◌≤◌, arith, refl, sym, ap, ◌∙◌, ℤ, pos, negsuc, ◌+ℤ◌, ◌*ℤ◌, unsigned_abs, FitsSigned, to_z, of_z, mul-le-mul, subst, lit<, le_refl, ◌<ℤ◌, ◌≢◌, true}
use borrow.Author.Differences.{true_is_lt}
use lib.Signed.{lt_z}
use lib.IntN.{◌-ℤ◌, neg_ℤ, +ℤ_idl}
use lib.Dec.{T, leb, leb→le}
use mir.Syntax.{Width, w8, w16, w32, w64, w128}
use mir.Val.{hbits, SFits}
use mir.Facts as Facts
use Rattle.std.specs.Int.{int_signum}
use Rattle.ff_whole.specs.Sizes.{IsBelow}
use Rattle.std.proofs.lemmas.Int.{ints, unsigned_abs-mul, fits_signed_from_abs}

abs-neg : (a : ℤ) → unsigned_abs (neg_ℤ a) ≡ unsigned_abs a
abs-neg (pos zero) = refl
abs-neg (pos (suc n)) = refl
abs-neg (negsuc n) = refl

-- the size of a sum is below the sum of the bounds
pub below-add : {m n : ℕ} {a b : ℤ} → IsBelow m a → IsBelow n b → IsBelow (m + n) (a +ℤ b)
below-add h k = let f = h.below in let g = k.below in record { below = omega (arith, ints) }

-- the opposite has the same size
pub below-neg : {m : ℕ} {a : ℤ} → IsBelow m a → IsBelow m (neg_ℤ a)
below-neg {a = a} h = record { below = rw (abs-neg a) h.below }

-- the size of a difference is below the sum of the bounds
pub below-sub : {m n : ℕ} {a b : ℤ} → IsBelow m a → IsBelow n b → IsBelow (m + n) (a -ℤ b)
below-sub h k = below-add h (below-neg k)

mul-lt : (a b m n : ℕ) → a < m → b < n → a * b < m * n
mul-lt a b zero n h k = absurd (omega arith)
mul-lt a b (suc m) zero h k = absurd (omega arith)
mul-lt a b (suc m) (suc n) h k = let f : a ≤ m = omega arith in let g : b ≤ n = omega arith in
    let l = mul-le-mul f g in omega arith

-- the size of a product is below the product of the bounds
pub below-mul : {m n : ℕ} {a b : ℤ} → IsBelow m a → IsBelow n b → IsBelow (m * n) (a *ℤ b)
below-mul {m} {n} {a} {b} h k =
    record { below = rw (unsigned_abs-mul a b) (mul-lt (unsigned_abs a) (unsigned_abs b) m n h.below k.below) }

-- at numerals the last argument is `tt`, here and below
pub below-more : {m n : ℕ} {a : ℤ} → IsBelow m a → T (leb m n) → IsBelow n a
below-more {m} {n} h t = let l = leb→le m n t in let f = h.below in record { below = omega arith }

-- what is below half of a type's numbers fits the type, and comes back from its bits
pub fits : (w : Width) {m : ℕ} {a : ℤ} → IsBelow m a → T (leb m (2 ^ hbits w)) → FitsSigned w a
fits w {m} {a} h t = let l = leb→le m (2 ^ hbits w) t in let f = h.below in fits_signed_from_abs w a (omega arith)

-- a number that fits comes back from its bits
pub back : (w : Width) {m : ℕ} {a : ℤ} → IsBelow m a → T (leb m (2 ^ hbits w)) → to_z w (of_z w a) ≡ a
back w {m} {a} h t = Facts.to_z-of_z {w = w} {z = a} (fits w h t)

-- ---- what code computes: x is the term of a goal, with its trips to bits and back, and z the number that it is
pub record Exactly (m : ℕ) (x z : ℤ) : Type 0 where
  pub is : x ≡ z
  pub size : IsBelow m z

-- a number as it stands
pub given : {m : ℕ} {z : ℤ} → IsBelow m z → Exactly m z z
given h = record { is = refl; size = h }

-- a number that went to bits and back, as each result of the code does
pub trip : (w : Width) {m : ℕ} {x z : ℤ} → Exactly m x z → T (leb m (2 ^ hbits w)) → Exactly m (to_z w (of_z w x)) z
trip w e t = record { is = ap (λ (y : ℤ). to_z w (of_z w y)) e.is ∙ back w e.size t; size = e.size }

-- a `+` of the code
pub sum : {m n : ℕ} {x y a b : ℤ} → Exactly m x a → Exactly n y b → Exactly (m + n) (x +ℤ y) (a +ℤ b)
sum {y = y} {a = a} e f =
    record { is = ap (λ (z : ℤ). z +ℤ y) e.is ∙ ap (λ (z : ℤ). a +ℤ z) f.is; size = below-add e.size f.size }

-- a `-` of the code
pub difference : {m n : ℕ} {x y a b : ℤ} → Exactly m x a → Exactly n y b → Exactly (m + n) (x -ℤ y) (a -ℤ b)
difference {y = y} {a = a} e f =
    record { is = ap (λ (z : ℤ). z -ℤ y) e.is ∙ ap (λ (z : ℤ). a -ℤ z) f.is; size = below-sub e.size f.size }

-- a `*` of the code
pub multiple : {m n : ℕ} {x y a b : ℤ} → Exactly m x a → Exactly n y b → Exactly (m * n) (x *ℤ y) (a *ℤ b)
multiple {y = y} {a = a} e f =
    record { is = ap (λ (z : ℤ). z *ℤ y) e.is ∙ ap (λ (z : ℤ). a *ℤ z) f.is; size = below-mul e.size f.size }

-- the opposite of both
pub opposite : {m : ℕ} {x a : ℤ} → Exactly m x a → Exactly m (neg_ℤ x) (neg_ℤ a)
opposite e = record { is = ap neg_ℤ e.is; size = below-neg e.size }

-- what is computed so fits the type: the goal of an overflow test
pub fits_exactly : (w : Width) {m : ℕ} {x z : ℤ} → Exactly m x z → T (leb m (2 ^ hbits w)) → FitsSigned w x
fits_exactly w e t = subst (SFits w) (sym e.is) (fits w e.size t)

-- a literal of the code
pub literal : (n : ℕ) → Exactly (suc n) (pos n) (pos n)
literal n = given (record { below = le_refl (suc n) })

-- a number as the code reads it
pub read : (w : Width) {m : ℕ} {z : ℤ} → IsBelow m z → T (leb m (2 ^ hbits w)) → Exactly m (to_z w (of_z w z)) z
read w h t = trip w (given h) t

-- and is below the bound
pub below_exactly : {m : ℕ} {x z : ℤ} → Exactly m x z → IsBelow m x
below_exactly {m} e = subst (IsBelow m) (sym e.is) e.size

-- the sign of what x is, as the code keeps it in the small type w after `signum` at the type v
below-sign : (a : ℤ) → IsBelow 2 (int_signum a)
below-sign (pos n) = record { below = omega (arith, ints) }
below-sign (negsuc n) = record { below = lit< tt }

-- the sign of what x is, as the code keeps it in the small type w after `signum` at the type v
pub sign_exactly : (v w : Width) {m : ℕ} {x z : ℤ} (s : ℤ) → s ≡ int_signum x → Exactly m x z
    → T (leb 2 (2 ^ hbits v)) → T (leb 2 (2 ^ hbits w)) → to_z w (of_z w (to_z v (of_z v s))) ≡ int_signum z
sign_exactly v w {z = z} s e x t u =
    let r : s ≡ int_signum z = e ∙ ap int_signum x.is in
    let b : IsBelow 2 s = subst (IsBelow 2) (sym r) (below-sign z) in
    (trip w (read v b t) u).is ∙ r

-- what a call gave, by its clause, and a `-x` of the code
pub known : {m : ℕ} {r x z : ℤ} → r ≡ x → Exactly m x z → Exactly m r z
known h e = record { is = h ∙ e.is; size = e.size }

-- a `-x` of the code
pub minus : {m : ℕ} {x z : ℤ} → Exactly m x z → Exactly m (pos 0 -ℤ x) (neg_ℤ z)
minus {x = x} e = record { is = +ℤ_idl (neg_ℤ x) ∙ ap neg_ℤ e.is; size = below-neg e.size }

-- a greater bound
pub wider : {m n : ℕ} {x z : ℤ} → Exactly m x z → T (leb m n) → Exactly n x z
wider e t = record { is = e.is; size = below-more e.size t }

-- a factor of at least 1 makes no number smaller
pub below_factor : (m : ℕ) (a b : ℤ) → pos 0 <ℤ a → IsBelow m (a *ℤ b) → IsBelow m b
below_factor m a b h k =
    let e = unsigned_abs-mul a b in
    let f = k.below in
    let one : 1 ≤ unsigned_abs a = omega (arith, ints) in
    let more = mul-le-mul one (le_refl (unsigned_abs b)) in
    record { below = omega arith }

half_positive : (w : Width) → 0 < 2 ^ hbits w
half_positive w8 = lit< tt
half_positive w16 = lit< tt
half_positive w32 = lit< tt
half_positive w64 = lit< tt
half_positive w128 = lit< tt

to_z_zero : (w : Width) → to_z w 0 ≡ pos 0
to_z_zero w = Facts.to_z_pos w (half_positive w)

-- the code's test `r == 0`, which compares bits
pub zero_exactly : (w : Width) {m : ℕ} {r z : ℤ} → Exactly m r z → T (leb m (2 ^ hbits w)) → of_z w r ≡ 0
    → z ≡ pos 0
zero_exactly w {r = r} e t h = sym (trip w e t).is ∙ ap (to_z w) h ∙ to_z_zero w

-- the code's test `r == 0`, where it failed
pub apart_exactly : (w : Width) {m : ℕ} {r z : ℤ} → Exactly m r z → (of_z w r ≡ 0 → ⊥) → z ≡ pos 0 → ⊥
apart_exactly w e n h = n (ap (of_z w) (e.is ∙ h))

-- ---- a caller's tests of a sign s, which is that of z

-- the sign as the code reads it
pub sign_read : (w : Width) (z : ℤ) {s : ℤ} → s ≡ int_signum z → T (leb 2 (2 ^ hbits w))
    → to_z w (of_z w s) ≡ int_signum z
sign_read w z {s} e t = (read w (subst (IsBelow 2) (sym e) (below-sign z)) t).is ∙ e

-- `s > 0`, `s < 0`, and the same tests failed; x is the code's term for s
pub above_zero : (x z : ℤ) → x ≡ int_signum z → lt_z (pos 0) x ≡ true → pos 0 <ℤ z
above_zero x (pos n) e h = omega (arith, ints)
above_zero x (negsuc n) e h = absurd (omega (arith, ints))

-- and the other way: the test succeeds where z is above 0
pub zero_above : (x z : ℤ) → x ≡ int_signum z → pos 0 <ℤ z → lt_z (pos 0) x ≡ true
zero_above x (pos n) e h = sym (true_is_lt (pos 0) x (omega (arith, ints)))
zero_above x (negsuc n) e h = absurd (omega (arith, ints))

-- where `s < 0` succeeded, z is below 0
pub below_zero : (x z : ℤ) → x ≡ int_signum z → lt_z x (pos 0) ≡ true → z <ℤ pos 0
below_zero x (pos n) e h = absurd (omega (arith, ints))
below_zero x (negsuc n) e h = omega (arith, ints)

-- `s == 0`, where it failed
pub not_zero : (w : Width) (z : ℤ) {s : ℤ} → s ≡ int_signum z → (of_z w s ≡ 0 → ⊥) → z ≢ pos 0
not_zero w z e n h = n (ap (of_z w) (e ∙ ap int_signum h))

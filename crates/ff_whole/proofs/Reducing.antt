-- A place divided by the common divisor of its numbers.
use Rattle.std.proofs.Common.{◌≡◌, ℕ, ◌*◌, ◌<◌, ◌^◌, sym, ap, ◌∙◌, subst, arith, ℤ, pos, negsuc, ◌+ℤ◌, ◌*ℤ◌, ◌<ℤ◌, unsigned_abs, to_z, of_z, FitsSigned}
use Prim.Native.Nat.{◌∣◌}
use native.Mathlib.Nat.{dvd-mul_right, dvd_trans, mod-eq-zero_of_dvd, pos_of_dvd_of_pos, mul-dvd-mul_left, dvd_of_mul-dvd-mul_left, eq-one_of_dvd-one, mul-one, le_of_dvd}
use lib.IntN.{neg_ℤ, *ℤ_comm, +ℤ_idr}
use Rattle.std.specs.Int.{IsGcd}
use Rattle.std.specs.Int.RustNames.{int_div, int_rem}
use Rattle.std.proofs.lemmas.Int.{ints, quot-rem, quot_fits, unsigned_abs-mul, to_z-of_z, to_z_pos}
use Rattle.ff_whole.proofs.Signs.{cancel_left, pos_from_mul}
use mir.Syntax.{Width, w128}
use mir.Val.{hbits}
use Rattle.ff_whole.specs.Meeting.{IsReduced}

rem-zero : (a : ℤ) (d : ℕ) → d ∣ unsigned_abs a → int_rem a (pos d) ≡ pos 0
rem-zero (pos a) d h = ap pos (mod-eq-zero_of_dvd d h)
rem-zero (negsuc a) d h = ap (λ n. neg_ℤ (pos n)) (mod-eq-zero_of_dvd d h)

-- what d divides is d times the quotient
pub exact : (a : ℤ) (d : ℕ) → d ∣ unsigned_abs a → a ≡ pos d *ℤ int_div a (pos d)
exact a d h =
    sym (*ℤ_comm (pos d) (int_div a (pos d))
    ∙ sym (+ℤ_idr (int_div a (pos d) *ℤ pos d))
    ∙ ap (λ z. int_div a (pos d) *ℤ pos d +ℤ z) (sym (rem-zero a d h))
    ∙ quot-rem a (pos d))

size : (a q : ℤ) (d : ℕ) → a ≡ pos d *ℤ q → unsigned_abs a ≡ d * unsigned_abs q
size a q d h = ap unsigned_abs h ∙ unsigned_abs-mul (pos d) q

positive_size : (w : ℤ) → pos 0 <ℤ w → 0 < unsigned_abs w
positive_size w h = omega (arith, ints)

-- the common divisor with a positive number is positive
pub divisor_positive : (w : ℤ) (g d : ℕ) → pos 0 <ℤ w → IsGcd g (unsigned_abs w) d → 0 < d
divisor_positive w g d h k = pos_of_dvd_of_pos k.1 (positive_size w h)

-- the quotients by the common divisor are the place in lowest terms
pub reduced_is : (x y w : ℤ) (g d : ℕ) → pos 0 <ℤ w → IsGcd (unsigned_abs x) (unsigned_abs y) g
    → IsGcd g (unsigned_abs w) d
    → IsReduced x y w (record { x = int_div x (pos d); y = int_div y (pos d); w = int_div w (pos d) })
reduced_is x y w g d h j k =
    let some : 0 < d = divisor_positive w g d h k in
    let above : pos 0 <ℤ pos d = omega (arith, ints) in
    let dx = exact x d (dvd_trans d k.0 j.0) in
    let dy = exact y d (dvd_trans d k.0 j.1) in
    let dw = exact w d k.1 in
    let more : pos 0 <ℤ (pos d *ℤ int_div w (pos d)) = subst (λ z. pos 0 <ℤ z) dw h in
    record {
      by = pos d;
      by_positive = above;
      x_is = dx;
      y_is = dy;
      w_is = dw;
      positive = pos_from_mul (pos d) (int_div w (pos d)) above more;
      lowest = λ e ex ey ew. eq-one_of_dvd-one (dvd_of_mul-dvd-mul_left e some
          (let times : (a q : ℤ) → a ≡ pos d *ℤ q → e ∣ unsigned_abs q → d * e ∣ unsigned_abs a = λ a q is u. subst (λ n. d * e ∣ n) (sym (size a q d is)) (mul-dvd-mul_left _ d u) in
          subst (λ n. d * e ∣ n) (sym (mul-one d)) (k.2 (d * e) (j.2 (d * e) (times x _ dx ex) (times y _ dy ey)) (times w _ dw ew))));
    }

-- ---- as the code computes it

one_divides : (d : ℕ) → d ∣ 1 → d ≡ 1
one_divides d h = eq-one_of_dvd-one h

times_one : (w : ℤ) → w ≡ w *ℤ pos 1
times_one w = omega (arith, ints)

-- whole quotients are the place in lowest terms
pub whole_is : (x y w a b : ℤ) → pos 0 <ℤ w → x ≡ w *ℤ a → y ≡ w *ℤ b → IsReduced x y w (record { x = a; y = b; w = pos 1 })
whole_is x y w a b h e f = record {
  by = w;
  by_positive = h;
  x_is = e;
  y_is = f;
  w_is = times_one w;
  positive = omega (arith, ints);
  lowest = λ d k l m. one_divides d m;
}

-- a whole quotient fits its type
pub whole_fits : (v : Width) (x w p : ℤ) → FitsSigned v x → pos 0 <ℤ w → x ≡ w *ℤ p → FitsSigned v p
whole_fits v x (pos d) p f h e =
    let all = exact x d (subst (λ n. d ∣ n) (sym (size x p d e)) (dvd-mul_right d (unsigned_abs p))) in
    subst (FitsSigned v) (cancel_left (pos d) (int_div x (pos d)) p h (sym all ∙ e)) (quot_fits v x (pos d) f h)
whole_fits v x (negsuc d) p f h e = absurd (omega (arith, ints))

code : (w : Width) (a : ℤ) (d : ℕ) → FitsSigned w a → d < 2 ^ hbits w
    → int_div (to_z w (of_z w a)) (to_z w d) ≡ int_div a (pos d)
code w a d f h = ap (λ z. int_div z (to_z w d)) (to_z-of_z w a f) ∙ ap (λ z. int_div a z) (to_z_pos w d h)

-- a quotient of the code fits its type
pub code_fits : (w : Width) (a : ℤ) (d : ℕ) → FitsSigned w a → 0 < d → d < 2 ^ hbits w
    → FitsSigned w (int_div (to_z w (of_z w a)) (to_z w d))
code_fits w a d f some h = let above : pos 0 <ℤ pos d = omega (arith, ints) in
    subst (FitsSigned w) (sym (code w a d f h)) (quot_fits w a (pos d) f above)

-- and is the quotient of the numbers
pub code_quot : (w : Width) (a : ℤ) (d : ℕ) → FitsSigned w a → 0 < d → d < 2 ^ hbits w
    → to_z w (of_z w (int_div (to_z w (of_z w a)) (to_z w d))) ≡ int_div a (pos d)
code_quot w a d f some h = to_z-of_z w _ (code_fits w a d f some h) ∙ code w a d f h

-- the common divisor fits the type, too
pub divisor_below : (w : ℤ) (g d : ℕ) → pos 0 <ℤ w → FitsSigned w128 w → IsGcd g (unsigned_abs w) d → d < 2 ^ 127
divisor_below w g d h f k = let l = le_of_dvd (positive_size w h) k.1 in omega (arith, ints)

-- what `unsigned_abs` gives of an argument
pub abs_of : (z : ℤ) (n : ℕ) → FitsSigned w128 z → n ≡ unsigned_abs (to_z w128 (of_z w128 z)) → n ≡ unsigned_abs z
abs_of z n f h = h ∙ ap unsigned_abs (to_z-of_z w128 z f)

-- what the calls of `gcd` said, of the numbers themselves
pub gcd_at : (a b : ℕ) {m n g : ℕ} → m ≡ a → n ≡ b → IsGcd m n g → IsGcd a b g
gcd_at a b {m} {n} {g} e f h = subst (λ k. IsGcd a k g) f (subst (λ k. IsGcd k n g) e h)

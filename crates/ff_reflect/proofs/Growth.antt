-- The least scale: how it grows with one more point, and that it is what a folding's last clause asks.
use Rattle.std.proofs.Common.{◌≡◌, ℕ, zero, suc, ◌+◌, ◌*◌, ◌/◌, ◌<◌, ◌≤◌, arith, sym, ap, ◌∙◌, subst, ℤ, pos, ◌<ℤ◌, unsigned_abs, List, [], ◌∷◌, length, mul-le-mul, le_refl}
use Prim.Native.Nat.{◌∣◌}
use Rattle.std.proofs.lemmas.Int.{ints, unsigned_abs-mul}
use Rattle.std.proofs.lemmas.Nat.Gcd.{dvd-zero, dvd_refl}
use Rattle.std.proofs.lemmas.List.{get_or_past}
use Rattle.std.specs.Int.RustNames.{int_div}
use Rattle.ff_whole.proofs.Reducing.{exact}
use Rattle.ff_reflect.proofs.Cases.{by_below}
use Rattle.std.proofs.Math.Nat.{dvd-mul_left, dvd-mul_right, mul-one, dvd_of_mul-dvd-mul_left, mul-dvd-mul_left, mul-dvd-mul_right, mul-div_cancel', le_of_dvd}
use native.Mathlib.Nat.{dvd_trans, pos_of_dvd_of_pos}
use Rattle.ff_whole.proofs.Lowest.{divisor_of}
use Rattle.ff_whole.specs.declared.points.Pt.{Pt}
use Rattle.ff_whole.specs.Points.{origin}
use Rattle.ff_whole.specs.Convex.{point_at}
use Rattle.ff_types.specs.Foldings.{Divides, DividesAll}
use Rattle.ff_reflect.specs.Standing.{IsLeast}

flip : (a b : ℕ) → a * b ≡ b * a
flip a b = omega arith

-- x, y and k have no common divisor but 1: where k divides m x and m y, it divides m
pub divides_factor : (k m x y : ℕ) → ((d : ℕ) → d ∣ x → d ∣ y → d ∣ k → d ≡ 1) → k ∣ m * x → k ∣ m * y → k ∣ m
divides_factor k m x y lowest ex ey =
    let g = divisor_of k m (x + y) x y (omega arith) ex ey in
    let h = divisor_of k m (g.divisor + k) g.divisor k (omega arith) g.divides (dvd-mul_left k m) in
    let xy = g.greatest in
    let all = h.greatest in
    let one : h.divisor ≡ 1 = lowest h.divisor (dvd_trans h.divisor all.0 xy.0) (dvd_trans h.divisor all.0 xy.1) all.1 in
    subst (λ t. k ∣ t) (mul-one m) (subst (λ d. k ∣ m * d) one h.divides)

swap : (t k c : ℕ) → t * (k * c) ≡ k * (t * c)
swap t k c = omega arith

assoc : (a b c : ℕ) → (a * b) * c ≡ a * (b * c)
assoc a b c = omega arith

-- d is the least scale of old numbers: with x and y and the factor k in lowest terms, k d is that of all
pub factor_grows : (xs ys : ℕ → ℕ) (d k x y : ℕ) → 0 < d → 0 < k → ((e : ℕ) → e ∣ x → e ∣ y → e ∣ k → e ≡ 1)
    → ((t : ℕ) → ((v : ℕ) → (d ∣ t * xs v) × (d ∣ t * ys v)) → d ∣ t)
    → (t : ℕ) → ((v : ℕ) → (k * d ∣ t * (k * xs v)) × (k * d ∣ t * (k * ys v))) → k * d ∣ t * x → k * d ∣ t * y → k * d ∣ t
factor_grows xs ys d k x y pd pk lowest least t old ex ey =
    let cut = λ (c : ℕ) (h : k * d ∣ t * (k * c)). dvd_of_mul-dvd-mul_left d pk (subst (λ n. k * d ∣ n) (swap t k c) h) in
    let a : d ∣ t = least t (λ v. (cut (xs v) (old v).0, cut (ys v) (old v).1)) in
    let m : ℕ = t / d in
    let tm : d * m ≡ t = mul-div_cancel' d a in
    let q = λ (c : ℕ) (h : k * d ∣ t * c). dvd_of_mul-dvd-mul_left k pd (subst (λ n. n ∣ d * (m * c)) (flip k d) (subst (λ n. k * d ∣ n) (ap (λ n. n * c) (sym tm) ∙ assoc d m c) h)) in
    subst (λ n. k * d ∣ n) (flip m d ∙ tm) (mul-dvd-mul_right k (divides_factor k m x y lowest (q x ex) (q y ey)) d)

-- ---- the least scale, of points

-- the greatest number that divides h and all coordinates of the points, of which d divides t times where it divides t times each
record HasGreatest (d t h : ℕ) (images : List Pt) : Type 0 where
  greatest : ℕ
  divides_first : greatest ∣ h
  divides_all : (v : ℕ) → v < length images → (greatest ∣ unsigned_abs (point_at images v).x) × (greatest ∣ unsigned_abs (point_at images v).y)
  divides : d ∣ t * greatest

greatest_of : (d t h : ℕ) (images : List Pt) → d ∣ t * h
    → ((v : ℕ) → v < length images → (d ∣ t * unsigned_abs (point_at images v).x) × (d ∣ t * unsigned_abs (point_at images v).y))
    → HasGreatest d t h images
greatest_of d t h [] e k = record { greatest = h; divides_first = dvd_refl h; divides_all = λ v l. absurd (omega (arith, l)); divides = e }
greatest_of d t h (p ∷ ps) e k =
    let first = k 0 (omega arith) in
    let g = divisor_of d t (h + unsigned_abs p.x) h (unsigned_abs p.x) (omega arith) e first.0 in
    let f = divisor_of d t (g.divisor + unsigned_abs p.y) g.divisor (unsigned_abs p.y) (omega arith) g.divides first.1 in
    let r = greatest_of d t f.divisor ps f.divides (λ v l. k (suc v) (omega (arith, l))) in
    let gg = g.greatest in
    let ff = f.greatest in
    let to_g = dvd_trans r.greatest r.divides_first ff.0 in
    record {
      greatest = r.greatest;
      divides_first = dvd_trans r.greatest to_g gg.0;
      divides_all = go r.greatest (dvd_trans r.greatest to_g gg.1) (dvd_trans r.greatest r.divides_first ff.1) r.divides_all;
      divides = r.divides;
    }
  where
    go : (n : ℕ) → n ∣ unsigned_abs p.x → n ∣ unsigned_abs p.y
        → ((v : ℕ) → v < length ps → (n ∣ unsigned_abs (point_at ps v).x) × (n ∣ unsigned_abs (point_at ps v).y))
        → (v : ℕ) → v < suc (length ps) → (n ∣ unsigned_abs (point_at (p ∷ ps) v).x) × (n ∣ unsigned_abs (point_at (p ∷ ps) v).y)
    go n x y rest zero l = (x, y)
    go n x y rest (suc v) l = rest v (omega (arith, l))

divides_int : (d : ℕ) (z : ℤ) → d ∣ unsigned_abs z → Divides d z
divides_int d z h = (int_div z (pos d), exact z d h)

pub size_divides : (d : ℕ) (z : ℤ) → Divides d z → d ∣ unsigned_abs z
size_divides d z (k, e) = subst (λ n. d ∣ n) (sym (ap unsigned_abs e ∙ unsigned_abs-mul (pos d) k)) (dvd-mul_right d (unsigned_abs k))

-- no number above 1 divides the scale and all points: the scale is the least
pub least_from_none : (scale : ℤ) (images : List Pt) → pos 0 <ℤ scale → ((d : ℕ) → 1 < d → DividesAll d scale images → ⊥) → IsLeast scale images
least_from_none scale images h none t k =
    let d = unsigned_abs scale in
    let g = greatest_of d t d images (dvd-mul_left d t) (λ v l. k v) in
    let some : 0 < g.greatest = pos_of_dvd_of_pos g.divides_first (omega (arith, ints)) in
    one g.greatest some g.divides (λ l. none g.greatest l (record {
      scale_too = divides_int g.greatest scale g.divides_first;
      xs = λ v l. divides_int g.greatest _ (g.divides_all v l).0;
      ys = λ v l. divides_int g.greatest _ (g.divides_all v l).1;
    }))
  where
    one : (g : ℕ) → 0 < g → unsigned_abs scale ∣ t * g → (1 < g → ⊥) → unsigned_abs scale ∣ t
    one zero s e n = absurd (omega (arith, s))
    one (suc zero) s e n = subst (λ n. unsigned_abs scale ∣ n) (mul-one t) e
    one (suc (suc g)) s e n = absurd (n (omega arith))

-- and the other way round
pub none_from_least : (scale : ℤ) (images : List Pt) → pos 0 <ℤ scale → IsLeast scale images → (d : ℕ) → 1 < d → DividesAll d scale images → ⊥
none_from_least scale images h least d more all =
    let n = unsigned_abs scale in
    let some : 0 < n = omega (arith, ints) in
    let dn = size_divides d scale all.scale_too in
    let t : ℕ = n / d in
    let e : d * t ≡ n = mul-div_cancel' d dn in
    let each = λ (c : ℕ) (q : d ∣ c). subst (λ m. m ∣ t * c) (flip t d ∙ e) (mul-dvd-mul_left d t q) in
    let dt : n ∣ t = least t (λ v. (each _ (at_x v), each _ (at_y v))) in
    small n d t some more e dt
  where
    at_x : (v : ℕ) → d ∣ unsigned_abs (point_at images v).x
    at_x v = by_below v (length images) (λ l. size_divides d _ (all.xs v l)) (λ l. subst (λ (p : Pt). d ∣ unsigned_abs p.x) (sym (get_or_past images v origin l)) (dvd-zero d))

    at_y : (v : ℕ) → d ∣ unsigned_abs (point_at images v).y
    at_y v = by_below v (length images) (λ l. size_divides d _ (all.ys v l)) (λ l. subst (λ (p : Pt). d ∣ unsigned_abs p.y) (sym (get_or_past images v origin l)) (dvd-zero d))

    small : (n d t : ℕ) → 0 < n → 1 < d → d * t ≡ n → n ∣ t → ⊥
    small n d zero s m e h = omega (arith, s, e)
    small n d (suc t) s m e h = let l : n ≤ suc t = le_of_dvd (omega arith) h in
        let more : 2 * suc t ≤ d * suc t = mul-le-mul m (le_refl (suc t)) in omega (arith, l, more, e)

-- In lowest terms a place has one triple of numbers: so `meet` and `corner` have one answer each.
use Rattle.std.proofs.Common.{◌≡◌, ◌≢◌, inl, inr, ℕ, zero, suc, ◌+◌, ◌-◌, ◌*◌, ◌≤◌, arith, refl, sym, ap, ◌∙◌, subst, ℤ, pos, ◌-ℤ◌, ◌*ℤ◌, ◌<ℤ◌, unsigned_abs, [], ◌∷◌}
use Prim.Native.Nat.{◌∣◌}
use Rattle.std.specs.Int.{IsGcd}
use Rattle.std.proofs.lemmas.Nat.Gcd.{IsGcd-from_zero, IsGcd-swap, IsGcd-from_sub, dvd_antisymm}
use native.Mathlib.Nat.{dvd_trans}
use Rattle.std.proofs.Math.Nat.{dvd-sub, dvd-mul_left, mul-sub, mul-one}
use lib.IntN.{*ℤ_comm}
use Rattle.std.proofs.lemmas.Int.{ints, unsigned_abs-mul}
use Rattle.std.proofs.lemmas.Bool.{cases_lt}
use Rattle.ff_whole.proofs.Signs.{linear, zero_from_mul, zero_product, cancel_left}
use Rattle.ff_whole.proofs.Ring.{var, num, ◌⊖◌, ◌⊗◌, opp, solve_from}
use Rattle.ff_whole.proofs.Formulas.{line_e, line_env, place_e, place_env, height_e}
use Rattle.ff_whole.proofs.SharedPlaces.{SamePlace, one_place}
use Rattle.ff_whole.specs.Meeting.{HasNoDivisor, IsMeet, IsCorner}
use Rattle.ff_whole.specs.Places.{IsPlace}
use Rattle.ff_whole.specs.declared.lines.Line.{Line}
use Rattle.ff_whole.specs.declared.places.Place.{Place}

-- the greatest common divisor of a and b, of which N divides m times where it divides m times both
pub record HasDivisor (N m a b : ℕ) : Type 0 where
  pub divisor : ℕ
  pub greatest : IsGcd a b divisor
  pub divides : N ∣ m * divisor

pub divisor_of : (N m fuel a b : ℕ) → a + b ≤ fuel → N ∣ m * a → N ∣ m * b → HasDivisor N m a b
divisor_of N m fuel a zero l p q = record { divisor = a; greatest = IsGcd-from_zero a zero refl; divides = p }
divisor_of N m fuel zero (suc b) l p q =
    record { divisor = suc b; greatest = IsGcd-swap (suc b) zero (suc b) (IsGcd-from_zero (suc b) zero refl); divides = q }
divisor_of N m zero (suc a) (suc b) l p q = absurd (omega arith)
divisor_of N m (suc fuel) (suc a) (suc b) l p q = elim (cases_lt (suc a) (suc b)) [
  | inr h ↦
      let r = divisor_of N m fuel (suc a - suc b) (suc b) (omega arith) (less (suc a) (suc b) p q) q in
      record { divisor = r.divisor; greatest = IsGcd-from_sub (suc a) (suc b) r.divisor h r.greatest; divides = r.divides }
  | inl h ↦
      let r = divisor_of N m fuel (suc b - suc a) (suc a) (omega arith) (less (suc b) (suc a) q p) p in
      record {
        divisor = r.divisor;
        greatest =
            IsGcd-swap (suc b) (suc a) r.divisor (IsGcd-from_sub (suc b) (suc a) r.divisor (omega arith) r.greatest);
        divides = r.divides;
      }
]
  where
    less : (c d : ℕ) → N ∣ m * c → N ∣ m * d → N ∣ m * (c - d)
    less c d f g = subst (λ t. N ∣ t) (sym (mul-sub m c d)) (dvd-sub N f g)

-- the sizes on both sides of an equation of products
sizes : (a b c d : ℤ) → a *ℤ b ≡ c *ℤ d → unsigned_abs a * unsigned_abs b ≡ unsigned_abs c * unsigned_abs d
sizes a b c d e = sym (unsigned_abs-mul a b) ∙ ap unsigned_abs e ∙ unsigned_abs-mul c d

-- where s is in lowest terms, its denominator divides that of each place that is the same point
divides_other : (s t : Place) → HasNoDivisor s → SamePlace s t → unsigned_abs s.w ∣ unsigned_abs t.w
divides_other s t lowest same =
    let n = unsigned_abs s.w in
    let m = unsigned_abs t.w in
    let x : n ∣ m * unsigned_abs s.x = subst (λ k. n ∣ k) (sym (sizes s.x t.w t.x s.w same.0) ∙ flip (unsigned_abs s.x) m) (dvd-mul_left n (unsigned_abs t.x)) in
    let y : n ∣ m * unsigned_abs s.y = subst (λ k. n ∣ k) (sym (sizes s.y t.w t.y s.w same.1) ∙ flip (unsigned_abs s.y) m) (dvd-mul_left n (unsigned_abs t.y)) in
    let g = divisor_of n m (unsigned_abs s.x + unsigned_abs s.y) (unsigned_abs s.x) (unsigned_abs s.y) (omega arith) x y in
    let h = divisor_of n m (g.divisor + n) g.divisor n (omega arith) g.divides (dvd-mul_left n m) in
    let xy = g.greatest in
    let all = h.greatest in
    let one : h.divisor ≡ 1 = lowest h.divisor (dvd_trans h.divisor all.0 xy.0) (dvd_trans h.divisor all.0 xy.1) all.1 in
    at_one n m h.divisor one h.divides
  where
    flip : (a b : ℕ) → a * b ≡ b * a
    flip a b = omega arith

    at_one : (n m d : ℕ) → d ≡ 1 → n ∣ m * d → n ∣ m
    at_one n m d e h = subst (λ k. n ∣ k) (mul-one m) (subst (λ k. n ∣ m * k) e h)

-- so two places in lowest terms that are the same point are one
pub lowest_once : (s t : Place) → IsPlace s → IsPlace t → HasNoDivisor s → HasNoDivisor t → SamePlace s t → s ≡ t
lowest_once s t ps pt ls lt same =
    let e : unsigned_abs s.w ≡ unsigned_abs t.w = dvd_antisymm (divides_other s t ls same) (divides_other t s lt (sym same.0, sym same.1)) in
    let w : s.w ≡ t.w = whole s.w t.w ps pt e in
    let x = cancelled s.w t.w s.x t.x ps w same.0 in
    let y = cancelled s.w t.w s.y t.y ps w same.1 in
    λ i. record { x = x i; y = y i; w = w i }
  where
    whole : (a b : ℤ) → pos 0 <ℤ a → pos 0 <ℤ b → unsigned_abs a ≡ unsigned_abs b → a ≡ b
    whole a b f g e = omega (arith, ints)

    cancelled : (w v a b : ℤ) → pos 0 <ℤ w → w ≡ v → a *ℤ v ≡ b *ℤ w → a ≡ b
    cancelled w v a b h e k = cancel_left w a b h (*ℤ_comm w a ∙ ap (λ z. a *ℤ z) e ∙ k ∙ *ℤ_comm b w)

-- `meet` has one answer
pub meet_once : (k l : Line) (s t : Place) → IsMeet k l s → IsMeet k l t → s ≡ t
meet_once k l s t f g =
    let p = f.size in
    let q = g.size in
    lowest_once s t p.positive q.positive f.lowest g.lowest (one_place k l s t f.apart f.on_first f.on_second g.on_first g.on_second)

-- and so has `corner`
pub corner_once : (l : Line) (at s t : Place) → l.b ≢ pos 0 → IsPlace at → IsCorner l at s → IsCorner l at t → s ≡ t
corner_once l at s t steep w f g = lowest_once s t f.positive g.positive f.lowest g.lowest (same_x, same_y)
  where
    apart_x : s.x *ℤ t.w -ℤ t.x *ℤ s.w ≡ pos 0
    apart_x =
        let fx = f.same_x in
        let gx = g.same_x in
        let p : s.x *ℤ at.w -ℤ at.x *ℤ s.w ≡ pos 0 = omega (arith, linear) in
        let q : t.x *ℤ at.w -ℤ at.x *ℤ t.w ≡ pos 0 = omega (arith, linear) in
        zero_from_mul at.w (s.x *ℤ t.w -ℤ t.x *ℤ s.w) w
        (solve_from (s.x ∷ s.w ∷ t.x ∷ t.w ∷ at.x ∷ at.w ∷ [])
        (record { by = var 3; zero = var 0 ⊗ var 5 ⊖ var 4 ⊗ var 1 }
        ∷ record { by = opp (var 1); zero = var 2 ⊗ var 5 ⊖ var 4 ⊗ var 3 } ∷ [])
        (var 5 ⊗ (var 0 ⊗ var 3 ⊖ var 2 ⊗ var 1)) (num (pos 0)) refl (p, (q, tt)))

    same_x : s.x *ℤ t.w ≡ t.x *ℤ s.w
    same_x = let e = apart_x in omega (arith, linear)

    product_y : l.b *ℤ (s.y *ℤ t.w -ℤ t.y *ℤ s.w) ≡ pos 0
    product_y =
        let l' = line_e 0 in let s' = place_e 3 in let t' = place_e 6 in
        solve_from (line_env l (place_env s (place_env t [])))
        (record { by = t'.w; zero = height_e l' s' }
        ∷ record { by = opp s'.w; zero = height_e l' t' }
        ∷ record { by = opp l'.a; zero = s'.x ⊗ t'.w ⊖ t'.x ⊗ s'.w } ∷ [])
        (l'.b ⊗ (s'.y ⊗ t'.w ⊖ t'.y ⊗ s'.w)) (num (pos 0)) refl (f.on_line, (g.on_line, (apart_x, tt)))

    same_y : s.y *ℤ t.w ≡ t.y *ℤ s.w
    same_y =
        elim (zero_product l.b (s.y *ℤ t.w -ℤ t.y *ℤ s.w) product_y) [ inl z ↦ absurd (steep z) | inr z ↦ omega (arith, linear) ]

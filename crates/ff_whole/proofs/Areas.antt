-- Twice the signed area of a closed row of points v 0, .., v n, where v n is v 0 again.
use Rattle.std.proofs.Common.{◌≡◌, ◌⊎◌, inl, inr, ℕ, zero, suc, ◌<◌, refl, arith, sym, ap, ◌∙◌, subst, ℤ, pos, ◌+ℤ◌, ◌*ℤ◌, ◌<ℤ◌, ◌≤ℤ◌, []}
use lib.IntN.{*ℤ-zero}
use Rattle.ff_whole.proofs.Laws.{*ℤ-distrib_left, one-*ℤ}
use Rattle.ff_whole.proofs.Formulas.{point_e, point_env, minus_e, cross_e, place_e, place_env, through_e, height_e}
use Rattle.ff_whole.proofs.Ring.{num, ◌⊕◌, ◌⊗◌, solve}
use Rattle.ff_whole.proofs.Signs.{linear, by_sign, pos_from_mul}
use Rattle.ff_whole.proofs.ThreeTerms.{cross-step, parallel-both}
use Rattle.ff_whole.proofs.Searches.{search, sum, sum-pos, sum-zero}
use Rattle.ff_whole.proofs.Turns.{height-through}
use Rattle.ff_whole.specs.Points.{minus, dot, cross, turn}
use Rattle.ff_whole.specs.Places.{place_of, through, height}
use Rattle.ff_whole.specs.declared.points.Pt.{Pt}
use Rattle.ff_whole.specs.declared.places.Place.{Place}

-- the cross products of the sides' ends, added up
abbrev pub area : ℕ → (ℕ → Pt) → ℤ
area n v = sum n (λ i. cross (v i) (v (suc i)))

-- the heights of a place over the row's sides
abbrev pub heights : ℕ → (ℕ → Pt) → Place → ℤ
heights n v m = sum n (λ i. height (through (v i) (v (suc i))) m)

abbrev flat : Place → Pt
flat m = record { x = m.x; y = m.y }

height-cross : (p q : Pt) (m : Place) → height (through p q) m ≡ m.w *ℤ cross p q +ℤ cross (minus q p) (flat m)
height-cross p q m =
    let p' = point_e 0 in let q' = point_e 2 in let m' = place_e 4 in
    solve (point_env p (point_env q (place_env m []))) (height_e (through_e p' q') m') (m'.w ⊗ cross_e p' q' ⊕ cross_e (minus_e q' p') (record { x = m'.x; y = m'.y })) refl

cross-way : (p q r u : Pt) → cross (minus q r) u ≡ cross (minus p r) u +ℤ cross (minus q p) u
cross-way p q r u =
    let p' = point_e 0 in let q' = point_e 2 in let r' = point_e 4 in let u' = point_e 6 in
    solve (point_env p (point_env q (point_env r (point_env u [])))) (cross_e (minus_e q' r') u') (cross_e (minus_e p' r') u' ⊕ cross_e (minus_e q' p') u') refl

cross-stay : (p u : Pt) → cross (minus p p) u ≡ pos 0
cross-stay p u = let p' = point_e 0 in let u' = point_e 2 in
    solve (point_env p (point_env u [])) (cross_e (minus_e p' p') u') (num (pos 0)) refl

open_heights : (n : ℕ) (v : ℕ → Pt) (m : Place)
    → heights n v m ≡ m.w *ℤ area n v +ℤ cross (minus (v n) (v 0)) (flat m)
open_heights zero v m = let z = *ℤ-zero m.w in let e = cross-stay (v 0) (flat m) in omega (arith, linear)
open_heights (suc n) v m =
    let a = open_heights n v m in
    let h = height-cross (v n) (v (suc n)) m in
    let d = *ℤ-distrib_left m.w (area n v) (cross (v n) (v (suc n))) in
    let c = cross-way (v n) (v (suc n)) (v 0) (flat m) in
    omega (arith, linear)

-- the heights of any place over the sides add up to the area, times its denominator
pub closed_heights : (n : ℕ) (v : ℕ → Pt) (m : Place) → v n ≡ v 0 → heights n v m ≡ m.w *ℤ area n v
closed_heights n v m e =
    let a = open_heights n v m in
    let z : cross (minus (v n) (v 0)) (flat m) ≡ pos 0 = ap (λ p. cross (minus p (v 0)) (flat m)) e ∙ cross-stay (v 0) (flat m) in
    omega (arith, linear)

-- the area is positive where some place is right of no side, and left of one
pub area_positive : (n : ℕ) (v : ℕ → Pt) (m : Place) → v n ≡ v 0 → pos 0 <ℤ m.w
    → ((i : ℕ) → i < n → pos 0 ≤ℤ height (through (v i) (v (suc i))) m)
    → (k : ℕ) → k < n → pos 0 <ℤ height (through (v k) (v (suc k))) m → pos 0 <ℤ area n v
area_positive n v m e w h k l p =
    let s = sum-pos n (λ i. height (through (v i) (v (suc i))) m) h k l p in
    let c = closed_heights n v m e in
    pos_from_mul m.w (area n v) w (omega (arith, linear))

-- it is 0 where all points are on one line, from p along u
pub area_flat : (n : ℕ) (v : ℕ → Pt) (u p : Pt) → v n ≡ v 0 → pos 0 <ℤ dot u u
    → ((i : ℕ) → cross u (minus (v i) p) ≡ pos 0) → area n v ≡ pos 0
area_flat n v u p e long on =
    let c = closed_heights n v (place_of (v 0)) e in
    let o = one-*ℤ (area n v) in
    let s = sum-zero n (λ i. height (through (v i) (v (suc i))) (place_of (v 0))) (λ i l. height-through (v i) (v (suc i)) (v 0) ∙ parallel-both u (minus (v (suc i)) (v i)) (minus (v 0) (v i)) long (along i (suc i)) (along i 0)) in
    omega (arith, linear)
  where
    along : (i j : ℕ) → cross u (minus (v j) (v i)) ≡ pos 0
    along i j = let a = cross-step u (v i) (v j) p in let b = on i in let d = on j in omega (arith, linear)

-- a closed row with a positive area that turns right over no side has a point off each side's line
pub wide_from_area : (n : ℕ) (v : ℕ → Pt) → v n ≡ v 0 → pos 0 <ℤ area n v
    → ((k : ℕ) → (i : ℕ) × (i < n) × (v k ≡ v i))
    → (k : ℕ) → pos 0 <ℤ dot (minus (v (suc k)) (v k)) (minus (v (suc k)) (v k)) → ((i : ℕ) → i < n → pos 0 ≤ℤ turn (v k) (v (suc k)) (v i))
    → (i : ℕ) × (i < n) × (pos 0 <ℤ turn (v k) (v (suc k)) (v i))
wide_from_area n v e a period k long left =
    elim (search n (λ i. pos 0 <ℤ turn (v k) (v (suc k)) (v i)) (λ i. turn (v k) (v (suc k)) (v i) ≡ pos 0) decide) [
      | inl r ↦ r
      | inr all ↦ let z = area_flat n v (minus (v (suc k)) (v k)) (v k) e long (λ j. let r = period j in subst (λ p. turn (v k) (v (suc k)) p ≡ pos 0) (sym r.2) (all r.0 r.1)) in
          absurd (omega (arith, linear))
    ]
  where
    decide : (i : ℕ) → i < n → (pos 0 <ℤ turn (v k) (v (suc k)) (v i)) ⊎ (turn (v k) (v (suc k)) (v i) ≡ pos 0)
    decide i l = let h = left i l in
        by_sign (turn (v k) (v (suc k)) (v i)) (λ m. absurd (omega (arith, linear))) (λ z. inr z) (λ m. inl m)

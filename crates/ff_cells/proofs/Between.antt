-- A place between a line below and a line above, both edges of a convex ring, is inside.
use Rattle.std.proofs.Common.{◌≡◌, ◌≢◌, ◌⊎◌, inl, inr, arith, refl, ap, ◌∙◌, ℤ, pos, ◌+ℤ◌, ◌*ℤ◌, ◌<ℤ◌, ◌≤ℤ◌, [], ◌∷◌}
use lib.IntN.{neg_ℤ, ◌-ℤ◌, *ℤ-zero}
use Rattle.ff_whole.proofs.Ring.{var, num, ◌⊕◌, ◌⊖◌, ◌⊗◌, opp, solve}
use Rattle.ff_whole.proofs.Signs.{linear, by_sign, pos-mul, nonneg-mul, pos-mul_neg, neg-mul_neg, pos_from_mul, nonneg_from_mul}
use Rattle.ff_whole.specs.Places.{height, through as line_through}
use Rattle.ff_whole.specs.declared.points.Pt.{Pt}
use Rattle.ff_whole.specs.declared.lines.Line.{Line}
use Rattle.ff_whole.specs.declared.places.Place.{Place}
use Rattle.ff_whole.proofs.Formulas.{point_e, point_env}
use Rattle.ff_whole.proofs.Formulas.{line_e, place_e, line_env, place_env, height_e}
use Rattle.ff_whole.specs.Places.{place_of}
use Rattle.ff_whole.proofs.Formulas.{through_e}
use Rattle.ff_cells.specs.Gap.{run}

-- how far c is to the right of p and to the left of q are its weights between them, but for what it is off
-- the line
pub weights : (p q : Pt) (f : Line) (c : Place) → (q.x -ℤ p.x) *ℤ height f c ≡ run (place_of p) c *ℤ height f
    (place_of q) +ℤ run c (place_of q) *ℤ height f (place_of p) +ℤ height (line_through p q) c *ℤ f.b
weights p q f c =
    let p' = point_e 0 in let q' = point_e 2 in let f' = line_e 4 in let c' = place_e 7 in
    let one = num (pos 1) in
    solve (point_env p (point_env q (line_env f (place_env c []))))
    ((q'.x ⊖ p'.x) ⊗ height_e f' c')
    ((c'.x ⊗ one ⊖ p'.x ⊗ c'.w) ⊗ (f'.a ⊗ q'.x ⊕ f'.b ⊗ q'.y ⊖ f'.c ⊗ one) ⊕ (q'.x ⊗ c'.w ⊖ c'.x ⊗ one) ⊗
    (f'.a ⊗ p'.x ⊕ f'.b ⊗ p'.y ⊖ f'.c ⊗ one) ⊕ height_e (through_e p' q') c' ⊗ f'.b) refl

-- p and q are on the left of f or on it, and c is between them in x
pub record Spanned (p q : Pt) (f : Line) (c : Place) : Type 0 where
  pub goes : p.x <ℤ q.x
  pub first : pos 0 ≤ℤ height f (place_of p)
  pub last : pos 0 ≤ℤ height f (place_of q)
  pub after : pos 0 ≤ℤ run (place_of p) c
  pub before : pos 0 ≤ℤ run c (place_of q)

-- where f rises, what is not under the line is not right of f, and where f falls, what is not over it
not_right_over : (p q : Pt) (f : Line) (c : Place) → Spanned p q f c → pos 0 ≤ℤ f.b
    → pos 0 ≤ℤ height (line_through p q) c → pos 0 ≤ℤ height f c
not_right_over p q f c s h k =
    let e = weights p q f c in
    let u = nonneg-mul (run (place_of p) c) (height f (place_of q)) s.after s.last in
    let v = nonneg-mul (run c (place_of q)) (height f (place_of p)) s.before s.first in
    let t = nonneg-mul (height (line_through p q) c) f.b k h in
    let goes = s.goes in
    nonneg_from_mul (q.x -ℤ p.x) (height f c) (omega (arith, linear)) (omega (arith, linear))

nonpos-mul_nonpos : (a b : ℤ) → a ≤ℤ pos 0 → b ≤ℤ pos 0 → pos 0 ≤ℤ (a *ℤ b)
nonpos-mul_nonpos a b h k =
    let m = nonneg-mul (neg_ℤ a) (neg_ℤ b) (omega (arith, linear)) (omega (arith, linear)) in
    let e : neg_ℤ a *ℤ neg_ℤ b ≡ a *ℤ b = solve (a ∷ b ∷ []) (opp (var 0) ⊗ opp (var 1))
    (var 0 ⊗ var 1) refl in
    omega (arith, linear)

not_right_under : (p q : Pt) (f : Line) (c : Place) → Spanned p q f c → f.b ≤ℤ pos 0
    → height (line_through p q) c ≤ℤ pos 0 → pos 0 ≤ℤ height f c
not_right_under p q f c s h k =
    let e = weights p q f c in
    let u = nonneg-mul (run (place_of p) c) (height f (place_of q)) s.after s.last in
    let v = nonneg-mul (run c (place_of q)) (height f (place_of p)) s.before s.first in
    let t = nonpos-mul_nonpos (height (line_through p q) c) f.b k h in
    let goes = s.goes in
    nonneg_from_mul (q.x -ℤ p.x) (height f c) (omega (arith, linear)) (omega (arith, linear))

-- BETWEEN (a)
pub between_closed : (p q r s : Pt) (f : Line) (c : Place) → Spanned p q f c → Spanned r s f c
    → pos 0 ≤ℤ height (line_through p q) c → height (line_through r s) c ≤ℤ pos 0 → pos 0 ≤ℤ height f c
between_closed p q r s f c i j over under = by_sign f.b
    (λ n. not_right_under r s f c j (omega (arith, linear)) under)
    (λ z. not_right_over p q f c i (omega (arith, linear)) over)
    (λ n. not_right_over p q f c i (omega (arith, linear)) over)

-- BETWEEN (b)
pub between_open : (p q r s : Pt) (f : Line) (c : Place) → Spanned p q f c → Spanned r s f c
    → pos 0 <ℤ run (place_of p) c → pos 0 <ℤ run c (place_of q) → pos 0 <ℤ height (line_through p q) c
    → height (line_through r s) c <ℤ pos 0
    → (f.a ≢ pos 0) ⊎ (f.b ≢ pos 0) → pos 0 <ℤ height f c
between_open p q r s f c i j after before over under way = by_sign f.b
    (λ n.
    let e = weights r s f c in
    let u = nonneg-mul (run (place_of r) c) (height f (place_of s)) j.after j.last in
    let v = nonneg-mul (run c (place_of s)) (height f (place_of r)) j.before j.first in
    let t = neg-mul_neg (height (line_through r s) c) f.b under n in
    let goes = j.goes in
    pos_from_mul (s.x -ℤ r.x) (height f c) (omega (arith, linear)) (omega (arith, linear)))
    (λ z. elim way [ inr w ↦ absurd (w z) | inl w ↦ level z w ])
    (λ n.
    let e = weights p q f c in
    let u = nonneg-mul (run (place_of p) c) (height f (place_of q)) i.after i.last in
    let v = nonneg-mul (run c (place_of q)) (height f (place_of p)) i.before i.first in
    let t = pos-mul (height (line_through p q) c) f.b over n in
    let goes = i.goes in
    pos_from_mul (q.x -ℤ p.x) (height f c) (omega (arith, linear)) (omega (arith, linear)))
  where
    level : f.b ≡ pos 0 → f.a ≢ pos 0 → pos 0 <ℤ height f c
    level z w =
        let e = weights p q f c in
        let t : height (line_through p q) c *ℤ f.b ≡ pos 0 = ap (λ k. height (line_through p q) c *ℤ k) z
        ∙ *ℤ-zero (height (line_through p q) c) in
        let goes = i.goes in
        let first = i.first in
        let last = i.last in
        let way : pos 0 <ℤ (q.x -ℤ p.x) = omega (arith, linear) in
        let d : height f (place_of q) -ℤ height f (place_of p) ≡ (q.x -ℤ p.x) *ℤ f.a +ℤ (q.y -ℤ p.y) *ℤ f.b =
        solve (point_env p (point_env q (line_env f [])))
        ((var 4 ⊗ var 2 ⊕ var 5 ⊗ var 3 ⊖ var 6 ⊗ num (pos 1)) ⊖
        (var 4 ⊗ var 0 ⊕ var 5 ⊗ var 1 ⊖ var 6 ⊗ num (pos 1)))
        ((var 2 ⊖ var 0) ⊗ var 4 ⊕ (var 3 ⊖ var 1) ⊗ var 5) refl in
        let flat : (q.y -ℤ p.y) *ℤ f.b ≡ pos 0 = ap (λ k. (q.y -ℤ p.y) *ℤ k) z ∙ *ℤ-zero (q.y -ℤ p.y) in
        let u = nonneg-mul (run (place_of p) c) (height f (place_of q)) i.after i.last in
        let v = nonneg-mul (run c (place_of q)) (height f (place_of p)) i.before i.first in
        pos_from_mul (q.x -ℤ p.x) (height f c) way (by_sign f.a
        (λ n. let m = pos-mul_neg (q.x -ℤ p.x) f.a way n in let o : pos 0 <ℤ height f (place_of p) = omega
        (arith, linear) in let o2 = pos-mul (run c (place_of q)) (height f (place_of p)) before o in
        omega (arith, linear))
        (λ n. absurd (w n))
        (λ n. let m = pos-mul (q.x -ℤ p.x) f.a way n in let o : pos 0 <ℤ height f (place_of q) = omega
        (arith, linear) in let o2 = pos-mul (run (place_of p) c) (height f (place_of q)) after o in
        omega (arith, linear)))

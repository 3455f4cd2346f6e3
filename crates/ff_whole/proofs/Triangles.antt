-- A place in the coordinates of a triangle, and where a row of signs turns.
use Rattle.std.proofs.Common.{◌≡◌, ℕ, zero, suc, ◌<◌, refl, arith, ℤ, pos, ◌+ℤ◌, ◌*ℤ◌, ◌<ℤ◌, ◌≤ℤ◌, []}
use Rattle.std.proofs.lemmas.Int.{by_lt_z}
use Rattle.ff_whole.proofs.Formulas.{PointE, point_e, point_env, turn_e, line_e, place_e, place_env, line_env, height_e, through_e}
use Rattle.ff_whole.proofs.Ring.{Expr, num, ◌⊕◌, ◌⊗◌, solve}
use Rattle.ff_whole.proofs.Signs.{linear, pos-mul, nonneg-mul, pos_from_mul, nonneg_from_mul}
use Rattle.ff_whole.specs.Points.{turn}
use Rattle.ff_whole.specs.Places.{place_of, through, height}
use Rattle.ff_whole.specs.declared.points.Pt.{Pt}
use Rattle.ff_whole.specs.declared.lines.Line.{Line}
use Rattle.ff_whole.specs.declared.places.Place.{Place}

-- the heights over the sides add up to the turn, times the denominator
pub heights-sum : (p q r : Pt) (m : Place)
    → turn p q r *ℤ m.w ≡ height (through q r) m +ℤ height (through r p) m +ℤ height (through p q) m
heights-sum p q r m =
    let p' = point_e 0 in let q' = point_e 2 in let r' = point_e 4 in let m' = place_e 6 in
    solve (point_env p (point_env q (point_env r (place_env m [])))) (turn_e p' q' r' ⊗ m'.w)
    (height_e (through_e q' r') m' ⊕ height_e (through_e r' p') m' ⊕ height_e (through_e p' q') m') refl

-- the same under any line
pub height-triangle : (l : Line) (p q r : Pt) (m : Place) → turn p q r *ℤ height l m
    ≡ height (through q r) m *ℤ height l (place_of p) +ℤ height (through r p) m *ℤ height l (place_of q) +ℤ height (through p q) m *ℤ height l (place_of r)
height-triangle l p q r m =
    let l' = line_e 0 in let p' = point_e 3 in let q' = point_e 5 in let r' = point_e 7 in let m' = place_e 9 in
    let over : PointE → Expr = λ (z : PointE). height_e l' (record { x = z.x; y = z.y; w = num (pos 1) }) in
    solve (line_env l (point_env p (point_env q (point_env r (place_env m []))))) (turn_e p' q' r' ⊗ height_e l' m')
    (height_e (through_e q' r') m' ⊗ over p' ⊕ height_e (through_e r' p') m' ⊗ over q' ⊕ height_e (through_e p' q') m' ⊗ over r') refl

-- a place of a triangle is right of no line that no corner is right of
pub not_right-triangle : (l : Line) (p q r : Pt) (m : Place) → pos 0 <ℤ turn p q r
    → pos 0 ≤ℤ height (through q r) m → pos 0 ≤ℤ height (through r p) m → pos 0 ≤ℤ height (through p q) m
    → pos 0 ≤ℤ height l (place_of p) → pos 0 ≤ℤ height l (place_of q) → pos 0 ≤ℤ height l (place_of r) → pos 0 ≤ℤ height l m
not_right-triangle l p q r m t a b c f g h =
    nonneg_from_mul (turn p q r) (height l m) t
    (omega (
      arith,
      linear,
      height-triangle l p q r m,
      nonneg-mul (height (through q r) m) (height l (place_of p)) a f,
      nonneg-mul (height (through r p) m) (height l (place_of q)) b g,
      nonneg-mul (height (through p q) m) (height l (place_of r)) c h,
    ))

-- and left of each line that all corners are left of, where it isn't on the first two sides
pub left-triangle : (l : Line) (p q r : Pt) (m : Place) → pos 0 <ℤ turn p q r
    → pos 0 <ℤ height (through q r) m → pos 0 ≤ℤ height (through r p) m → pos 0 <ℤ height (through p q) m
    → pos 0 <ℤ height l (place_of p) → pos 0 <ℤ height l (place_of q) → pos 0 <ℤ height l (place_of r) → pos 0 <ℤ height l m
left-triangle l p q r m t a b c f g h =
    let u = pos-mul (height (through q r) m) (height l (place_of p)) a f in
    let v = nonneg-mul (height (through r p) m) (height l (place_of q)) b (omega (arith, linear)) in
    let w = pos-mul (height (through p q) m) (height l (place_of r)) c h in
    pos_from_mul (turn p q r) (height l m) t (omega (arith, linear, height-triangle l p q r m))

-- ---- a row of signs

-- from above 0 to not above 0 there is a last one above 0 before one that is not
pub sign_turns : (f : ℕ → ℤ) (n : ℕ) → pos 0 <ℤ f 0 → f n ≤ℤ pos 0
    → (i : ℕ) × (i < n) × (pos 0 <ℤ f i) × (f (suc i) ≤ℤ pos 0)
sign_turns f zero h k = absurd (omega (arith, linear))
sign_turns f (suc n) h k = by_lt_z (pos 0) (f n)
    (λ more. (n, omega arith, more, k))
    (λ less. let r = sign_turns f n h less in let lt = r.1 in (r.0, omega arith, r.2, r.3))

-- Directions, as differences of points: which is to the left of which.
use Rattle.std.proofs.Common.{◌≡◌, ◌≢◌, ◌+◌, ◌*◌, refl, arith, ap, ◌∙◌, ℕ, ℤ, pos, ◌+ℤ◌, ◌-ℤ◌, ◌*ℤ◌, ◌<ℤ◌, ◌≤ℤ◌, List, [], ◌∷◌, inl, inr}
use lib.IntN.{neg_ℤ, *ℤ-zero}
use Rattle.std.proofs.lemmas.Int.{by_lt_z}
use Rattle.ff_whole.proofs.Ring.{Expr, var, num, ◌⊕◌, ◌⊖◌, ◌⊗◌, opp, solve, solve_from}
use Rattle.ff_whole.proofs.Signs.{linear, pos-mul, nonneg-mul, nonneg-mul_nonpos, nonneg_from_mul, square_pos, zero_product}
use Rattle.ff_whole.specs.declared.points.Pt.{Pt}
use Rattle.ff_whole.specs.declared.sizes.TheConstants.{POINT_SIZE}
use Rattle.ff_whole.specs.Points.{minus, cross, turn}
use Rattle.ff_whole.specs.Turning.{rank}

-- ---- the formulas once more, as expressions

record PointE : Type 0 where
  x : Expr
  y : Expr

-- the n-th of the points, in the values that `values` makes of them
abbrev point : ℕ → PointE
point n = record { x = var (2 * n + 1); y = var (2 * n + 2) }

abbrev coordinates : List Pt → List ℤ
coordinates [] = []
coordinates (p ∷ ps) = p.x ∷ p.y ∷ coordinates ps

abbrev values : List Pt → List ℤ
values ps = pos (POINT_SIZE + POINT_SIZE) ∷ coordinates ps

abbrev minus_e : PointE → PointE → PointE
minus_e q p = record { x = q.x ⊖ p.x; y = q.y ⊖ p.y }

abbrev cross_e : PointE → PointE → Expr
cross_e u v = u.x ⊗ v.y ⊖ u.y ⊗ v.x

abbrev turn_e : PointE → PointE → PointE → Expr
turn_e p q r = cross_e (minus_e q p) (minus_e r p)

abbrev rank_e : PointE → Expr
rank_e u = var 0 ⊗ u.x ⊕ u.y

-- ---- identities

pub cross-self : (u : Pt) → cross u u ≡ pos 0
cross-self u = solve (values (u ∷ [])) (cross_e (point 0) (point 0)) (num (pos 0)) refl

pub cross-swap : (u v : Pt) → cross v u ≡ neg_ℤ (cross u v)
cross-swap u v = solve (values (u ∷ v ∷ [])) (cross_e (point 1) (point 0)) (opp (cross_e (point 0) (point 1))) refl

pub rank-minus : (p q : Pt) → rank (minus q p) ≡ rank q -ℤ rank p
rank-minus p q = solve (values (p ∷ q ∷ [])) (rank_e (minus_e (point 1) (point 0))) (rank_e (point 1) ⊖ rank_e (point 0)) refl

pub turn-first : (p q : Pt) → turn p q p ≡ pos 0
turn-first p q = solve (values (p ∷ q ∷ [])) (turn_e (point 0) (point 1) (point 0)) (num (pos 0)) refl

pub turn-same : (p r : Pt) → turn p p r ≡ pos 0
turn-same p r = solve (values (p ∷ r ∷ [])) (turn_e (point 0) (point 0) (point 1)) (num (pos 0)) refl

pub turn-cross : (p q r : Pt) → turn p q r ≡ cross (minus q p) (minus r q)
turn-cross p q r = solve (values (p ∷ q ∷ r ∷ [])) (turn_e (point 0) (point 1) (point 2)) (cross_e (minus_e (point 1) (point 0)) (minus_e (point 2) (point 1))) refl

pub turn-step : (p q r s : Pt) → turn p q s ≡ turn p q r +ℤ cross (minus q p) (minus s r)
turn-step p q r s =
    solve (values (p ∷ q ∷ r ∷ s ∷ [])) (turn_e (point 0) (point 1) (point 3))
    (turn_e (point 0) (point 1) (point 2) ⊕ cross_e (minus_e (point 1) (point 0)) (minus_e (point 3) (point 2))) refl

-- each of three directions is a sum of multiples of the others
exchange : (a b c : Pt) → (rank b *ℤ rank b) *ℤ cross a c ≡ cross b c *ℤ (rank b *ℤ rank a) +ℤ (rank b *ℤ rank c) *ℤ cross a b
exchange a b c =
    solve (values (a ∷ b ∷ c ∷ [])) ((rank_e (point 1) ⊗ rank_e (point 1)) ⊗ cross_e (point 0) (point 2))
    (cross_e (point 1) (point 2) ⊗ (rank_e (point 1) ⊗ rank_e (point 0)) ⊕ (rank_e (point 1) ⊗ rank_e (point 2)) ⊗ cross_e (point 0) (point 1)) refl

-- ---- signs. Directions whose ranks have one sign are within half a turn

-- where b is to the left of a, and c of b, so is c of a
pub left_of_left : (a b c : Pt) → rank b ≢ pos 0 → pos 0 <ℤ (rank b *ℤ rank a) → pos 0 <ℤ (rank b *ℤ rank c) → pos 0 ≤ℤ cross a b → pos 0 ≤ℤ cross b c → pos 0 ≤ℤ cross a c
left_of_left a b c n f g h k =
    let e = exchange a b c in
    let u = nonneg-mul (cross b c) (rank b *ℤ rank a) k (omega (arith, linear)) in
    let v = nonneg-mul (rank b *ℤ rank c) (cross a b) (omega (arith, linear)) h in
    nonneg_from_mul (rank b *ℤ rank b) (cross a c) (square_pos (rank b) n) (omega (arith, linear))

-- where b is to the right of a, which is in the other half, and c to the left of b, c is to the right of a
pub right_of_right : (a b c : Pt) → rank b ≢ pos 0 → (rank b *ℤ rank a) <ℤ pos 0 → pos 0 <ℤ (rank b *ℤ rank c) → cross a b ≤ℤ pos 0 → pos 0 ≤ℤ cross b c → cross a c ≤ℤ pos 0
right_of_right a b c n f g h k =
    let e = exchange a b c in
    let u = nonneg-mul_nonpos (cross b c) (rank b *ℤ rank a) k (omega (arith, linear)) in
    let v = nonneg-mul_nonpos (rank b *ℤ rank c) (cross a b) (omega (arith, linear)) h in
    by_lt_z (pos 0) (cross a c)
    (λ l. let m = pos-mul (rank b *ℤ rank b) (cross a c) (square_pos (rank b) n) l in absurd (omega (arith, linear)))
    (λ l. l)

-- ---- at q, of smaller rank than both its neighbours p and r

weighted : (p q r s : Pt) → (rank q -ℤ rank s) *ℤ turn p q r +ℤ (rank p -ℤ rank q) *ℤ turn q r s +ℤ (rank r -ℤ rank q) *ℤ turn p q s ≡ pos 0
weighted p q r s =
    let rank_from = λ (u v : PointE). rank_e u ⊖ rank_e v in
    solve (values (p ∷ q ∷ r ∷ s ∷ [])) (rank_from (point 1) (point 3) ⊗ turn_e (point 0) (point 1) (point 2)
    ⊕ rank_from (point 0) (point 1) ⊗ turn_e (point 1) (point 2) (point 3) ⊕ rank_from (point 2) (point 1) ⊗ turn_e (point 0) (point 1) (point 3)) (num (pos 0)) refl

-- the ring turns left there if it does not turn right, and some point is left of both edges, strictly so of the second
pub left_turn : (p q r t : Pt) → rank q <ℤ rank p → rank q <ℤ rank r → pos 0 ≤ℤ turn p q r → pos 0 ≤ℤ turn p q t → pos 0 <ℤ turn q r t → pos 0 <ℤ turn p q r
left_turn p q r t falls rises pqr pqt qrt =
    let e = weighted p q r t in
    let a = pos-mul (rank p -ℤ rank q) (turn q r t) (omega (arith, linear)) qrt in
    let b = nonneg-mul (rank r -ℤ rank q) (turn p q t) (omega (arith, linear)) pqt in
    by_lt_z (pos 0) (turn p q r) (λ l. l) (λ l.
    let z : turn p q r ≡ pos 0 = omega (arith, linear) in
    let c = ap (λ x. (rank q -ℤ rank t) *ℤ x) z ∙ *ℤ-zero (rank q -ℤ rank t) in
    absurd (omega (arith, linear)))

-- and it does not if a point of smaller rank still is on or left of both edges
pub no_left_turn : (p q r s : Pt) → rank q <ℤ rank p → rank q <ℤ rank r → rank s <ℤ rank q → pos 0 ≤ℤ turn p q s → pos 0 ≤ℤ turn q r s → turn p q r ≤ℤ pos 0
no_left_turn p q r s falls rises before pqs qrs =
    let e = weighted p q r s in
    let a = nonneg-mul (rank p -ℤ rank q) (turn q r s) (omega (arith, linear)) qrs in
    let b = nonneg-mul (rank r -ℤ rank q) (turn p q s) (omega (arith, linear)) pqs in
    by_lt_z (pos 0) (turn p q r)
    (λ l. let c = pos-mul (rank q -ℤ rank s) (turn p q r) (omega (arith, linear)) l in absurd (omega (arith, linear)))
    (λ l. l)

-- three points on the line through two others make no triangle
pub flat : (p q a b c : Pt) → rank (minus q p) ≢ pos 0 → turn p q a ≡ pos 0 → turn p q b ≡ pos 0 → turn p q c ≡ pos 0 → turn a b c ≡ pos 0
flat p q a b c n f g h = elim (zero_product (rank (minus q p)) (turn a b c) product) [ inl z ↦ absurd (n z) | inr z ↦ z ]
  where
    product : rank (minus q p) *ℤ turn a b c ≡ pos 0
    product = solve_from (values (p ∷ q ∷ a ∷ b ∷ c ∷ []))
        (record { by = rank_e (minus_e (point 4) (point 3)); zero = turn_e (point 0) (point 1) (point 2) }
        ∷ record { by = rank_e (minus_e (point 2) (point 4)); zero = turn_e (point 0) (point 1) (point 3) }
        ∷ record { by = rank_e (minus_e (point 3) (point 2)); zero = turn_e (point 0) (point 1) (point 4) } ∷ [])
        (rank_e (minus_e (point 1) (point 0)) ⊗ turn_e (point 2) (point 3) (point 4)) (num (pos 0)) refl (f, (g, (h, tt)))

-- Identities of directions with two or three terms, and what they say where two directions are parallel.
use Rattle.std.proofs.Common.{◌≡◌, ◌≢◌, ◌⊎◌, refl, arith, pos, ◌+ℤ◌, ◌-ℤ◌, ◌*ℤ◌, ◌<ℤ◌, []}
use lib.IntN.{neg_ℤ, *ℤ_comm}
use Rattle.ff_whole.proofs.Ring.{num, ◌⊕◌, ◌⊖◌, ◌⊗◌, opp, solve}
use Rattle.ff_whole.proofs.Signs.{linear, zero-mul, squares_pos, zero_from_mul}
use Rattle.ff_whole.proofs.Formulas.{point_e, point_env, minus_e, dot_e, cross_e}
use Rattle.ff_whole.specs.Points.{minus, dot, cross}
use Rattle.ff_whole.specs.declared.points.Pt.{Pt}

-- ---- two directions

-- the cross product changes its sign where its directions change places
pub cross-flip : (a b : Pt) → cross b a ≡ neg_ℤ (cross a b)
cross-flip a b = let a' = point_e 0 in let b' = point_e 2 in
    solve (point_env a (point_env b [])) (cross_e b' a') (opp (cross_e a' b')) refl

-- the dot product does not
pub dot-flip : (a b : Pt) → dot b a ≡ dot a b
dot-flip a b = let a' = point_e 0 in let b' = point_e 2 in
    solve (point_env a (point_env b [])) (dot_e b' a') (dot_e a' b') refl

-- a direction is not left of itself
pub cross-own : (a : Pt) → cross a a ≡ pos 0
cross-own a = let a' = point_e 0 in solve (point_env a []) (cross_e a' a') (num (pos 0)) refl

-- from a point to itself
pub cross-none : (u p : Pt) → cross u (minus p p) ≡ pos 0
cross-none u p = let u' = point_e 0 in let p' = point_e 2 in
    solve (point_env u (point_env p [])) (cross_e u' (minus_e p' p')) (num (pos 0)) refl

-- from r to p, and on to q
pub cross-step : (u p q r : Pt) → cross u (minus q r) ≡ cross u (minus p r) +ℤ cross u (minus q p)
cross-step u p q r = let u' = point_e 0 in let p' = point_e 2 in let q' = point_e 4 in let r' = point_e 6 in
    solve (point_env u (point_env p (point_env q (point_env r [])))) (cross_e u' (minus_e q' r')) (cross_e u' (minus_e p' r') ⊕ cross_e u' (minus_e q' p')) refl

-- the same along u
pub dot-step : (u p q r : Pt) → dot u (minus q r) ≡ dot u (minus p r) +ℤ dot u (minus q p)
dot-step u p q r = let u' = point_e 0 in let p' = point_e 2 in let q' = point_e 4 in let r' = point_e 6 in
    solve (point_env u (point_env p (point_env q (point_env r [])))) (dot_e u' (minus_e q' r')) (dot_e u' (minus_e p' r') ⊕ dot_e u' (minus_e q' p')) refl

-- b in the coordinates along and across u
pub along_x : (u b : Pt) → dot u u *ℤ b.x ≡ dot u b *ℤ u.x -ℤ cross u b *ℤ u.y
along_x u b = let u' = point_e 0 in let b' = point_e 2 in
    solve (point_env u (point_env b [])) (dot_e u' u' ⊗ b'.x) (dot_e u' b' ⊗ u'.x ⊖ cross_e u' b' ⊗ u'.y) refl

-- the same in y
pub along_y : (u b : Pt) → dot u u *ℤ b.y ≡ dot u b *ℤ u.y +ℤ cross u b *ℤ u.x
along_y u b = let u' = point_e 0 in let b' = point_e 2 in
    solve (point_env u (point_env b [])) (dot_e u' u' ⊗ b'.y) (dot_e u' b' ⊗ u'.y ⊕ cross_e u' b' ⊗ u'.x) refl

-- ---- three directions

-- Lagrange, for the dot product and for the cross product
pub lagrange-dot : (u a b : Pt) → dot u u *ℤ dot a b ≡ dot u a *ℤ dot u b +ℤ cross u a *ℤ cross u b
lagrange-dot u a b = let u' = point_e 0 in let a' = point_e 2 in let b' = point_e 4 in
    solve (point_env u (point_env a (point_env b []))) (dot_e u' u' ⊗ dot_e a' b') (dot_e u' a' ⊗ dot_e u' b' ⊕ cross_e u' a' ⊗ cross_e u' b') refl

-- and for the cross product
pub lagrange-cross : (u a b : Pt) → dot u u *ℤ cross a b ≡ dot u a *ℤ cross u b -ℤ cross u a *ℤ dot u b
lagrange-cross u a b = let u' = point_e 0 in let a' = point_e 2 in let b' = point_e 4 in
    solve (point_env u (point_env a (point_env b []))) (dot_e u' u' ⊗ cross_e a' b') (dot_e u' a' ⊗ cross_e u' b' ⊖ cross_e u' a' ⊗ dot_e u' b') refl

-- ---- four directions: Plücker

-- the cross products of four directions, in pairs
pub plucker : (u a b c : Pt) → cross u b *ℤ cross c a ≡ cross u c *ℤ cross b a +ℤ cross u a *ℤ cross c b
plucker u a b c = let u' = point_e 0 in let a' = point_e 2 in let b' = point_e 4 in let c' = point_e 6 in
    solve (point_env u (point_env a (point_env b (point_env c [])))) (cross_e u' b' ⊗ cross_e c' a') (cross_e u' c' ⊗ cross_e b' a' ⊕ cross_e u' a' ⊗ cross_e c' b') refl

-- ---- parallel directions. That u isn't 0 is said by its square

-- a direction that isn't 0 has a positive square
pub length_positive : (u : Pt) → (u.x ≢ pos 0) ⊎ (u.y ≢ pos 0) → pos 0 <ℤ dot u u
length_positive u h = squares_pos u.x u.y h

-- two directions parallel to a third are parallel
pub parallel-both : (u a b : Pt) → pos 0 <ℤ dot u u → cross u a ≡ pos 0 → cross u b ≡ pos 0 → cross a b ≡ pos 0
parallel-both u a b long f g =
    let e = lagrange-cross u a b in
    let x = zero-mul (cross u b) (dot u a) g in
    let y = zero-mul (cross u a) (dot u b) f in
    let c = *ℤ_comm (dot u a) (cross u b) in
    zero_from_mul (dot u u) (cross a b) long (omega (arith, linear))

-- where b is parallel to u, what is across it is across u, times their product
pub parallel-cross : (u b w : Pt) → cross u b ≡ pos 0 → dot u u *ℤ cross w b ≡ dot u b *ℤ cross w u
parallel-cross u b w h =
    let e : dot u u *ℤ cross w b ≡ dot u b *ℤ cross w u +ℤ cross u b *ℤ dot u w =
    (let u' = point_e 0 in let b' = point_e 2 in let w' = point_e 4 in
    solve (point_env u (point_env b (point_env w []))) (dot_e u' u' ⊗ cross_e w' b') (dot_e u' b' ⊗ cross_e w' u' ⊕ cross_e u' b' ⊗ dot_e u' w') refl) in
    let z = zero-mul (cross u b) (dot u w) h in
    omega (arith, linear)

-- two directions that are parallel to a third have the product of their products with it
pub parallel-dot : (u a b : Pt) → cross u a ≡ pos 0 → dot u u *ℤ dot a b ≡ dot u a *ℤ dot u b
parallel-dot u a b h = let e = lagrange-dot u a b in let z = zero-mul (cross u a) (cross u b) h in
    omega (arith, linear)

-- what is neither along nor across u is 0
pub nothing : (u b : Pt) → pos 0 <ℤ dot u u → cross u b ≡ pos 0 → dot u b ≡ pos 0 → (b.x ≡ pos 0) × (b.y ≡ pos 0)
nothing u b long f g =
    let ex = along_x u b in
    let ey = along_y u b in
    let z = zero-mul (cross u b) u.y f in
    let w = zero-mul (cross u b) u.x f in
    let s = zero-mul (dot u b) u.x g in
    let t = zero-mul (dot u b) u.y g in
    (zero_from_mul (dot u u) b.x long (omega (arith, linear)), zero_from_mul (dot u u) b.y long (omega (arith, linear)))

-- parallel directions that aren't 0 have a product that isn't 0
pub parallel-product : (u b : Pt) → pos 0 <ℤ dot u u → pos 0 <ℤ dot b b → cross u b ≡ pos 0 → dot u b ≢ pos 0
parallel-product u b long far f g =
    let z = nothing u b long f g in
    let x = zero-mul b.x b.x z.0 in
    let y = zero-mul b.y b.y z.1 in
    omega (arith, linear)

-- At a corner of a convex ring: a and c are the directions to the vertices before and after it, and z is a direction
-- strictly between them. An edge on whose line the corner is, with neither neighbour on its right, has z on its left.
use Rattle.std.proofs.Common.{◌≡◌, arith, ◌∙◌, sym, ℤ, pos, ◌*ℤ◌, ◌<ℤ◌, ◌≤ℤ◌}
use lib.IntN.{*ℤ_comm}
use Rattle.ff_whole.proofs.Signs.{linear, by_sign, neg-mul_pos, nonneg-mul, zero-mul, sum_zero, zero_from_mul}
use Rattle.ff_whole.proofs.ThreeTerms.{plucker, parallel-both}
use Rattle.ff_whole.specs.Points.{dot, cross}
use Rattle.ff_whole.specs.declared.points.Pt.{Pt}

cancelled : (a b : ℤ) → pos 0 <ℤ b → a *ℤ b ≡ pos 0 → a ≡ pos 0
cancelled a b h e = zero_from_mul b a h (*ℤ_comm b a ∙ e)

-- where the ring turns left at the corner
pub left_in_corner : (u a c z : Pt) → pos 0 <ℤ dot u u → pos 0 ≤ℤ cross u a → pos 0 ≤ℤ cross u c
    → pos 0 <ℤ cross c z → pos 0 <ℤ cross z a → pos 0 <ℤ cross c a → pos 0 <ℤ cross u z
left_in_corner u a c z long ua uc cz za ca =
    let e = plucker u a z c in
    let p = nonneg-mul (cross u c) (cross z a) uc (omega (arith, linear)) in
    let q = nonneg-mul (cross u a) (cross c z) ua (omega (arith, linear)) in
    by_sign (cross u z)
    (λ l. let n = neg-mul_pos (cross u z) (cross c a) l ca in absurd (omega (arith, linear)))
    (λ zero.
    let x = zero-mul (cross u z) (cross c a) zero in
    let both = sum_zero (cross u c *ℤ cross z a) (cross u a *ℤ cross c z) p q (sym e ∙ x) in
    let c0 = cancelled (cross u c) (cross z a) za both.0 in
    let a0 = cancelled (cross u a) (cross c z) cz both.1 in
    let f = parallel-both u c a long c0 a0 in
    absurd (omega (arith, linear)))
    (λ l. l)

-- where it goes straight, by a vertex y off the line of the edge after the corner
pub left_at_straight : (u a c z y : Pt) → pos 0 <ℤ dot u u → pos 0 ≤ℤ cross u a → pos 0 ≤ℤ cross u c → pos 0 ≤ℤ cross u y
    → pos 0 <ℤ cross c z → pos 0 <ℤ cross z a → cross c a ≡ pos 0 → pos 0 <ℤ cross c y → pos 0 <ℤ cross u z
left_at_straight u a c z y long ua uc uy cz za ca cy =
    let e = plucker u a z c in
    let p = nonneg-mul (cross u c) (cross z a) uc (omega (arith, linear)) in
    let q = nonneg-mul (cross u a) (cross c z) ua (omega (arith, linear)) in
    let x : cross u z *ℤ cross c a ≡ pos 0 = *ℤ_comm (cross u z) (cross c a) ∙ zero-mul (cross c a) (cross u z) ca in
    let both = sum_zero (cross u c *ℤ cross z a) (cross u a *ℤ cross c z) p q (sym e ∙ x) in
    let c0 = cancelled (cross u c) (cross z a) za both.0 in
    let f = plucker u y z c in
    let g = zero-mul (cross u c) (cross z y) c0 in
    let r = nonneg-mul (cross u y) (cross c z) uy (omega (arith, linear)) in
    by_sign (cross u z)
    (λ l. let n = neg-mul_pos (cross u z) (cross c y) l cy in absurd (omega (arith, linear)))
    (λ zero.
    let w = zero-mul (cross u z) (cross c y) zero in
    let y0 = cancelled (cross u y) (cross c z) cz (omega (arith, linear)) in
    let h = parallel-both u c y long c0 y0 in
    absurd (omega (arith, linear)))
    (λ l. l)

-- The order of directions going round counterclockwise, without angles: of the three cross products of three directions
-- taken in turn, at least two are positive.
use Rattle.std.proofs.Common.{◌≡◌, ◌⊎◌, inl, inr, refl, arith, ap, ◌∙◌, pos, ◌+ℤ◌, ◌*ℤ◌, ◌<ℤ◌, ◌≤ℤ◌, []}
use lib.IntN.{neg_ℤ, *ℤ-zero}
use Rattle.std.proofs.lemmas.Int.{by_lt_z}
use Rattle.ff_whole.proofs.Formulas.{point_e, point_env, cross_e}
use Rattle.ff_whole.proofs.Ring.{◌⊕◌, ◌⊗◌, solve}
use Rattle.ff_whole.proofs.Signs.{linear, by_sign, pos-mul, neg-mul_pos, neg-mul_neg, pos_from_mul}
use Rattle.ff_whole.proofs.ThreeTerms.{cross-flip, dot-flip, parallel-both, parallel-cross, parallel-dot}
use Rattle.ff_whole.specs.Points.{dot, cross}
use Rattle.ff_whole.specs.declared.points.Pt.{Pt}

-- going round counterclockwise from a, b comes no later than c
abbrev pub IsTurned : Pt → Pt → Pt → Type 0
IsTurned a b c =
    (pos 0 <ℤ cross a b) × (pos 0 <ℤ cross b c) ⊎ ((pos 0 <ℤ cross b c) × (pos 0 <ℤ cross c a) ⊎ (pos 0 <ℤ cross c a) × (pos 0 <ℤ cross a b))

-- two directions aren't one: not parallel with a product that isn't below 0
abbrev pub AreDifferent : Pt → Pt → Type 0
AreDifferent a b = cross a b ≡ pos 0 → dot a b <ℤ pos 0

-- it does not matter which is named first
pub different_flip : (a b : Pt) → AreDifferent a b → AreDifferent b a
different_flip a b d z = let e = cross-flip b a in let f = dot-flip a b in let l = d (omega (arith, linear)) in
    omega (arith, linear)

-- ---- it may begin with any of the three, and goes round one way only

-- it may begin with the second
pub turned_next : (a b c : Pt) → IsTurned a b c → IsTurned b c a
turned_next a b c (inl x) = inr (inr x)
turned_next a b c (inr (inl x)) = inl x
turned_next a b c (inr (inr x)) = inr (inl x)

-- and goes round one way only
pub turned_once : (a b c : Pt) → IsTurned a b c → IsTurned a c b → ⊥
turned_once a b c h k =
    let e = cross-flip a b in
    let f = cross-flip b c in
    let g = cross-flip c a in
    clash h k e f g
  where
    clash : IsTurned a b c → IsTurned a c b → cross b a ≡ neg_ℤ (cross a b) → cross c b ≡ neg_ℤ (cross b c)
        → cross a c ≡ neg_ℤ (cross c a) → ⊥
    clash (inl x) (inl y) e f g = let x0 = x.0 in let x1 = x.1 in let y0 = y.0 in let y1 = y.1 in
        omega (arith, linear)
    clash (inl x) (inr (inl y)) e f g = let x0 = x.0 in let x1 = x.1 in let y0 = y.0 in let y1 = y.1 in
        omega (arith, linear)
    clash (inl x) (inr (inr y)) e f g = let x0 = x.0 in let x1 = x.1 in let y0 = y.0 in let y1 = y.1 in
        omega (arith, linear)
    clash (inr (inl x)) (inl y) e f g = let x0 = x.0 in let x1 = x.1 in let y0 = y.0 in let y1 = y.1 in
        omega (arith, linear)
    clash (inr (inl x)) (inr (inl y)) e f g = let x0 = x.0 in let x1 = x.1 in let y0 = y.0 in let y1 = y.1 in
        omega (arith, linear)
    clash (inr (inl x)) (inr (inr y)) e f g = let x0 = x.0 in let x1 = x.1 in let y0 = y.0 in let y1 = y.1 in
        omega (arith, linear)
    clash (inr (inr x)) (inl y) e f g = let x0 = x.0 in let x1 = x.1 in let y0 = y.0 in let y1 = y.1 in
        omega (arith, linear)
    clash (inr (inr x)) (inr (inl y)) e f g = let x0 = x.0 in let x1 = x.1 in let y0 = y.0 in let y1 = y.1 in
        omega (arith, linear)
    clash (inr (inr x)) (inr (inr y)) e f g = let x0 = x.0 in let x1 = x.1 in let y0 = y.0 in let y1 = y.1 in
        omega (arith, linear)

-- ---- opposite directions

-- what is left of a is right of its opposite b
right_of_opposite : (a b c : Pt) → pos 0 <ℤ dot a a → cross a b ≡ pos 0 → dot a b <ℤ pos 0 → pos 0 <ℤ cross a c
    → pos 0 <ℤ cross c b
right_of_opposite a b c long par back h =
    let e = parallel-cross a b c par in
    let f = cross-flip a c in
    let p = neg-mul_neg (dot a b) (cross c a) back (omega (arith, linear)) in
    pos_from_mul (dot a a) (cross c b) long (omega (arith, linear))

-- and the other way
left_of_opposite : (a b c : Pt) → pos 0 <ℤ dot a a → cross a b ≡ pos 0 → dot a b <ℤ pos 0 → pos 0 <ℤ cross c b
    → pos 0 <ℤ cross a c
left_of_opposite a b c long par back h =
    let e = parallel-cross a b c par in
    let f = cross-flip a c in
    let p = pos-mul (dot a a) (cross c b) long h in
    by_sign (cross c a)
    (λ l. omega (arith, linear))
    (λ z. let y = ap (λ x. dot a b *ℤ x) z ∙ *ℤ-zero (dot a b) in absurd (omega (arith, linear)))
    (λ l. let n = neg-mul_pos (dot a b) (cross c a) back l in absurd (omega (arith, linear)))

-- of three parallel directions two aren't opposite
one_way : (a b c : Pt) → pos 0 <ℤ dot b b → cross b a ≡ pos 0 → dot b a <ℤ pos 0 → dot b c <ℤ pos 0
    → pos 0 <ℤ dot a c
one_way a b c long par f g =
    let e = parallel-dot b a c par in
    let p = neg-mul_neg (dot b a) (dot b c) f g in
    pos_from_mul (dot b b) (dot a c) long (omega (arith, linear))

-- ---- three directions of which no two are one go round one way or the other

-- where the first two are opposite
either_opposite : (a b c : Pt) → pos 0 <ℤ dot a a → pos 0 <ℤ dot b b → AreDifferent a b → AreDifferent b c
    → AreDifferent a c → cross a b ≡ pos 0 → IsTurned a b c ⊎ IsTurned a c b
either_opposite a b c ha hb dab dbc dac z =
    let back = dab z in
    let e = cross-flip a b in
    let f = dot-flip a b in
    let g = cross-flip a c in
    let par : cross b a ≡ pos 0 = omega (arith, linear) in
    let back' : dot b a <ℤ pos 0 = omega (arith, linear) in
    by_sign (cross a c)
    (λ l. let ca : pos 0 <ℤ cross c a = omega (arith, linear) in inl (inr (inl (left_of_opposite b a c hb par back' ca, ca))))
    (λ n. let bc = parallel-both a b c ha z n in let p = one_way a b c hb par back' (dbc bc) in let q = dac n in absurd (omega (arith, linear)))
    (λ l. inr (inl (l, right_of_opposite a b c ha z back l)))

back_twice : (a b c : Pt) → IsTurned b c a → IsTurned a b c
back_twice a b c h = turned_next c a b (turned_next b c a h)

-- three directions of which no two are one go round one way or the other
pub either_way : (a b c : Pt) → pos 0 <ℤ dot a a → pos 0 <ℤ dot b b → pos 0 <ℤ dot c c → AreDifferent a b
    → AreDifferent b c → AreDifferent a c → IsTurned a b c ⊎ IsTurned a c b
either_way a b c ha hb hc dab dbc dac =
    let e = cross-flip a b in
    let f = cross-flip b c in
    let g = cross-flip c a in
    let dba = different_flip a b dab in
    let dcb = different_flip b c dbc in
    let dca = different_flip a c dac in
    let by_bc : cross b c ≡ pos 0 → IsTurned a b c ⊎ IsTurned a c b = λ z. elim (either_opposite b c a hb hc dbc dca dba z) [ inl y ↦ inl (back_twice a b c y) | inr y ↦ inr (turned_next b a c y) ] in
    let by_ca : cross c a ≡ pos 0 → IsTurned a b c ⊎ IsTurned a c b = λ z. elim (either_opposite c a b hc ha dca dab dcb z) [ inl y ↦ inl (turned_next c a b y) | inr y ↦ inr (back_twice a c b y) ] in
    by_sign (cross a b)
    (λ ab. by_sign (cross b c)
    (λ bc. inr (inr (inl (omega (arith, linear), omega (arith, linear)))))
    by_bc
    (λ bc. by_sign (cross c a)
    (λ ca. inr (inr (inr (omega (arith, linear), omega (arith, linear)))))
    by_ca
    (λ ca. inl (inr (inl (bc, ca))))))
    (λ z. either_opposite a b c ha hb dab dbc dac z)
    (λ ab. by_sign (cross b c)
    (λ bc. by_sign (cross c a)
    (λ ca. inr (inl (omega (arith, linear), omega (arith, linear))))
    by_ca
    (λ ca. inl (inr (inr (ca, ab)))))
    by_bc
    (λ bc. inl (inl (ab, bc))))

-- ---- the order is transitive

-- within half a turn
left_of_left : (u a b c : Pt) → pos 0 <ℤ cross u a → pos 0 <ℤ cross u b → pos 0 <ℤ cross u c → pos 0 <ℤ cross a b
    → pos 0 <ℤ cross b c → pos 0 <ℤ cross a c
left_of_left u a b c ha hb hc h k =
    let e : cross u b *ℤ cross a c ≡ cross a b *ℤ cross u c +ℤ cross b c *ℤ cross u a =
    (let u' = point_e 0 in let a' = point_e 2 in let b' = point_e 4 in let c' = point_e 6 in
    solve (point_env u (point_env a (point_env b (point_env c [])))) (cross_e u' b' ⊗ cross_e a' c') (cross_e a' b' ⊗ cross_e u' c' ⊕ cross_e b' c' ⊗ cross_e u' a') refl) in
    let p = pos-mul (cross a b) (cross u c) h hc in
    let q = pos-mul (cross b c) (cross u a) k ha in
    pos_from_mul (cross u b) (cross a c) hb (omega (arith, linear))

-- within the other half
left_of_left_beyond : (u a b c : Pt) → pos 0 <ℤ cross a u → pos 0 <ℤ cross b u → pos 0 <ℤ cross c u
    → pos 0 <ℤ cross a b → pos 0 <ℤ cross b c → pos 0 <ℤ cross a c
left_of_left_beyond u a b c ha hb hc h k =
    let e : cross b u *ℤ cross a c ≡ cross a b *ℤ cross c u +ℤ cross b c *ℤ cross a u =
    (let u' = point_e 0 in let a' = point_e 2 in let b' = point_e 4 in let c' = point_e 6 in
    solve (point_env u (point_env a (point_env b (point_env c [])))) (cross_e b' u' ⊗ cross_e a' c') (cross_e a' b' ⊗ cross_e c' u' ⊕ cross_e b' c' ⊗ cross_e a' u') refl) in
    let p = pos-mul (cross a b) (cross c u) h hc in
    let q = pos-mul (cross b c) (cross a u) k ha in
    pos_from_mul (cross b u) (cross a c) hb (omega (arith, linear))

-- what [u, w, z] says where z isn't right of u, and where w isn't left of u
low : (u w z : Pt) → IsTurned u w z → cross z u ≤ℤ pos 0 → (pos 0 <ℤ cross u w) × (pos 0 <ℤ cross w z)
low u w z (inl x) n = x
low u w z (inr (inl x)) n = let l = x.1 in absurd (omega (arith, linear))
low u w z (inr (inr x)) n = let l = x.0 in absurd (omega (arith, linear))

high : (u w z : Pt) → IsTurned u w z → cross u w ≤ℤ pos 0 → (pos 0 <ℤ cross w z) × (pos 0 <ℤ cross z u)
high u w z (inl x) n = let l = x.0 in absurd (omega (arith, linear))
high u w z (inr (inl x)) n = x
high u w z (inr (inr x)) n = let l = x.1 in absurd (omega (arith, linear))

-- where w comes before z and z before y, going round from u, w comes before y
pub turned_on : (u w z y : Pt) → pos 0 <ℤ dot u u → pos 0 <ℤ dot w w → AreDifferent u y → AreDifferent u w
    → IsTurned u w z → IsTurned u z y → IsTurned u w y
turned_on u w z y hu hw duy duw h k =
    let wu = cross-flip u w in
    let yu = cross-flip u y in
    let zu = cross-flip u z in
    by_lt_z (pos 0) (cross u w)
    (λ p. by_lt_z (pos 0) (cross y u)
    (λ q. inr (inr (q, p)))
    (λ n.
    let a = low u z y k n in
    let a0 = a.0 in
    let b = low u w z h (omega (arith, linear)) in
    by_lt_z (pos 0) (cross u y)
    (λ r. inl (p, left_of_left u w z y p a0 r b.1 a.1))
    (λ m. let e : cross u y ≡ pos 0 = omega (arith, linear) in inl (p, right_of_opposite u y w hu e (duy e) p))))
    (λ n.
    let b = high u w z h n in
    let b1 = b.1 in
    let a = high u z y k (omega (arith, linear)) in
    let a1 = a.1 in
    by_lt_z (pos 0) (cross w u)
    (λ q. inr (inl (left_of_left_beyond u w z y q b1 a1 b.0 a.0, a1)))
    (λ m.
    let e : cross u w ≡ pos 0 = omega (arith, linear) in
    let f = dot-flip u w in
    let back = duw e in
    inr (inl (left_of_opposite w u y hw (omega (arith, linear)) (omega (arith, linear)) a1, a1))))

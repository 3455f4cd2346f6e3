-- When a place is on the edge from p to q, its ends counted, and what keeps a walk along a convex ring on one line.
use Rattle.std.proofs.Common.{◌≡◌, inl, inr, arith, ap, ◌∙◌, ℤ, pos, ◌+ℤ◌, ◌-ℤ◌, ◌*ℤ◌, ◌<ℤ◌, ◌≤ℤ◌}
use lib.IntN.{neg_ℤ, *ℤ-zero, *ℤ_comm}
use Rattle.ff_whole.proofs.Laws.{neg-*ℤ}
use Rattle.ff_whole.proofs.Signs.{linear, by_sign, neg-mul_pos, pos-mul_neg, nonneg-mul, zero-mul, square_nonneg, nonneg_from_mul, neg_from_mul, zero_from_mul}
use Rattle.ff_whole.proofs.ThreeTerms.{cross-flip, dot-flip, length_positive, parallel-both, parallel-cross, parallel-dot, parallel-product, nothing}
use Rattle.ff_whole.proofs.Offsets.{off, height-off, offs-cross, offs-dot, past-sum, past-x, past-y}
use Rattle.ff_whole.specs.Points.{minus, dot, cross}
use Rattle.ff_whole.specs.Places.{through, height, past}
use Rattle.ff_whole.specs.declared.points.Pt.{Pt}
use Rattle.ff_whole.specs.declared.places.Place.{Place}

-- on the edge from p to q, its ends counted
pub record IsOn (p q : Pt) (m : Place) : Type 0 where
  pub on : height (through p q) m ≡ pos 0
  pub after : pos 0 ≤ℤ past p q m
  pub before : pos 0 ≤ℤ past q p m

-- such a place is the ends, each times how far it is from the other one, in x
pub on-x : (p q : Pt) (m : Place) → IsOn p q m
    → dot (minus q p) (minus q p) *ℤ m.x ≡ past p q m *ℤ q.x +ℤ past q p m *ℤ p.x
on-x p q m h = let e = past-x p q m in let z = zero-mul (height (through p q) m) (q.y -ℤ p.y) h.on in
    omega (arith, linear)

-- and in y
pub on-y : (p q : Pt) (m : Place) → IsOn p q m
    → dot (minus q p) (minus q p) *ℤ m.y ≡ past p q m *ℤ q.y +ℤ past q p m *ℤ p.y
on-y p q m h = let e = past-y p q m in let z = zero-mul (height (through p q) m) (q.x -ℤ p.x) h.on in
    omega (arith, linear)

-- a square is not negative
pub dot_nonneg : (u : Pt) → pos 0 ≤ℤ dot u u
dot_nonneg u = let x = square_nonneg u.x in let y = square_nonneg u.y in omega (arith, linear)

times_zero : (a b : ℤ) → b ≡ pos 0 → a *ℤ b ≡ pos 0
times_zero a b h = ap (λ z. a *ℤ z) h ∙ *ℤ-zero a

cross-nothing : (u b : Pt) → b.x ≡ pos 0 → b.y ≡ pos 0 → cross u b ≡ pos 0
cross-nothing u b h k = let x = times_zero u.x b.y k in let y = times_zero u.y b.x h in omega (arith, linear)

dot-nothing : (u b : Pt) → b.x ≡ pos 0 → b.y ≡ pos 0 → dot u b ≡ pos 0
dot-nothing u b h k = let x = times_zero u.x b.x h in let y = times_zero u.y b.y k in omega (arith, linear)

-- a direction with something on its left isn't 0
pub long_from_left : (u o : Pt) → pos 0 <ℤ cross u o → pos 0 <ℤ dot u u
long_from_left u o h = by_sign u.x
    (λ l. length_positive u (inl (λ e. absurd (omega (arith, linear)))))
    (λ x. length_positive u (inr (λ y. let a = zero-mul u.x o.y x in let b = zero-mul u.y o.x y in omega (arith, linear))))
    (λ l. length_positive u (inl (λ e. absurd (omega (arith, linear)))))

-- the place is p, where it is neither along nor across some direction from p
pub on_start : (u p q : Pt) (m : Place) → pos 0 <ℤ m.w → pos 0 <ℤ dot u u → cross u (off m p) ≡ pos 0
    → dot u (off m p) ≡ pos 0 → IsOn p q m
on_start u p q m w long across along =
    let z = nothing u (off m p) long across along in
    let h = height-off p q m ∙ cross-nothing (minus q p) (off m p) z.0 z.1 in
    let a : past p q m ≡ pos 0 = dot-nothing (minus q p) (off m p) z.0 z.1 in
    let s = past-sum p q m in
    let d = nonneg-mul (dot (minus q p) (minus q p)) m.w (dot_nonneg (minus q p)) (omega (arith, linear)) in
    record { on = h; after = omega (arith, linear); before = omega (arith, linear) }

-- the place is between p and q, where some direction leads from p to it, and back from q
pub on_between : (u p q : Pt) (m : Place) → pos 0 <ℤ m.w → pos 0 <ℤ dot u u → cross u (off m p) ≡ pos 0
    → cross u (off m q) ≡ pos 0 → pos 0 <ℤ dot u (off m p) → dot u (off m q) <ℤ pos 0 → IsOn p q m
on_between u p q m w long fp fq ahead back =
    let z = parallel-both u (off m p) (off m q) long fp fq in
    let d = parallel-dot u (off m p) (off m q) fp in
    let n = pos-mul_neg (dot u (off m p)) (dot u (off m q)) ahead back in
    let o = neg_from_mul (dot u u) (dot (off m p) (off m q)) long (omega (arith, linear)) in
    let f = dot-flip (off m p) (off m q) in
    let pp = dot_nonneg (off m p) in
    let qq = dot_nonneg (off m q) in
    let c = offs-cross p q m in
    let a = offs-dot p q m in
    let b = offs-dot q p m in
    record {
      on = zero_from_mul m.w (height (through p q) m) w (omega (arith, linear));
      after = nonneg_from_mul m.w (past p q m) w (omega (arith, linear));
      before = nonneg_from_mul m.w (past q p m) w (omega (arith, linear));
    }

-- ---- b is what leads along u to the place, and h an edge that has neither b nor what is left of u on its right

-- going forward, the edge keeps to the line
pub keeps_on : (u b h : Pt) → pos 0 <ℤ dot u u → cross u b ≡ pos 0 → pos 0 <ℤ dot u b → pos 0 ≤ℤ cross u h
    → pos 0 ≤ℤ cross h b → cross u h ≡ pos 0
keeps_on u b h long par ahead left inner =
    let e = parallel-cross u b h par in
    let f = cross-flip u h in
    let p = nonneg-mul (dot u u) (cross h b) (omega (arith, linear)) inner in
    let g = nonneg_from_mul (dot u b) (cross h u) ahead (omega (arith, linear)) in
    omega (arith, linear)

-- going backward, too
pub keeps_on_back : (u b h : Pt) → pos 0 <ℤ dot u u → cross u b ≡ pos 0 → dot u b <ℤ pos 0 → cross u h ≤ℤ pos 0
    → pos 0 ≤ℤ cross h b → cross u h ≡ pos 0
keeps_on_back u b h long par back right inner =
    let e = parallel-cross u b h par in
    let f = cross-flip u h in
    let p = nonneg-mul (dot u u) (cross h b) (omega (arith, linear)) inner in
    by_sign (cross h u)
    (λ l. absurd (omega (arith, linear)))
    (λ z. omega (arith, linear))
    (λ l. let n = neg-mul_pos (dot u b) (cross h u) back l in absurd (omega (arith, linear)))

-- an edge on the line has its direction: what is left of the line isn't right of the edge
pub same_direction : (u h o : Pt) → pos 0 <ℤ dot u u → pos 0 <ℤ dot h h → cross u h ≡ pos 0 → pos 0 <ℤ cross u o
    → pos 0 ≤ℤ cross h o → pos 0 <ℤ dot u h
same_direction u h o long far par left inner =
    let e = parallel-cross u h o par in
    let f = cross-flip h o in
    let g = cross-flip u o in
    let p = nonneg-mul (dot u u) (cross h o) (omega (arith, linear)) inner in
    let a : dot u u *ℤ cross o h ≡ neg_ℤ (dot u u *ℤ cross h o) = ap (λ z. dot u u *ℤ z) f ∙ opposite (dot u u) (cross h o) in
    let b : dot u h *ℤ cross o u ≡ neg_ℤ (dot u h *ℤ cross u o) = ap (λ z. dot u h *ℤ z) g ∙ opposite (dot u h) (cross u o) in
    let not = parallel-product u h long far par in
    by_sign (dot u h)
    (λ l. let n = neg-mul_pos (dot u h) (cross u o) l left in absurd (omega (arith, linear)))
    (λ z. absurd (not z))
    (λ l. l)
  where
    opposite : (a b : ℤ) → a *ℤ neg_ℤ b ≡ neg_ℤ (a *ℤ b)
    opposite a b = *ℤ_comm a (neg_ℤ b) ∙ neg-*ℤ b a ∙ ap neg_ℤ (*ℤ_comm b a)

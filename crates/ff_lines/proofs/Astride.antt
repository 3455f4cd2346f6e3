-- Where two ways meet, from the sides on which their ends lie.
use Rattle.std.proofs.Common.{◌≡◌, ◌≢◌, arith, refl, ℤ, pos, ◌+ℤ◌, ◌-ℤ◌, ◌*ℤ◌, ◌<ℤ◌, ◌≤ℤ◌, []}
use lib.IntN.{*ℤ_comm}
use Rattle.ff_whole.proofs.Signs.{linear, by_sign, pos-mul, nonneg-mul, pos-mul_neg, neg-mul_pos, neg-mul_neg, zero-mul, pos_from_mul}
use Rattle.ff_whole.proofs.Ring.{◌⊖◌, solve}
use Rattle.ff_whole.proofs.Formulas.{point_e, point_env, line_e, line_env, place_of_e, through_e, height_e, slant_e}
use Rattle.ff_whole.proofs.Offsets.{height-ends, past-sum}
use Rattle.ff_whole.specs.Points.{minus, dot}
use Rattle.ff_whole.specs.Places.{IsPlace, height, past, place_of, slant, through}
use Rattle.ff_whole.specs.declared.lines.Line.{Line}
use Rattle.ff_whole.specs.declared.points.Pt.{Pt}
use Rattle.ff_whole.specs.declared.places.Place.{Place}
use Rattle.ff_lines.specs.Lines.{LiesOn}

-- the slant to another line is the fall of that line's height
pub slant-fall : (l : Line) (p q : Pt) → slant (through p q) l ≡ height l (place_of p) -ℤ height l (place_of q)
slant-fall l p q = let l' = line_e 0 in let p' = point_e 3 in let q' = point_e 5 in
    solve (line_env l (point_env p (point_env q []))) (slant_e (through_e p' q') l') (height_e l' (place_of_e p') ⊖ height_e l' (place_of_e q')) refl

module _ (l : Line) (p q : Pt) (long : pos 0 <ℤ dot (minus q p) (minus q p)) (s : Place) (w : IsPlace s) where
  wide : pos 0 <ℤ (past p q s +ℤ past q p s)
  wide = let e = past-sum p q s in let m = pos-mul (dot (minus q p) (minus q p)) s.w long w in omega (arith, linear)

  -- on the line through p and q the heights of both ends, weighed, are the place's
  weighed : height (through p q) s ≡ pos 0
      → past p q s *ℤ height l (place_of q) +ℤ past q p s *ℤ height l (place_of p) ≡ dot (minus q p) (minus q p) *ℤ height l s
  weighed on =
      let e = height-ends l p q s in
      let k = l.b *ℤ (q.x -ℤ p.x) -ℤ l.a *ℤ (q.y -ℤ p.y) in
      let c = *ℤ_comm k (height (through p q) s) in
      let z = zero-mul (height (through p q) s) k on in omega (arith, linear)

  -- with both ends strictly left, each place between them is
  pub left_between : LiesOn p q s → pos 0 <ℤ height l (place_of p) → pos 0 <ℤ height l (place_of q) → pos 0 <ℤ height l s
  left_between on hp hq =
      let e = weighed on.on in let d = wide in let a = on.after in let b = on.before in
      pos_from_mul (dot (minus q p) (minus q p)) (height l s) long (by_sign (past p q s)
      (λ n. absurd (omega (arith, linear)))
      (λ z. let x = zero-mul (past p q s) (height l (place_of q)) z in let y = pos-mul (past q p s) (height l (place_of p)) (omega (arith, linear)) hp in omega (arith, linear))
      (λ n. let x = pos-mul (past p q s) (height l (place_of q)) n hq in let y = nonneg-mul (past q p s) (height l (place_of p)) b (omega (arith, linear)) in omega (arith, linear)))

  -- a place of both lines, where neither both ends are strictly left nor both strictly right: the place is between them
  module _ (apart : slant (through p q) l ≢ pos 0) (on : height (through p q) s ≡ pos 0) (there : height l s ≡ pos 0)
      (not_left : (pos 0 <ℤ height l (place_of p)) × (pos 0 <ℤ height l (place_of q)) → ⊥)
      (not_right : (height l (place_of p) <ℤ pos 0) × (height l (place_of q) <ℤ pos 0) → ⊥) where
    -- both weights and both heights
    balanced : (a b x y : ℤ) → a *ℤ y +ℤ b *ℤ x ≡ pos 0 → pos 0 <ℤ (a +ℤ b)
        → ((pos 0 <ℤ x) × (pos 0 <ℤ y) → ⊥) → ((x <ℤ pos 0) × (y <ℤ pos 0) → ⊥) → ((x ≡ pos 0) × (y ≡ pos 0) → ⊥) → pos 0 ≤ℤ a
    balanced a b x y e wide left right both = by_sign a
        (λ n. let up : pos 0 <ℤ b = omega (arith, linear) in by_sign x
        (λ m. by_sign y (λ k. absurd (right (m, k)))
        (λ k. absurd (let f = pos-mul_neg b x up m in let c = *ℤ_comm a y in let g = zero-mul y a k in omega (arith, linear)))
        (λ k. absurd (let f = pos-mul_neg b x up m in let g = neg-mul_pos a y n k in omega (arith, linear))))
        (λ m. by_sign y
        (λ k. absurd (let c = *ℤ_comm b x in let f = zero-mul x b m in let g = neg-mul_neg a y n k in omega (arith, linear)))
        (λ k. absurd (both (m, k)))
        (λ k. absurd (let c = *ℤ_comm b x in let f = zero-mul x b m in let g = neg-mul_pos a y n k in omega (arith, linear))))
        (λ m. by_sign y
        (λ k. absurd (let f = pos-mul b x up m in let g = neg-mul_neg a y n k in omega (arith, linear)))
        (λ k. absurd (let f = pos-mul b x up m in let c = *ℤ_comm a y in let g = zero-mul y a k in omega (arith, linear)))
        (λ k. absurd (left (m, k)))))
        (λ z. omega (arith, linear))
        (λ n. omega (arith, linear))

    sum : past p q s *ℤ height l (place_of q) +ℤ past q p s *ℤ height l (place_of p) ≡ pos 0
    sum = let e = weighed on in let d = dot (minus q p) (minus q p) in let c = *ℤ_comm d (height l s) in let z = zero-mul (height l s) d there in omega (arith, linear)

    not_both : (height l (place_of p) ≡ pos 0) × (height l (place_of q) ≡ pos 0) → ⊥
    not_both h = apart (let e = slant-fall l p q in let x = h.0 in let y = h.1 in omega (arith, linear))

    pub between : LiesOn p q s
    between = record {
      on = on;
      after = balanced (past p q s) (past q p s) (height l (place_of p)) (height l (place_of q)) sum wide not_left not_right not_both;
      before = balanced (past q p s) (past p q s) (height l (place_of q)) (height l (place_of p))
          (let e = sum in omega (arith, linear)) (let e = wide in omega (arith, linear))
          (λ h. not_left (h.1, h.0)) (λ h. not_right (h.1, h.0)) (λ h. not_both (h.1, h.0));
    }

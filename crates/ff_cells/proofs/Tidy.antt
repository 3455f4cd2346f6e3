-- In bars that stand in order no lower bar of a face comes after an upper one, so a face is open where its
-- last bar is a lower one.
use Rattle.std.proofs.Common.{ℕ, ◌≡◌, ◌⊎◌, inl, inr, ◌<◌, ◌≤◌, List, [], length, get_or, arith, refl, sym, ap, subst, ◌∙◌, pos, ◌*ℤ◌, ◌<ℤ◌, ◌≤ℤ◌, true, false, true≢false, if◌then◌else◌}
use lib.IntN.{*ℤ-zero}
use Rattle.std.proofs.lemmas.Int.{ints}
use Rattle.std.proofs.lemmas.List.{get_or_default}
use Rattle.ff_whole.proofs.Signs.{linear, pos-mul, nonneg-mul_nonpos, pos_from_mul, zero_from_mul}
use Rattle.ff_whole.specs.Places.{height, through as line_through}
use Rattle.ff_whole.specs.declared.lines.Line.{Line}
use Rattle.ff_whole.specs.declared.points.Pt.{Pt}
use Rattle.ff_whole.specs.declared.places.Place.{Place}
use Rattle.ff_whole.proofs.Ring.{var, num, ◌⊕◌, ◌⊖◌, ◌⊗◌, solve}
use Rattle.ff_whole.proofs.Formulas.{point_env}
use Rattle.ff_cells.specs.declared.bars.Bar.{Bar}
use Rattle.ff_cells.specs.Gap.{run, gap, spot, opposite}
use Rattle.ff_cells.specs.Sheet.{Spans, IsSlab, IsUnder, AreFaceBars, IsOpen}
use Rattle.ff_cells.specs.Next.{IsAmong, IsOpenAfter}
use Rattle.ff_cells.proofs.Gaps.{gap-height, gap-inside, gap-run, gap-opposite}
use Rattle.ff_cells.proofs.Cuts.{height-opposite, run-trans_first, run-trans_last}
use Rattle.ff_cells.proofs.Corners.{run-trans}

on_lo : (p q : Pt) → height (line_through p q) (spot p) ≡ pos 0
on_lo p q = solve (point_env p (point_env q [])) ((var 1 ⊖ var 3) ⊗ var 0 ⊕ (var 2 ⊖ var 0) ⊗ var 1 ⊖
    ((var 1 ⊖ var 3) ⊗ var 0 ⊕ (var 2 ⊖ var 0) ⊗ var 1) ⊗ num (pos 1)) (num (pos 0)) refl

on_hi : (p q : Pt) → height (line_through p q) (spot q) ≡ pos 0
on_hi p q = solve (point_env p (point_env q [])) ((var 1 ⊖ var 3) ⊗ var 2 ⊕ (var 2 ⊖ var 0) ⊗ var 3 ⊖
    ((var 1 ⊖ var 3) ⊗ var 0 ⊕ (var 2 ⊖ var 0) ⊗ var 1) ⊗ num (pos 1)) (num (pos 0)) refl

-- at a place on w that is not over u, w is no higher than u
no_higher : (u w : Line) (p : Place) → pos 0 <ℤ w.b → height w p ≡ pos 0 → height u p ≤ℤ pos 0
    → gap u w p ≤ℤ pos 0
no_higher u w p hw on under =
    let e = gap-height u w p in
    let z : u.b *ℤ height w p ≡ pos 0 = ap (λ t. u.b *ℤ t) on ∙ *ℤ-zero u.b in
    let m = nonneg-mul_nonpos w.b (height u p) (omega (arith, linear)) under in
    omega (arith, linear)

-- a gap of 0 at both borders is 0 everywhere
flat_gap : (k l : Line) (left right p : Place) → pos 0 <ℤ run left right → gap k l left ≡ pos 0
    → gap k l right ≡ pos 0 → gap k l p ≡ pos 0
flat_gap k l left right p wide f g =
    let e = gap-run k l left right p in
    let u : run p right *ℤ gap k l left ≡ pos 0 = ap (λ t. run p right *ℤ t) f ∙ *ℤ-zero (run p right) in
    let v : run left p *ℤ gap k l right ≡ pos 0 = ap (λ t. run left p *ℤ t) g ∙ *ℤ-zero (run left p) in
    zero_from_mul (run left right) (gap k l p) wide (omega (arith, linear))

module _ {Has : Bar → Type 0} {Step : ℕ → Line → Type 0} {left right : Place} (sheet : AreFaceBars Has Step)
    (slab : IsSlab Has left right) where
  -- a lower bar is not over an upper one of its face
  pub not_over_upper : (u w : Bar) → Has u → Has w → Spans left right w → u.lower ≡ false → w.lower ≡ true
      → u.face ≡ w.face → IsUnder left right u.line w.line → ⊥
  not_over_upper u w hu hw sw upper lower same below = solid (sheet.solid w.face w.line w_step)
    where
      w_step : Step w.face w.line
      w_step = subst (λ k. Step w.face k) (ap (λ t. if t then w.line else opposite w.line) lower)
          (sheet.step w hw)

      u_step : Step w.face (opposite u.line)
      u_step = subst (λ n. Step n (opposite u.line)) same (subst (λ k. Step u.face k)
          (ap (λ t. if t then u.line else opposite u.line) upper) (sheet.step u hu))

      at_lo : gap u.line w.line (spot w.lo) ≤ℤ pos 0
      at_lo =
          let c = (sheet.convex w (opposite u.line) hw u_step).0 in
          let f = height-opposite u.line (spot w.lo) in
          no_higher u.line w.line (spot w.lo) w.ok.rising.rises (ap (λ k. height k (spot w.lo)) w.ok.through
          ∙ on_lo w.lo w.hi) (omega (arith, linear))

      at_hi : gap u.line w.line (spot w.hi) ≤ℤ pos 0
      at_hi =
          let c = (sheet.convex w (opposite u.line) hw u_step).1 in
          let f = height-opposite u.line (spot w.hi) in
          no_higher u.line w.line (spot w.hi) w.ok.rising.rises (ap (λ k. height k (spot w.hi)) w.ok.through
          ∙ on_hi w.lo w.hi) (omega (arith, linear))

      one_positive : pos 0 <ℤ pos 1
      one_positive = omega (arith, ints)

      wider : pos 0 <ℤ run (spot w.lo) (spot w.hi)
      wider =
          let r : pos 0 ≤ℤ run left right = (let wd = slab.wide in omega (arith, linear)) in
          let a = run-trans_last (spot w.lo) left right one_positive slab.left_positive slab.right_positive
          sw.after slab.wide in
          run-trans_first (spot w.lo) right (spot w.hi) one_positive slab.right_positive one_positive a
          sw.before

      -- gaps the other way round, which are not below 0 at the ends of w
      back_lo : pos 0 ≤ℤ gap w.line u.line (spot w.lo)
      back_lo = let e = gap-opposite u.line w.line (spot w.lo) in let a = at_lo in omega (arith, linear)

      back_hi : pos 0 ≤ℤ gap w.line u.line (spot w.hi)
      back_hi = let e = gap-opposite u.line w.line (spot w.hi) in let a = at_hi in omega (arith, linear)

      zero_left : gap u.line w.line left ≡ pos 0
      zero_left =
          let t = run-trans left right (spot w.hi) slab.left_positive slab.right_positive one_positive
          (let wd = slab.wide in omega (arith, linear)) sw.before in
          let g = gap-inside w.line u.line (spot w.lo) (spot w.hi) left wider sw.after t back_lo back_hi in
          let e = gap-opposite u.line w.line left in let b = below.at_left in
          omega (arith, linear)

      zero_right : gap u.line w.line right ≡ pos 0
      zero_right =
          let t = run-trans (spot w.lo) left right one_positive slab.left_positive slab.right_positive
          sw.after (let wd = slab.wide in omega (arith, linear)) in
          let g = gap-inside w.line u.line (spot w.lo) (spot w.hi) right wider t sw.before back_lo back_hi in
          let e = gap-opposite u.line w.line right in let b = below.at_right in
          omega (arith, linear)

      clash : (z : Place) → pos 0 <ℤ height w.line z → pos 0 ≤ℤ height (opposite u.line) z → ⊥
      clash z a b =
          let e = gap-height u.line w.line z in
          let g = flat_gap u.line w.line left right z slab.wide zero_left zero_right in
          let m = pos-mul u.line.b (height w.line z) u.ok.rising.rises a in
          let p = pos_from_mul w.line.b (height u.line z) w.ok.rising.rises (omega (arith, linear)) in
          let f = height-opposite u.line z in
          omega (arith, linear)

      solid : (z : Place) × (pos 0 <ℤ height w.line z) × ((g : Line) → Step w.face g → pos 0 ≤ℤ height g z)
          → ⊥
      solid (z, a, c) = clash z a (c (opposite u.line) u_step)

  module _ {v : List Bar} (has : (k : ℕ) (d : Bar) → k < length v → Has (get_or v k d))
      (spans : (k : ℕ) (d : Bar) → k < length v → Spans left right (get_or v k d))
      (below : (i j : ℕ) (d : Bar) → i ≤ j → j < length v → IsUnder left right (get_or v i d).line
      (get_or v j d).line) where
    -- the faces that the last bar left open are those with a lower bar and no upper one
    pub open_of_after : (n f : ℕ) → IsOpenAfter v n f → IsOpen (IsAmong v n) f
    open_of_after n f o = record {
      by = o.by;
      by_low = (o.at, o.within, o.first, o.by_is);
      by_lower = o.by_lower;
      by_face = o.by_face;
      none = none;
    }
      where
        order : (i j : ℕ) → (i < j) ⊎ ((i ≡ j) ⊎ (j < i))
        order i j = grind arith

        none : (u : Bar) → IsAmong v n u → u.lower ≡ false → u.face ≡ f → ⊥
        none u (k, lt, a, e) upper face = by_cases (order o.at k)
          where
            by_cases : (o.at < k) ⊎ ((o.at ≡ k) ⊎ (k < o.at)) → ⊥
            by_cases (inl h) = o.none k u h a lt (ap (λ (b : Bar). b.face) e ∙ face)
                (ap (λ (b : Bar). b.lower) e ∙ upper)
            by_cases (inr (inl h)) =
                let same : o.by ≡ u = sym o.by_is ∙ ap (λ i. get_or v i o.by) h ∙ get_or_default v k o.by u lt
                ∙ e in
                true≢false (sym o.by_lower ∙ ap (λ (b : Bar). b.lower) same ∙ upper)
            by_cases (inr (inr h)) =
                let at_by : get_or v o.at u ≡ o.by = get_or_default v o.at u o.by o.within ∙ o.by_is in
                not_over_upper u o.by (subst Has e (has k u lt)) (subst Has o.by_is (has o.at o.by o.within))
                (subst (Spans left right) o.by_is (spans o.at o.by o.within)) upper o.by_lower
                (face ∙ sym o.by_face)
                (subst (λ (b : Bar). IsUnder left right u.line b.line) at_by
                (subst (λ (b : Bar). IsUnder left right b.line (get_or v o.at u).line) e
                (below k o.at u (omega arith) o.within)))

    pub after_of_open : (n f : ℕ) → IsOpen (IsAmong v n) f → IsOpenAfter v n f
    after_of_open n f o = record {
      at = o.by_low.0;
      by = o.by;
      within = o.by_low.1;
      first = o.by_low.2;
      by_is = o.by_low.3;
      by_lower = o.by_lower;
      by_face = o.by_face;
      none = λ k d a b lt face upper. o.none (get_or v k d) (k, lt, b, get_or_default v k (get_or v k d) d lt)
          upper face;
    }

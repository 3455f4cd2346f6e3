-- What the order of lines just right of a place says of the gaps between them.
use Rattle.std.proofs.Common.{◌≡◌, inl, inr, arith, refl, sym, ap, subst, ◌∙◌, pos, ◌*ℤ◌, ◌<ℤ◌, ◌≤ℤ◌, [], Ordering, false}
use Rattle.std.proofs.Common.Ordering.{Less, Equal, Greater}
use lib.IntN.{neg_ℤ, ◌-ℤ◌, *ℤ-zero, zero-*ℤ}
use Rattle.std.specs.Ordering.{is_lt, ordering_then, MatchOrdering}
use Rattle.std.specs.Cmp.{int_ranks}
use Rattle.ff_whole.proofs.Ring.{◌⊖◌, ◌⊗◌, opp, solve}
use Rattle.ff_whole.proofs.Signs.{linear, by_sign, pos-mul, nonneg-mul, neg-mul_neg, pos-mul_neg, neg_from_mul, nonneg_from_mul}
use Rattle.std.proofs.Common.{true≢false}
use Rattle.ff_whole.specs.Places.{height, slant}
use Rattle.ff_whole.specs.Meeting.{height_cmp, rise, IsCorner}
use Rattle.ff_cells.specs.Sheet.{IsSite}
use Rattle.ff_cells.proofs.Fractions.{height_as_rise}
use Rattle.ff_whole.specs.declared.lines.Line.{Line}
use Rattle.ff_whole.specs.declared.places.Place.{Place}
use Rattle.ff_whole.proofs.Formulas.{line_e, line_env, slant_e}
use Rattle.ff_cells.specs.Before.{rise_cmp}
use Rattle.ff_cells.specs.Gap.{run, gap}
use Rattle.ff_cells.specs.Start.{slope_cmp, starts_lower, StartsBelow, ClosesAt}
use Rattle.ff_cells.proofs.Gaps.{gap-slant, gap-on_both}
use Rattle.ff_whole.proofs.Bounds.{below-more}

-- what is not lower starts above
pub starts_below : (at : Place) (k l : Line) → starts_lower at l k ≡ false → StartsBelow at k l
starts_below at k l h = at_height (rise_cmp at l k) (int_ranks (rise l at *ℤ k.b) (rise k at *ℤ l.b)) h
  where
    slopes : neg_ℤ l.a *ℤ k.b -ℤ neg_ℤ k.a *ℤ l.b ≡ slant k l
    slopes =
        let k' = line_e 0 in let l' = line_e 3 in
        solve (line_env k (line_env l [])) (opp l'.a ⊗ k'.b ⊖ opp k'.a ⊗ l'.b) (slant_e k' l') refl

    at_slope : gap k l at ≡ pos 0 → (r : Ordering) → MatchOrdering r
        ((neg_ℤ l.a *ℤ k.b) <ℤ (neg_ℤ k.a *ℤ l.b)) (neg_ℤ l.a *ℤ k.b ≡ neg_ℤ k.a *ℤ l.b)
        ((neg_ℤ k.a *ℤ l.b) <ℤ (neg_ℤ l.a *ℤ k.b)) → is_lt r ≡ false → StartsBelow at k l
    at_slope z Less m h = absurd (true≢false h)
    at_slope z Equal m h = let e = slopes in inr (z, omega (arith, linear))
    at_slope z Greater m h = let e = slopes in inr (z, omega (arith, linear))

    at_height : (r : Ordering) → MatchOrdering r ((rise l at *ℤ k.b) <ℤ (rise k at *ℤ l.b))
        (rise l at *ℤ k.b ≡ rise k at *ℤ l.b) ((rise k at *ℤ l.b) <ℤ (rise l at *ℤ k.b))
        → is_lt (ordering_then r (slope_cmp l k)) ≡ false → StartsBelow at k l
    at_height Less m h = absurd (true≢false h)
    at_height Equal m h = at_slope (omega (arith, linear)) (slope_cmp l k)
        (int_ranks (neg_ℤ l.a *ℤ k.b) (neg_ℤ k.a *ℤ l.b)) h
    at_height Greater m h = inl (omega (arith, linear))

-- what `cmp_height` says of the gap
pub gap_of_greater : (k l : Line) (at : Place) → pos 0 <ℤ k.b → pos 0 <ℤ l.b → Greater ≡ height_cmp k l at
    → gap k l at <ℤ pos 0
gap_of_greater k l at hk hl h = greater Greater refl (subst (λ r. MatchOrdering r
    ((rise k at *ℤ l.b) <ℤ (rise l at *ℤ k.b)) (rise k at *ℤ l.b ≡ rise l at *ℤ k.b)
    ((rise l at *ℤ k.b) <ℤ (rise k at *ℤ l.b))) (sym (h ∙ height_as_rise k l at hk hl))
    (int_ranks (rise k at *ℤ l.b) (rise l at *ℤ k.b)))
  where
    greater : (r : Ordering) → r ≡ Greater → MatchOrdering Greater ((rise k at *ℤ l.b) <ℤ (rise l at *ℤ k.b))
        (rise k at *ℤ l.b ≡ rise l at *ℤ k.b) ((rise l at *ℤ k.b) <ℤ (rise k at *ℤ l.b)) → gap k l at <ℤ pos 0
    greater r e m = omega (arith, linear)

pub gap_not_greater : (k l : Line) (at : Place) (r : Ordering) → pos 0 <ℤ k.b → pos 0 <ℤ l.b
    → r ≡ height_cmp k l at → (r ≡ Greater → ⊥) → pos 0 ≤ℤ gap k l at
gap_not_greater k l at r hk hl h n = each r refl (subst (λ r. MatchOrdering r
    ((rise k at *ℤ l.b) <ℤ (rise l at *ℤ k.b)) (rise k at *ℤ l.b ≡ rise l at *ℤ k.b)
    ((rise l at *ℤ k.b) <ℤ (rise k at *ℤ l.b))) (sym (h ∙ height_as_rise k l at hk hl))
    (int_ranks (rise k at *ℤ l.b) (rise l at *ℤ k.b)))
  where
    each : (q : Ordering) → r ≡ q → MatchOrdering q ((rise k at *ℤ l.b) <ℤ (rise l at *ℤ k.b))
        (rise k at *ℤ l.b ≡ rise l at *ℤ k.b) ((rise l at *ℤ k.b) <ℤ (rise k at *ℤ l.b)) → pos 0 ≤ℤ gap k l at
    each Less e m = omega (arith, linear)
    each Equal e m = omega (arith, linear)
    each Greater e m = absurd (n e)

-- bars that are in order just right of a place and out of order later close up in between: where they meet
pub closes_at : (k l : Line) (left right m : Place) → pos 0 <ℤ k.b → pos 0 <ℤ left.w → pos 0 <ℤ right.w
    → pos 0 <ℤ m.w → pos 0 <ℤ run left right → StartsBelow left k l → gap k l right <ℤ pos 0
    → height k m ≡ pos 0 → height l m ≡ pos 0
    → ClosesAt left m k l × (pos 0 <ℤ run left m) × (pos 0 <ℤ run m right)
closes_at k l left right m hk hl hr hm wide start closed on_k on_l = from start
  where
    none : gap k l m ≡ pos 0
    none = gap-on_both k l m on_k on_l

    from : StartsBelow left k l → ClosesAt left m k l × (pos 0 <ℤ run left m) × (pos 0 <ℤ run m right)
    from (inr (z, s)) =
        let e = gap-slant k l left right in
        let u = nonneg-mul (run left right) (slant k l) (omega (arith, linear)) s in
        let v = pos-mul_neg left.w (gap k l right) hl closed in
        let t : right.w *ℤ gap k l left ≡ pos 0 = ap (λ q. right.w *ℤ q) z ∙ *ℤ-zero right.w in
        absurd (omega (arith, linear))
    from (inl o) = (
      record { apart = o; meets = none; closing = closing; on_k = on_k; on_l = on_l },
      after,
      before,
    )
      where
        closing : slant k l <ℤ pos 0
        closing =
            let e = gap-slant k l left right in
            let u = pos-mul right.w (gap k l left) hr o in
            let v = pos-mul_neg left.w (gap k l right) hl closed in
            neg_from_mul (run left right) (slant k l) wide (omega (arith, linear))

        after : pos 0 <ℤ run left m
        after =
            let e = gap-slant k l left m in
            let c = closing in
            let u = pos-mul m.w (gap k l left) hm o in
            let v : left.w *ℤ gap k l m ≡ pos 0 = ap (λ q. left.w *ℤ q) none ∙ *ℤ-zero left.w in
            by_sign (run left m)
            (λ n. let t = neg-mul_neg (run left m) (slant k l) n c in absurd (omega (arith, linear)))
            (λ z. let t : run left m *ℤ slant k l ≡ pos 0 = ap (λ q. q *ℤ slant k l) z
            ∙ zero-*ℤ (slant k l) in absurd (omega (arith, linear)))
            (λ p. p)

        before : pos 0 <ℤ run m right
        before =
            let e = gap-slant k l m right in
            let c = closing in
            let u = pos-mul_neg m.w (gap k l right) hm closed in
            let v : right.w *ℤ gap k l m ≡ pos 0 = ap (λ q. right.w *ℤ q) none ∙ *ℤ-zero right.w in
            by_sign (run m right)
            (λ n. let t = neg-mul_neg (run m right) (slant k l) n c in absurd (omega (arith, linear)))
            (λ z. let t : run m right *ℤ slant k l ≡ pos 0 = ap (λ q. q *ℤ slant k l) z
            ∙ zero-*ℤ (slant k l) in absurd (omega (arith, linear)))
            (λ p. p)

-- what starts in order has no gap below 0 at the place
pub gap_of_start : (at : Place) (k l : Line) → StartsBelow at k l → pos 0 ≤ℤ gap k l at
gap_of_start at k l (inl o) = omega (arith, linear)
gap_of_start at k l (inr (z, s)) = omega (arith, linear)

-- parallel lines stay in order
pub gap_of_parallel : (k l : Line) (left right : Place) → pos 0 <ℤ left.w → pos 0 <ℤ right.w
    → pos 0 ≤ℤ gap k l left → slant k l ≡ pos 0 → pos 0 ≤ℤ gap k l right
gap_of_parallel k l left right hl hr g z =
    let e = gap-slant k l left right in
    let t : run left right *ℤ slant k l ≡ pos 0 = ap (λ q. run left right *ℤ q) z
    ∙ *ℤ-zero (run left right) in
    let u = nonneg-mul right.w (gap k l left) (omega (arith, linear)) g in
    nonneg_from_mul left.w (gap k l right) hl (omega (arith, linear))

rises_of : (k l : Line) (at : Place) (r : Ordering) → pos 0 <ℤ k.b → pos 0 <ℤ l.b → r ≡ height_cmp k l at
    → MatchOrdering r ((rise k at *ℤ l.b) <ℤ (rise l at *ℤ k.b)) (rise k at *ℤ l.b ≡ rise l at *ℤ k.b)
    ((rise l at *ℤ k.b) <ℤ (rise k at *ℤ l.b))
rises_of k l at r hk hl h = subst (λ r. MatchOrdering r ((rise k at *ℤ l.b) <ℤ (rise l at *ℤ k.b))
    (rise k at *ℤ l.b ≡ rise l at *ℤ k.b) ((rise l at *ℤ k.b) <ℤ (rise k at *ℤ l.b)))
    (sym (h ∙ height_as_rise k l at hk hl)) (int_ranks (rise k at *ℤ l.b) (rise l at *ℤ k.b))

pub gap_of_equal : (k l : Line) (at : Place) → pos 0 <ℤ k.b → pos 0 <ℤ l.b → Equal ≡ height_cmp k l at
    → gap k l at ≡ pos 0
gap_of_equal k l at hk hl h = let e = rises_of k l at Equal hk hl h in omega (arith, linear)

pub gap_not_equal : (k l : Line) (at : Place) (r : Ordering) → pos 0 <ℤ k.b → pos 0 <ℤ l.b
    → r ≡ height_cmp k l at → (r ≡ Equal → ⊥) → pos 0 ≤ℤ gap k l at → pos 0 <ℤ gap k l at
gap_not_equal k l at r hk hl h n g = each r refl (rises_of k l at r hk hl h)
  where
    each : (q : Ordering) → r ≡ q → MatchOrdering q ((rise k at *ℤ l.b) <ℤ (rise l at *ℤ k.b))
        (rise k at *ℤ l.b ≡ rise l at *ℤ k.b) ((rise l at *ℤ k.b) <ℤ (rise k at *ℤ l.b)) → pos 0 <ℤ gap k l at
    each Less e m = omega (arith, linear)
    each Equal e m = absurd (n e)
    each Greater e m = absurd (omega (arith, linear))

pub site_of : (l : Line) (at p : Place) → IsCorner l at p → IsSite l at p
site_of l at p c = record {
  positive = c.positive;
  small = record {
    x_below = below-more c.x_below tt;
    y_below = below-more c.y_below tt;
    w_below = below-more c.w_below tt;
    positive = c.positive;
  };
  on = c.on_line;
  same = (let s = c.same_x in omega (arith, linear));
}

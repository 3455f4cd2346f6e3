-- The corners of a gap witness the faces over it, and their middle is a place of it.
use Rattle.std.proofs.Common.{ℕ, ◌≡◌, ◌≢◌, ◌⊎◌, inl, inr, arith, refl, sym, ap, subst, ◌∙◌, pos, ◌+ℤ◌, ◌*ℤ◌, ◌<ℤ◌, ◌≤ℤ◌, [], ◌∷◌, false}
use lib.IntN.{◌-ℤ◌, *ℤ-zero, *ℤ_comm}
use Rattle.std.proofs.lemmas.Int.{ints}
use Rattle.ff_whole.proofs.Ring.{num, ◌⊕◌, ◌⊖◌, ◌⊗◌, opp, solve, solve_from}
use Rattle.ff_whole.proofs.Signs.{linear, by_sign, pos-mul, nonneg-mul, pos_from_mul, neg_from_mul, nonneg_from_mul, zero_from_mul}
use Rattle.ff_whole.specs.Places.{height, slant}
use Rattle.ff_whole.specs.declared.lines.Line.{Line}
use Rattle.ff_whole.specs.declared.places.Place.{Place}
use Rattle.ff_whole.proofs.SharedPlaces.{one_place}
use Rattle.ff_whole.proofs.Formulas.{line_e, place_e, line_env, place_env, height_e, slant_e}
use Rattle.ff_cells.specs.declared.bars.Bar.{Bar}
use Rattle.ff_cells.specs.Gap.{run, spot, gap}
use Rattle.ff_cells.specs.Sheet.{IsOver, Spans, AreFaceBars, IsSlab, IsUnder, IsCut, IsOpen, IsGapOf, IsSite, IsCorners, IsWitness, total}
use Rattle.ff_cells.proofs.Gaps.{gap-height, gap-inside, gap-same_x, over_lower, under_upper, not_under_lower, not_over_upper, run_e}
use Rattle.ff_cells.proofs.Between.{Spanned, between_closed}
use Rattle.ff_cells.proofs.Cuts.{off_answers_at, over_of_spans, spans_of_over, run-sum, run-opposite, run-trans_first, run-trans_last}

pub run-trans : (p q r : Place) → pos 0 <ℤ p.w → pos 0 <ℤ q.w → pos 0 <ℤ r.w → pos 0 ≤ℤ run p q
    → pos 0 ≤ℤ run q r → pos 0 ≤ℤ run p r
run-trans p q r hp hq hr f g =
    let e = run-sum p q r in
    let u = nonneg-mul r.w (run p q) (omega (arith, linear)) f in
    let v = nonneg-mul p.w (run q r) (omega (arith, linear)) g in
    nonneg_from_mul q.w (run p r) hq (omega (arith, linear))

-- the gap at a place of the same x
gap_at : (k l : Line) (at p : Place) → pos 0 <ℤ at.w → pos 0 <ℤ p.w → run at p ≡ pos 0 → pos 0 ≤ℤ gap k l at
    → pos 0 ≤ℤ gap k l p
gap_at k l at p ha hp s g =
    let e = gap-same_x k l at p s in
    let u = nonneg-mul p.w (gap k l at) (omega (arith, linear)) g in
    nonneg_from_mul at.w (gap k l p) ha (omega (arith, linear))

open_at : (k l : Line) (at p : Place) → pos 0 <ℤ at.w → pos 0 <ℤ p.w → run at p ≡ pos 0 → pos 0 <ℤ gap k l at
    → pos 0 <ℤ gap k l p
open_at k l at p ha hp s g =
    let e = gap-same_x k l at p s in
    let u = pos-mul p.w (gap k l at) hp g in
    pos_from_mul at.w (gap k l p) ha (omega (arith, linear))

-- a place on the lower line is under the upper one, and a place on the upper line over the lower one
under_at : (k l : Line) (p : Place) → pos 0 <ℤ k.b → height k p ≡ pos 0 → pos 0 <ℤ gap k l p
    → height l p <ℤ pos 0
under_at k l p hk on g =
    let e = gap-height k l p in
    let z : l.b *ℤ height k p ≡ pos 0 = ap (λ t. l.b *ℤ t) on ∙ *ℤ-zero l.b in
    neg_from_mul k.b (height l p) hk (omega (arith, linear))

over_at : (k l : Line) (p : Place) → pos 0 <ℤ l.b → height l p ≡ pos 0 → pos 0 <ℤ gap k l p
    → pos 0 <ℤ height k p
over_at k l p hl on g =
    let e = gap-height k l p in
    let z : k.b *ℤ height l p ≡ pos 0 = ap (λ t. k.b *ℤ t) on ∙ *ℤ-zero k.b in
    pos_from_mul l.b (height k p) hl (omega (arith, linear))

-- NOT-LINE: no line holds two places of k of different x, and a place over k
pub not_on_line : (k f : Line) (a b c : Place) → pos 0 <ℤ k.b → pos 0 <ℤ a.w → pos 0 <ℤ run a b
    → height k a ≡ pos 0 → height k b ≡ pos 0 → pos 0 <ℤ height k c → (f.a ≢ pos 0) ⊎ (f.b ≢ pos 0)
    → height f a ≡ pos 0 → height f b ≡ pos 0 → height f c ≡ pos 0 → ⊥
not_on_line k f a b c hk ha wide ka kb kc way fa fb fc = along
    (by_sign (slant k f) (λ n. crossing (λ z. omega (arith, linear))) (λ z. z)
    (λ n. crossing (λ z. omega (arith, linear))))
  where
    crossing : slant k f ≢ pos 0 → slant k f ≡ pos 0
    crossing n = let s = (one_place k f a b n ka fa kb fb).0 in absurd (omega (arith, linear))

    along : slant k f ≡ pos 0 → ⊥
    along z =
        let k' = line_e 0 in let f' = line_e 3 in let a' = place_e 6 in let c' = place_e 9 in
        let e : a.w *ℤ (k.b *ℤ height f c -ℤ f.b *ℤ height k c) ≡ pos 0 =
        solve_from (line_env k (line_env f (place_env a (place_env c []))))
        (record { by = c'.w ⊗ k'.b; zero = height_e f' a' } ∷ record {
          by = opp (c'.w ⊗ f'.b);
          zero = height_e k' a';
        } ∷ record { by = opp (c'.x ⊗ a'.w ⊖ a'.x ⊗ c'.w); zero = slant_e k' f' } ∷
        [])
        (a'.w ⊗ (k'.b ⊗ height_e f' c' ⊖ f'.b ⊗ height_e k' c')) (num (pos 0)) refl (fa, (ka, (z, tt))) in
        let d = zero_from_mul a.w (k.b *ℤ height f c -ℤ f.b *ℤ height k c) ha e in
        let u : k.b *ℤ height f c ≡ pos 0 = ap (λ t. k.b *ℤ t) fc ∙ *ℤ-zero k.b in
        let v : height k c *ℤ f.b ≡ pos 0 = (let m = *ℤ_comm (height k c) f.b in omega (arith, linear)) in
        let flat : f.b ≡ pos 0 = zero_from_mul (height k c) f.b kc v in
        let g : k.a *ℤ f.b ≡ pos 0 = ap (λ t. k.a *ℤ t) flat ∙ *ℤ-zero k.a in
        let h : k.b *ℤ f.a ≡ pos 0 = (let m = *ℤ_comm k.b f.a in omega (arith, linear)) in
        let upright : f.a ≡ pos 0 = zero_from_mul k.b f.a hk h in
        elim way [ inl n ↦ n upright | inr n ↦ n flat ]

pub height-total : (l : Line) (a b c : Place) → height l (total a b c) ≡ height l a +ℤ height l b +ℤ height l
    c
height-total l a b c =
    let l' = line_e 0 in let a' = place_e 3 in let b' = place_e 6 in let c' = place_e 9 in
    solve (line_env l (place_env a (place_env b (place_env c []))))
    (l'.a ⊗ (a'.x ⊕ b'.x ⊕ c'.x) ⊕ l'.b ⊗ (a'.y ⊕ b'.y ⊕ c'.y) ⊖ l'.c ⊗ (a'.w ⊕ b'.w ⊕ c'.w))
    (height_e l' a' ⊕ height_e l' b' ⊕ height_e l' c') refl

run-total_right : (p a b c : Place) → run p (total a b c) ≡ run p a +ℤ run p b +ℤ run p c
run-total_right p a b c =
    let p' = place_e 0 in let a' = place_e 3 in let b' = place_e 6 in let c' = place_e 9 in
    solve (place_env p (place_env a (place_env b (place_env c []))))
    ((a'.x ⊕ b'.x ⊕ c'.x) ⊗ p'.w ⊖ p'.x ⊗ (a'.w ⊕ b'.w ⊕ c'.w)) (run_e p' a' ⊕ run_e p' b' ⊕ run_e p' c') refl

run-total_left : (p a b c : Place) → run (total a b c) p ≡ run a p +ℤ run b p +ℤ run c p
run-total_left p a b c =
    let p' = place_e 0 in let a' = place_e 3 in let b' = place_e 6 in let c' = place_e 9 in
    solve (place_env p (place_env a (place_env b (place_env c []))))
    (p'.x ⊗ (a'.w ⊕ b'.w ⊕ c'.w) ⊖ (a'.x ⊕ b'.x ⊕ c'.x) ⊗ p'.w) (run_e a' p' ⊕ run_e b' p' ⊕ run_e c' p') refl

module _ {Has Low High : Bar → Type 0} {left right : Place} {k l : Bar} (slab : IsSlab Has left right)
    (g : IsGapOf Has Low High left right k l) where
  -- a place of the slab over k and under l is over all of Low and under all of High
  pub cut_at : (p : Place) → pos 0 <ℤ p.w → pos 0 <ℤ run left p → pos 0 <ℤ run p right
      → pos 0 <ℤ height k.line p → height l.line p <ℤ pos 0 → IsCut Has Low High left right p
  cut_at p positive after before over under =
      let after' : pos 0 ≤ℤ run left p = omega (arith, linear) in
      let before' : pos 0 ≤ℤ run p right = omega (arith, linear) in
      record {
        positive = positive;
        after = after;
        before = before;
        each = g.each;
        low_has = g.low_has;
        high_has = g.high_has;
        low_spans = g.low_spans;
        high_spans = g.high_spans;
        low = λ b h. (let o = g.low b h in over_lower b.line k.line p b.ok.rising.rises k.ok.rising.rises
            (gap-inside b.line k.line left right p slab.wide after' before' o.at_left o.at_right) over);
        high = λ b h. (let o = g.high b h in under_upper l.line b.line p l.ok.rising.rises b.ok.rising.rises
            (gap-inside l.line b.line left right p slab.wide after' before' o.at_left o.at_right) under);
      }

  -- where a place is between the borders or on one, over k or on it, and under l or on it
  pub record IsNear (p : Place) : Type 0 where
    pub positive : pos 0 <ℤ p.w
    pub after : pos 0 ≤ℤ run left p
    pub before : pos 0 ≤ℤ run p right
    pub over : pos 0 ≤ℤ height k.line p
    pub under : height l.line p ≤ℤ pos 0

  module _ {a b c : Place} (at : IsCorners left right k.line l.line a b c) where
    pub away : pos 0 <ℤ run left b
    away = let s = at.second.same in run-trans_first left right b slab.left_positive slab.right_positive
        at.second.positive slab.wide (omega (arith, linear))

    pub near_a : IsNear a
    near_a =
        let s = at.first.same in
        let back = run-opposite left a in
        let gp = gap_at k.line l.line left a slab.left_positive at.first.positive s g.between.at_left in
        let on = at.first.on in
        record {
          positive = at.first.positive;
          after = omega (arith, linear);
          before = run-trans a left right at.first.positive slab.left_positive slab.right_positive
              (omega (arith, linear)) (let w = slab.wide in omega (arith, linear));
          over = omega (arith, linear);
          under = not_over_upper k.line l.line a k.ok.rising.rises l.ok.rising.rises gp
              (omega (arith, linear));
        }

    pub near_b : IsNear b
    near_b =
        let s = at.second.same in
        let back = run-opposite right b in
        let gp = gap_at k.line l.line right b slab.right_positive at.second.positive s g.between.at_right in
        let on = at.second.on in
        let w = away in
        record {
          positive = at.second.positive;
          after = omega (arith, linear);
          before = omega (arith, linear);
          over = omega (arith, linear);
          under = not_over_upper k.line l.line b k.ok.rising.rises l.ok.rising.rises gp
              (omega (arith, linear));
        }

    -- the third corner is over k
    pub record IsTop (p : Place) : Type 0 where
      pub near : IsNear p
      pub above : pos 0 <ℤ height k.line p

    pub top : IsTop c
    top = by_cases at.third
      where
        by_cases : (IsSite l.line left c × (pos 0 <ℤ gap k.line l.line left))
            ⊎ (IsSite l.line right c × (pos 0 <ℤ gap k.line l.line right)) → IsTop c
        by_cases (inl (s, o)) =
            let same = s.same in let on = s.on in let back = run-opposite left c in
            let gp = open_at k.line l.line left c slab.left_positive s.positive same o in
            let above = over_at k.line l.line c l.ok.rising.rises on gp in
            record {
              above = above;
              near = record {
                positive = s.positive;
                after = omega (arith, linear);
                before = run-trans c left right s.positive slab.left_positive slab.right_positive
                    (omega (arith, linear)) (let w = slab.wide in omega (arith, linear));
                over = omega (arith, linear);
                under = omega (arith, linear);
              };
            }
        by_cases (inr (s, o)) =
            let same = s.same in let on = s.on in let back = run-opposite right c in
            let gp = open_at k.line l.line right c slab.right_positive s.positive same o in
            let above = over_at k.line l.line c l.ok.rising.rises on gp in
            record {
              above = above;
              near = record {
                positive = s.positive;
                after = run-trans left right c slab.left_positive slab.right_positive s.positive
                    (let w = slab.wide in omega (arith, linear)) (omega (arith, linear));
                before = omega (arith, linear);
                over = omega (arith, linear);
                under = omega (arith, linear);
              };
            }

    -- CELL-PLACE: the middle of the corners is a cut
    pub middle_cut : IsCut Has Low High left right (total a b c)
    middle_cut =
        let na = near_a in let nb = near_b in let t = top in let nc = t.near in
        let pa = na.positive in let pb = nb.positive in let pc = nc.positive in
        let aa = na.after in let ab = away in let ac = nc.after in
        let ba = ahead in let bb = nb.before in let bc = nc.before in
        let er = run-total_right left a b c in let el = run-total_left right a b c in
        let hk = height-total k.line a b c in let hl = height-total l.line a b c in
        let oa = na.over in let ob = nb.over in let oc = t.above in
        let ul = under_middle in
        cut_at (total a b c) (omega (arith, linear)) (omega (arith, linear)) (omega (arith, linear))
        (omega (arith, linear)) ul
      where
        ahead : pos 0 <ℤ run a right
        ahead = let s = at.first.same in let back = run-opposite left a in
            run-trans_last a left right at.first.positive slab.left_positive slab.right_positive
            (omega (arith, linear)) slab.wide

        under_middle : height l.line (total a b c) <ℤ pos 0
        under_middle =
            let e = height-total l.line a b c in
            let t = top in
            let ua = near_a.under in let ub = near_b.under in let uc = t.near.under in
            by_cases g.opens
          where
            by_cases : (pos 0 <ℤ gap k.line l.line left) ⊎ (pos 0 <ℤ gap k.line l.line right)
                → height l.line (total a b c) <ℤ pos 0
            by_cases (inl o) =
                let e = height-total l.line a b c in
                let t = top in
                let ub = near_b.under in let uc = t.near.under in
                let u = under_at k.line l.line a k.ok.rising.rises at.first.on
                (open_at k.line l.line left a slab.left_positive at.first.positive at.first.same o) in
                omega (arith, linear)
            by_cases (inr o) =
                let e = height-total l.line a b c in
                let t = top in
                let ua = near_a.under in let uc = t.near.under in
                let u = under_at k.line l.line b k.ok.rising.rises at.second.on
                (open_at k.line l.line right b slab.right_positive at.second.positive at.second.same o) in
                omega (arith, linear)

    -- CELL-WITNESS: each line of a face over the gap
    module _ {Step : ℕ → Line → Type 0} (sheet : AreFaceBars Has Step) where
      pub witness : (n : ℕ) (f : Line) → IsOpen Low n → Step n f → IsWitness f a b c
      witness n f o st = closed (sheet.closes o.by (total a b c) cut.positive
          (λ u h e. off_answers_at slab (total a b c) cut.positive cut.after cut.before u h) i_has o.by_lower
          (over_of_spans sheet slab cut o.by i_spans))
        where
          cut : IsCut Has Low High left right (total a b c)
          cut = middle_cut

          i_has : Has o.by
          i_has = g.low_has o.by o.by_low

          i_spans : Spans left right o.by
          i_spans = g.low_spans o.by o.by_low

          i_below : IsUnder left right o.by.line k.line
          i_below = g.low o.by o.by_low

          spanned : (u : Bar) → Has u → Spans left right u → u.face ≡ n → (p : Place) → IsNear p
              → Spanned u.lo u.hi f p
          spanned u h s e p near =
              let c = sheet.convex u f h (subst (λ m. Step m f) (sym e) st) in
              record {
                goes = u.ok.goes;
                first = c.0;
                last = c.1;
                after = run-trans (spot u.lo) left p (omega (arith, ints)) slab.left_positive near.positive
                    s.after near.after;
                before = run-trans p right (spot u.hi) near.positive slab.right_positive
                    (omega (arith, ints)) near.before s.before;
              }

          closed : (u : Bar) × Has u × (u.lower ≡ false) × (u.face ≡ o.by.face) × IsOver u (total a b c)
              → IsWitness f a b c
          closed (u, h, upper, same, over) = side (g.each u h (spans_of_over sheet slab cut u h over))
            where
              high : High u → (p : Place) → IsNear p → pos 0 ≤ℤ height f p
              high w p near =
                  let u_below = g.high u w in
                  let over_i : pos 0 ≤ℤ height o.by.line p = not_under_lower o.by.line k.line p
                  o.by.ok.rising.rises k.ok.rising.rises
                  (gap-inside o.by.line k.line left right p slab.wide near.after near.before
                  i_below.at_left i_below.at_right) near.over in
                  let under_u : height u.line p ≤ℤ pos 0 = not_over_upper l.line u.line p l.ok.rising.rises
                  u.ok.rising.rises (gap-inside l.line u.line left right p slab.wide near.after
                  near.before u_below.at_left u_below.at_right) near.under in
                  between_closed o.by.lo o.by.hi u.lo u.hi f p (spanned o.by i_has i_spans o.by_face p near)
                  (spanned u h (g.high_spans u w) (same ∙ o.by_face) p near)
                  (subst (λ j. pos 0 ≤ℤ height j p) o.by.ok.through over_i)
                  (subst (λ j. height j p ≤ℤ pos 0) u.ok.through under_u)

              side : Low u ⊎ High u → IsWitness f a b c
              side (inl v) = absurd (o.none u v upper (same ∙ o.by_face))
              side (inr w) =
                  let fa = high w a near_a in let fb = high w b near_b in let fc = high w c top.near in
                  record {
                    first = fa;
                    second = fb;
                    third = fc;
                    some = by_sign (height f a) (λ n. absurd (omega (arith, linear)))
                        (λ za. inr (by_sign (height f b) (λ n. absurd (omega (arith, linear)))
                        (λ zb. inr (by_sign (height f c) (λ n. absurd (omega (arith, linear)))
                        (λ zc. absurd (not_on_line k.line f a b c k.ok.rising.rises at.first.positive wide_ab
                        at.first.on at.second.on top.above (sheet.way n f st) za zb zc)) (λ p. p)))
                        (λ p. inl p))) (λ p. inl p);
                  }
                where
                  wide_ab : pos 0 <ℤ run a b
                  wide_ab = let s = at.first.same in let back = run-opposite left a in
                      run-trans_last a left b at.first.positive slab.left_positive at.second.positive
                      (omega (arith, linear)) away

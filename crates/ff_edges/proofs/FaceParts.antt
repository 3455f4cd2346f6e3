-- An edge with a part inside a face, and the ends of that part.
use Rattle.std.proofs.Common.{◌≡◌, ◌⊎◌, inl, inr, refl, sym, ap, ◌∙◌, subst, arith, ℕ, zero, suc, ◌+◌, ◌<◌, ℤ, pos, negsuc, ◌+ℤ◌, ◌-ℤ◌, ◌*ℤ◌, ◌<ℤ◌, ◌≤ℤ◌, [], ◌∷◌}
use lib.IntN.{*ℤ-zero}
use Rattle.std.proofs.lemmas.Int.{ints}
use Rattle.std.proofs.lemmas.Bool.Decides.{Decides-int_eq}
use Rattle.ff_basics.proofs.Tests.{of_both}
use Rattle.ff_whole.specs.declared.points.Pt.{Pt}
use Rattle.ff_whole.specs.declared.lines.Line.{Line}
use Rattle.ff_whole.specs.declared.places.Place.{Place}
use Rattle.ff_whole.specs.Points.{IsNear, minus, dot}
use Rattle.ff_whole.specs.Places.{IsPlace, through, height, past, blend}
use Rattle.ff_whole.specs.Turning.{rank}
use Rattle.ff_whole.proofs.Ring.{var, ◌⊕◌, ◌⊖◌, ◌⊗◌, opp, solve, solve_from}
use Rattle.ff_whole.proofs.Signs.{linear, by_sign, pos-mul, nonneg-mul, pos_from_mul, zero_from_mul, zero-mul}
use Rattle.ff_whole.proofs.Offsets.{past-sum, past-x, past-y, line_across, height-across}
use Rattle.ff_whole.proofs.OnEdges.{IsOn}
use Rattle.ff_edges.specs.Clips.{gap, IsWithin, AreLeftOf}
use Rattle.ff_edges.specs.EdgesInside.{ComesBefore, LiesBetween}
use Rattle.ff_edges.proofs.Gaps.{blend_weight, blend_x, blend_y}

-- ---- blends

module _ (l : Line) (i j : ℕ) (s t : Place) where
  pub height_blend : height l (blend i s j t) ≡ pos i *ℤ height l s +ℤ pos j *ℤ height l t
  height_blend = solve (l.a ∷ l.b ∷ l.c ∷ s.x ∷ s.y ∷ s.w ∷ t.x ∷ t.y ∷ t.w ∷ pos i ∷ pos j ∷ [])
      ((var 0 ⊗ (var 9 ⊗ var 3 ⊕ var 10 ⊗ var 6) ⊕ var 1 ⊗ (var 9 ⊗ var 4 ⊕ var 10 ⊗ var 7)) ⊖ var 2 ⊗ (var 9 ⊗ var 5 ⊕ var 10 ⊗ var 8))
      (var 9 ⊗ ((var 0 ⊗ var 3 ⊕ var 1 ⊗ var 4) ⊖ var 2 ⊗ var 5) ⊕ var 10 ⊗ ((var 0 ⊗ var 6 ⊕ var 1 ⊗ var 7) ⊖ var 2 ⊗ var 8)) refl

  blend_nonneg : pos 0 ≤ℤ height l s → pos 0 ≤ℤ height l t → pos 0 ≤ℤ height l (blend i s j t)
  blend_nonneg x y =
      let e = height_blend in
      let a = nonneg-mul (pos i) (height l s) (omega (arith, ints)) x in
      let b = nonneg-mul (pos j) (height l t) (omega (arith, ints)) y in
      omega (arith, linear)

  blend_level : height l s ≡ pos 0 → height l t ≡ pos 0 → height l (blend i s j t) ≡ pos 0
  blend_level x y =
      let e = height_blend in
      let a : pos i *ℤ height l s ≡ pos 0 = ap (λ z. pos i *ℤ z) x ∙ *ℤ-zero (pos i) in
      let b : pos j *ℤ height l t ≡ pos 0 = ap (λ z. pos j *ℤ z) y ∙ *ℤ-zero (pos j) in
      omega (arith, linear)

  -- what is between two places of which none is right of the line and one is left of it is left of it
  pub blend_left : 0 < i → 0 < j → AreLeftOf l s t → pos 0 <ℤ height l (blend i s j t)
  blend_left m n h = by h.one where
    first : pos 0 ≤ℤ (pos i *ℤ height l s)
    first = nonneg-mul (pos i) (height l s) (omega (arith, ints)) h.first

    second : pos 0 ≤ℤ (pos j *ℤ height l t)
    second = nonneg-mul (pos j) (height l t) (omega (arith, ints)) h.second

    by : (pos 0 <ℤ height l s) ⊎ (pos 0 <ℤ height l t) → pos 0 <ℤ height l (blend i s j t)
    by (inl k) = let e = height_blend in let a = pos-mul (pos i) (height l s) (omega (arith, ints, m)) k in let b = second in omega (arith, linear)
    by (inr k) = let e = height_blend in let a = first in let b = pos-mul (pos j) (height l t) (omega (arith, ints, n)) k in omega (arith, linear)

pub blend_place : (i j : ℕ) (s t : Place) → 0 < i + j → IsPlace s → IsPlace t → IsPlace (blend i s j t)
blend_place zero j s t h x y = let a = pos-mul (pos j) t.w (omega (arith, ints, h)) y in let z = zero-mul (pos 0) s.w refl in omega (arith, linear)
blend_place (suc i) j s t h x y = let a = pos-mul (pos (suc i)) s.w (omega (arith, ints)) x in let b = nonneg-mul (pos j) t.w (omega (arith, ints)) (omega (arith, linear)) in omega (arith, linear)

-- a blend of places of a way is on it
pub blend_on : (p q : Pt) (i j : ℕ) (s t : Place) → IsOn p q s → IsOn p q t → IsOn p q (blend i s j t)
blend_on p q i j s t x y = record {
  on = blend_level (through p q) i j s t x.on y.on;
  after = side p q x.after y.after;
  before = side q p x.before y.before;
} where
  side : (a b : Pt) → pos 0 ≤ℤ past a b s → pos 0 ≤ℤ past a b t → pos 0 ≤ℤ past a b (blend i s j t)
  side a b m n = subst (λ k. pos 0 ≤ℤ k) (height-across a b (blend i s j t)) (blend_nonneg (line_across a b) i j s t
      (subst (λ k. pos 0 ≤ℤ k) (sym (height-across a b s)) m) (subst (λ k. pos 0 ≤ℤ k) (sym (height-across a b t)) n))

-- ---- places of a way in order

-- d is the square of the way, n how far it goes in one coordinate from c, p how far past its start the places are
apart_by : (d n c sx tx ps pt ws wt : ℤ) → ps *ℤ (c +ℤ n) +ℤ (d *ℤ ws -ℤ ps) *ℤ c ≡ d *ℤ sx → pt *ℤ (c +ℤ n) +ℤ (d *ℤ wt -ℤ pt) *ℤ c ≡ d *ℤ tx
    → d *ℤ (tx *ℤ ws -ℤ sx *ℤ wt) ≡ (pt *ℤ ws -ℤ ps *ℤ wt) *ℤ n
apart_by d n c sx tx ps pt ws wt x y =
    let x0 : ps *ℤ (c +ℤ n) +ℤ (d *ℤ ws -ℤ ps) *ℤ c -ℤ d *ℤ sx ≡ pos 0 = omega (arith, linear) in
    let y0 : pt *ℤ (c +ℤ n) +ℤ (d *ℤ wt -ℤ pt) *ℤ c -ℤ d *ℤ tx ≡ pos 0 = omega (arith, linear) in
    let d' = var 0 in let n' = var 1 in let c' = var 2 in let sx' = var 3 in let tx' = var 4 in
    let ps' = var 5 in let pt' = var 6 in let ws' = var 7 in let wt' = var 8 in
    solve_from (d ∷ n ∷ c ∷ sx ∷ tx ∷ ps ∷ pt ∷ ws ∷ wt ∷ [])
    (record { by = wt'; zero = ps' ⊗ (c' ⊕ n') ⊕ (d' ⊗ ws' ⊖ ps') ⊗ c' ⊖ d' ⊗ sx' }
    ∷ record { by = opp ws'; zero = pt' ⊗ (c' ⊕ n') ⊕ (d' ⊗ wt' ⊖ pt') ⊗ c' ⊖ d' ⊗ tx' } ∷ [])
    (d' ⊗ (tx' ⊗ ws' ⊖ sx' ⊗ wt')) ((pt' ⊗ ws' ⊖ ps' ⊗ wt') ⊗ n') refl (x0, (y0, tt))

module _ (p q : Pt) (s t : Place) (long : pos 0 <ℤ dot (minus q p) (minus q p)) (s_on : height (through p q) s ≡ pos 0) (t_on : height (through p q) t ≡ pos 0) where
  at_x : (m : Place) → height (through p q) m ≡ pos 0 → past p q m *ℤ (p.x +ℤ (q.x -ℤ p.x)) +ℤ (dot (minus q p) (minus q p) *ℤ m.w -ℤ past p q m) *ℤ p.x ≡ dot (minus q p) (minus q p) *ℤ m.x
  at_x m on =
      let e = past-x p q m in
      let f = past-sum p q m in
      let z = zero-mul (height (through p q) m) (q.y -ℤ p.y) on in
      let a : p.x +ℤ (q.x -ℤ p.x) ≡ q.x = omega (arith, linear) in
      let b : dot (minus q p) (minus q p) *ℤ m.w -ℤ past p q m ≡ past q p m = omega (arith, linear) in
      let u = ap (λ k. past p q m *ℤ k) a in
      let v = ap (λ k. k *ℤ p.x) b in
      omega (arith, linear)

  at_y : (m : Place) → height (through p q) m ≡ pos 0 → past p q m *ℤ (p.y +ℤ (q.y -ℤ p.y)) +ℤ (dot (minus q p) (minus q p) *ℤ m.w -ℤ past p q m) *ℤ p.y ≡ dot (minus q p) (minus q p) *ℤ m.y
  at_y m on =
      let e = past-y p q m in
      let f = past-sum p q m in
      let z = zero-mul (height (through p q) m) (q.x -ℤ p.x) on in
      let a : p.y +ℤ (q.y -ℤ p.y) ≡ q.y = omega (arith, linear) in
      let b : dot (minus q p) (minus q p) *ℤ m.w -ℤ past p q m ≡ past q p m = omega (arith, linear) in
      let u = ap (λ k. past p q m *ℤ k) a in
      let v = ap (λ k. k *ℤ p.y) b in
      omega (arith, linear)

  apart_x : dot (minus q p) (minus q p) *ℤ (t.x *ℤ s.w -ℤ s.x *ℤ t.w) ≡ gap p q s t *ℤ (q.x -ℤ p.x)
  apart_x = apart_by (dot (minus q p) (minus q p)) (q.x -ℤ p.x) p.x s.x t.x (past p q s) (past p q t) s.w t.w (at_x s s_on) (at_x t t_on)

  apart_y : dot (minus q p) (minus q p) *ℤ (t.y *ℤ s.w -ℤ s.y *ℤ t.w) ≡ gap p q s t *ℤ (q.y -ℤ p.y)
  apart_y = apart_by (dot (minus q p) (minus q p)) (q.y -ℤ p.y) p.y s.y t.y (past p q s) (past p q t) s.w t.w (at_y s s_on) (at_y t t_on)

  -- on a way in the order of x and then of y, what is farther from its start comes later
  pub comes_before : IsNear p → IsNear q → rank p <ℤ rank q → pos 0 <ℤ gap p q s t → ComesBefore s t
  comes_before np nq goes far = by_sign (q.x -ℤ p.x)
      (λ l.
      let a = np.y_below.below in
      let b = nq.y_below.below in
      absurd (omega (arith, ints)))
      (λ z.
      let a = apart_x in
      let b = apart_y in
      let u : gap p q s t *ℤ (q.x -ℤ p.x) ≡ pos 0 = ap (λ k. gap p q s t *ℤ k) z ∙ *ℤ-zero (gap p q s t) in
      let v : pos 0 <ℤ (q.y -ℤ p.y) = omega (arith, ints) in
      let w = pos-mul (gap p q s t) (q.y -ℤ p.y) far v in
      let x = zero_from_mul (dot (minus q p) (minus q p)) (t.x *ℤ s.w -ℤ s.x *ℤ t.w) long (omega (arith, linear)) in
      let y = pos_from_mul (dot (minus q p) (minus q p)) (t.y *ℤ s.w -ℤ s.y *ℤ t.w) long (omega (arith, linear)) in
      inr (omega (arith, linear), omega (arith, linear)))
      (λ l.
      let a = apart_x in
      let u = pos-mul (gap p q s t) (q.x -ℤ p.x) far l in
      let x = pos_from_mul (dot (minus q p) (minus q p)) (t.x *ℤ s.w -ℤ s.x *ℤ t.w) long (omega (arith, linear)) in
      inl (omega (arith, linear)))

  -- what is no nearer than s and no farther than t lies between them
  pub lies_between : (m : Place) → height (through p q) m ≡ pos 0 → IsPlace m → IsPlace s → IsPlace t → pos 0 <ℤ gap p q s t → IsWithin p q s t m → LiesBetween s t m
  lies_between m on mp sp tp far h = by (whole (gap p q m t) h.to) (whole (gap p q s m) h.from) where
    whole : (z : ℤ) → pos 0 ≤ℤ z → (n : ℕ) × (pos n ≡ z)
    whole (pos n) l = (n, refl)
    whole (negsuc n) l = absurd (omega (arith, ints))

    swapped : (g x w : ℤ) → x *ℤ (g *ℤ w) ≡ (g *ℤ x) *ℤ w
    swapped g x w = solve (g ∷ x ∷ w ∷ []) (var 1 ⊗ (var 0 ⊗ var 2)) ((var 0 ⊗ var 1) ⊗ var 2) refl

    by : (i : ℕ) × (pos i ≡ gap p q m t) → (j : ℕ) × (pos j ≡ gap p q s m) → LiesBetween s t m
    by (i, d) (j, e) = record {
      i = i;
      j = j;
      some = some;
      same = of_both _ _ ((Decides-int_eq (m.x *ℤ (blend i s j t).w) ((blend i s j t).x *ℤ m.w)).1 x) ((Decides-int_eq (m.y *ℤ (blend i s j t).w) ((blend i s j t).y *ℤ m.w)).1 y);
    } where
      total : pos i *ℤ s.w +ℤ pos j *ℤ t.w ≡ gap p q s t *ℤ m.w
      total = sum (ap (λ k. k *ℤ s.w) d) (ap (λ k. k *ℤ t.w) e) ∙ sym (blend_weight p q s t m long s_on t_on on) where
        sum : {a b c d : ℤ} → a ≡ c → b ≡ d → a +ℤ b ≡ c +ℤ d
        sum {a} {b} {c} {d} e f = ap (λ k. k +ℤ b) e ∙ ap (λ k. c +ℤ k) f

      some : 0 < i + j
      some = positive i j (let z = pos-mul (gap p q s t) m.w far mp in let f = total in omega (arith, linear)) where
        positive : (i j : ℕ) → pos 0 <ℤ (pos i *ℤ s.w +ℤ pos j *ℤ t.w) → 0 < i + j
        positive zero zero h = absurd (let a = zero-mul (pos 0) s.w refl in let b = zero-mul (pos 0) t.w refl in omega (arith, linear))
        positive zero (suc j) h = omega arith
        positive (suc i) j h = omega arith

      in_x : pos i *ℤ s.x +ℤ pos j *ℤ t.x ≡ gap p q s t *ℤ m.x
      in_x = let f = blend_x p q s t m long s_on t_on on in let a = ap (λ k. k *ℤ s.x) d in let b = ap (λ k. k *ℤ t.x) e in omega (arith, linear)

      in_y : pos i *ℤ s.y +ℤ pos j *ℤ t.y ≡ gap p q s t *ℤ m.y
      in_y = let f = blend_y p q s t m long s_on t_on on in let a = ap (λ k. k *ℤ s.y) d in let b = ap (λ k. k *ℤ t.y) e in omega (arith, linear)

      x : m.x *ℤ (blend i s j t).w ≡ (blend i s j t).x *ℤ m.w
      x = ap (λ k. m.x *ℤ k) total ∙ swapped (gap p q s t) m.x m.w ∙ ap (λ k. k *ℤ m.w) (sym in_x)

      y : m.y *ℤ (blend i s j t).w ≡ (blend i s j t).y *ℤ m.w
      y = ap (λ k. m.y *ℤ k) total ∙ swapped (gap p q s t) m.y m.w ∙ ap (λ k. k *ℤ m.w) (sym in_y)

-- Places of one way, by how far they are past one another: heights over any line are in proportion.
use Rattle.std.proofs.Common.{◌≡◌, refl, sym, ap, ◌∙◌, arith, ℤ, pos, negsuc, ◌+ℤ◌, ◌-ℤ◌, ◌*ℤ◌, ◌<ℤ◌, [], ◌∷◌}
use lib.IntN.{*ℤ-zero}
use Rattle.ff_whole.specs.declared.points.Pt.{Pt}
use Rattle.ff_whole.specs.declared.lines.Line.{Line}
use Rattle.ff_whole.specs.declared.places.Place.{Place}
use Rattle.ff_whole.specs.Points.{minus, dot}
use Rattle.ff_whole.specs.Places.{place_of, through, height, past}
use Rattle.ff_whole.proofs.Formulas.{place_e, place_env, height_e}
use Rattle.ff_whole.proofs.Ring.{var, num, ◌⊕◌, ◌⊖◌, ◌⊗◌, opp, solve, solve_from}
use Rattle.ff_whole.proofs.Signs.{linear, zero_from_mul}
use Rattle.ff_whole.proofs.Offsets.{height-past}
use Rattle.ff_edges.specs.Clips.{gap}

-- ---- on one line, the height over any line is in proportion

-- three places with heights h, so far past a point, with denominators w: d is the square of the way
in_proportion : (d a c hs ht hm ps pt pm ws wt wm : ℤ) → d *ℤ hs ≡ a *ℤ ps +ℤ ws *ℤ c → d *ℤ ht ≡ a *ℤ pt +ℤ wt *ℤ c → d *ℤ hm ≡ a *ℤ pm +ℤ wm *ℤ c
    → d *ℤ ((pt *ℤ ws -ℤ ps *ℤ wt) *ℤ hm -ℤ ((pt *ℤ wm -ℤ pm *ℤ wt) *ℤ hs +ℤ (pm *ℤ ws -ℤ ps *ℤ wm) *ℤ ht)) ≡ pos 0
in_proportion d a c hs ht hm ps pt pm ws wt wm x y z =
    let x0 : d *ℤ hs -ℤ (a *ℤ ps +ℤ ws *ℤ c) ≡ pos 0 = omega (arith, linear) in
    let y0 : d *ℤ ht -ℤ (a *ℤ pt +ℤ wt *ℤ c) ≡ pos 0 = omega (arith, linear) in
    let z0 : d *ℤ hm -ℤ (a *ℤ pm +ℤ wm *ℤ c) ≡ pos 0 = omega (arith, linear) in
    let d' = var 0 in let a' = var 1 in let c' = var 2 in
    let hs' = var 3 in let ht' = var 4 in let hm' = var 5 in
    let ps' = var 6 in let pt' = var 7 in let pm' = var 8 in
    let ws' = var 9 in let wt' = var 10 in let wm' = var 11 in
    solve_from (d ∷ a ∷ c ∷ hs ∷ ht ∷ hm ∷ ps ∷ pt ∷ pm ∷ ws ∷ wt ∷ wm ∷ [])
    (record { by = pt' ⊗ ws' ⊖ ps' ⊗ wt'; zero = d' ⊗ hm' ⊖ (a' ⊗ pm' ⊕ wm' ⊗ c') }
    ∷ record { by = opp (pt' ⊗ wm' ⊖ pm' ⊗ wt'); zero = d' ⊗ hs' ⊖ (a' ⊗ ps' ⊕ ws' ⊗ c') }
    ∷ record { by = opp (pm' ⊗ ws' ⊖ ps' ⊗ wm'); zero = d' ⊗ ht' ⊖ (a' ⊗ pt' ⊕ wt' ⊗ c') } ∷ [])
    (d' ⊗ ((pt' ⊗ ws' ⊖ ps' ⊗ wt') ⊗ hm' ⊖ ((pt' ⊗ wm' ⊖ pm' ⊗ wt') ⊗ hs' ⊕ (pm' ⊗ ws' ⊖ ps' ⊗ wm') ⊗ ht')))
    (num (pos 0)) refl (z0, (x0, (y0, tt)))

-- the height of a place of the line
pub height_on : (l : Line) (p q : Pt) (s : Place) → height (through p q) s ≡ pos 0
    → dot (minus q p) (minus q p) *ℤ height l s ≡ (l.a *ℤ (q.x -ℤ p.x) +ℤ l.b *ℤ (q.y -ℤ p.y)) *ℤ past p q s +ℤ s.w *ℤ (dot (minus q p) (minus q p) *ℤ height l (place_of p))
height_on l p q s on =
    let e = height-past l p q s in
    let k = l.b *ℤ (q.x -ℤ p.x) -ℤ l.a *ℤ (q.y -ℤ p.y) in
    let z : k *ℤ height (through p q) s ≡ pos 0 = ap (λ z. k *ℤ z) on ∙ *ℤ-zero k in
    let f = turned (dot (minus q p) (minus q p)) s.w (height l (place_of p)) in
    omega (arith, linear)
  where
    turned : (d w h : ℤ) → d *ℤ w *ℤ h ≡ w *ℤ (d *ℤ h)
    turned d w h = solve (d ∷ w ∷ h ∷ []) (var 0 ⊗ var 1 ⊗ var 2) (var 1 ⊗ (var 0 ⊗ var 2)) refl

-- over any line, m is as high as s and t are, each times how far m is from the other one
pub blend_height : (l : Line) (p q : Pt) (s t m : Place) → pos 0 <ℤ dot (minus q p) (minus q p)
    → height (through p q) s ≡ pos 0 → height (through p q) t ≡ pos 0 → height (through p q) m ≡ pos 0
    → gap p q s t *ℤ height l m ≡ gap p q m t *ℤ height l s +ℤ gap p q s m *ℤ height l t
blend_height l p q s t m long x y z =
    let d = dot (minus q p) (minus q p) in
    let a = l.a *ℤ (q.x -ℤ p.x) +ℤ l.b *ℤ (q.y -ℤ p.y) in
    let e = in_proportion d a (d *ℤ height l (place_of p)) (height l s) (height l t) (height l m) (past p q s) (past p q t) (past p q m) s.w t.w m.w
    (height_on l p q s x) (height_on l p q t y) (height_on l p q m z) in
    let f = zero_from_mul d (gap p q s t *ℤ height l m -ℤ (gap p q m t *ℤ height l s +ℤ gap p q s m *ℤ height l t)) long e in
    omega (arith, linear)

-- ---- coordinates are heights

abbrev pub weight_line : Line
weight_line = record { a = pos 0; b = pos 0; c = negsuc 0 }

abbrev pub x_line : Line
x_line = record { a = pos 1; b = pos 0; c = pos 0 }

abbrev pub y_line : Line
y_line = record { a = pos 0; b = pos 1; c = pos 0 }

pub height-weight : (s : Place) → height weight_line s ≡ s.w
height-weight s = let s' = place_e 0 in solve (place_env s []) (height_e (record { a = num (pos 0); b = num (pos 0); c = num (negsuc 0) }) s') s'.w refl

pub height-x : (s : Place) → height x_line s ≡ s.x
height-x s = let s' = place_e 0 in solve (place_env s []) (height_e (record { a = num (pos 1); b = num (pos 0); c = num (pos 0) }) s') s'.x refl

pub height-y : (s : Place) → height y_line s ≡ s.y
height-y s = let s' = place_e 0 in solve (place_env s []) (height_e (record { a = num (pos 0); b = num (pos 1); c = num (pos 0) }) s') s'.y refl

values : (g u v : ℤ) {a b c d e f : ℤ} → g *ℤ a ≡ u *ℤ b +ℤ v *ℤ c → a ≡ d → b ≡ e → c ≡ f → g *ℤ d ≡ u *ℤ e +ℤ v *ℤ f
values g u v h x y z = ap (λ k. g *ℤ k) (sym x) ∙ h ∙ sum (ap (λ k. u *ℤ k) y) (ap (λ k. v *ℤ k) z) where
  sum : {a b c d : ℤ} → a ≡ c → b ≡ d → a +ℤ b ≡ c +ℤ d
  sum {a} {b} {c} {d} e f = ap (λ k. k +ℤ b) e ∙ ap (λ k. c +ℤ k) f

module _ (p q : Pt) (s t m : Place) (long : pos 0 <ℤ dot (minus q p) (minus q p))
    (s_on : height (through p q) s ≡ pos 0) (t_on : height (through p q) t ≡ pos 0) (m_on : height (through p q) m ≡ pos 0) where
  pub blend_weight : gap p q s t *ℤ m.w ≡ gap p q m t *ℤ s.w +ℤ gap p q s m *ℤ t.w
  blend_weight =
      let e = blend_height weight_line p q s t m long s_on t_on m_on in
      values (gap p q s t) (gap p q m t) (gap p q s m) e (height-weight m) (height-weight s) (height-weight t)

  pub blend_x : gap p q s t *ℤ m.x ≡ gap p q m t *ℤ s.x +ℤ gap p q s m *ℤ t.x
  blend_x =
      let e = blend_height x_line p q s t m long s_on t_on m_on in
      values (gap p q s t) (gap p q m t) (gap p q s m) e (height-x m) (height-x s) (height-x t)

  pub blend_y : gap p q s t *ℤ m.y ≡ gap p q m t *ℤ s.y +ℤ gap p q s m *ℤ t.y
  blend_y =
      let e = blend_height y_line p q s t m long s_on t_on m_on in
      values (gap p q s t) (gap p q m t) (gap p q s m) e (height-y m) (height-y s) (height-y t)

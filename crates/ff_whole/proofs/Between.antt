-- A place between a lower and an upper edge: right of no line that no end of the two edges is right of.
-- The lower edge goes to the right, from p to q, and the upper one to the left, from s to r, as in a ring that goes
-- round counterclockwise.
use Rattle.std.proofs.Common.{◌≡◌, refl, arith, ℤ, pos, ◌+ℤ◌, ◌-ℤ◌, ◌*ℤ◌, ◌<ℤ◌, ◌≤ℤ◌, [], ◌∷◌}
use lib.IntN.{*ℤ_comm}
use Rattle.ff_whole.proofs.Formulas.{point_e, point_env, line_e, line_env, place_e, place_env, place_of_e, through_e, height_e}
use Rattle.ff_whole.proofs.Ring.{var, ◌⊕◌, ◌⊖◌, ◌⊗◌, solve, solve_from}
use Rattle.ff_whole.proofs.Signs.{linear, by_sign, pos-mul, nonneg-mul, nonneg-mul_nonpos, zero-mul, nonneg_from_mul, zero_from_mul}
use Rattle.ff_whole.specs.Places.{place_of, through, height}
use Rattle.ff_whole.specs.declared.points.Pt.{Pt}
use Rattle.ff_whole.specs.declared.lines.Line.{Line}
use Rattle.ff_whole.specs.declared.places.Place.{Place}

-- how far the place is right of the point, in x
abbrev pub after : Pt → Place → ℤ
after p m = m.x -ℤ p.x *ℤ m.w

-- the height over a line at a place, from those at two points and what is above the way between them
pub height-along : (l : Line) (p q : Pt) (m : Place) → (q.x -ℤ p.x) *ℤ height l m
    ≡ (after p m *ℤ height l (place_of q) -ℤ after q m *ℤ height l (place_of p)) +ℤ height (through p q) m *ℤ l.b
height-along l p q m =
    let l' = line_e 0 in let p' = point_e 3 in let q' = point_e 5 in let m' = place_e 7 in
    solve (line_env l (point_env p (point_env q (place_env m [])))) ((q'.x ⊖ p'.x) ⊗ height_e l' m')
    (((m'.x ⊖ p'.x ⊗ m'.w) ⊗ height_e l' (place_of_e q') ⊖ (m'.x ⊖ q'.x ⊗ m'.w) ⊗ height_e l' (place_of_e p')) ⊕ height_e (through_e p' q') m' ⊗ l'.b) refl

-- ---- the arithmetic: f is the height asked, e and g those over the two edges, u and v what the edges' ends add

module _ (b c e g u v k f : ℤ) (hb : pos 0 <ℤ b) (hc : pos 0 <ℤ c) (he : pos 0 ≤ℤ e) (hg : pos 0 ≤ℤ g) (hu : pos 0 ≤ℤ u) (hv : pos 0 ≤ℤ v)
    (lower : b *ℤ f ≡ u +ℤ e *ℤ k) (upper : c *ℤ f ≡ v -ℤ g *ℤ k) where
  weighed : (g *ℤ b +ℤ e *ℤ c) *ℤ f ≡ g *ℤ u +ℤ e *ℤ v
  weighed =
      let l0 : b *ℤ f -ℤ (u +ℤ e *ℤ k) ≡ pos 0 = omega (arith, linear) in
      let u0 : c *ℤ f -ℤ (v -ℤ g *ℤ k) ≡ pos 0 = omega (arith, linear) in
      solve_from (b ∷ c ∷ e ∷ g ∷ u ∷ v ∷ k ∷ f ∷ [])
      (record { by = var 3; zero = var 0 ⊗ var 7 ⊖ (var 4 ⊕ var 2 ⊗ var 6) }
      ∷ record { by = var 2; zero = var 1 ⊗ var 7 ⊖ (var 5 ⊖ var 3 ⊗ var 6) } ∷ [])
      ((var 3 ⊗ var 0 ⊕ var 2 ⊗ var 1) ⊗ var 7) (var 3 ⊗ var 4 ⊕ var 2 ⊗ var 5) refl (l0, (u0, tt))

  not_below : pos 0 ≤ℤ f
  not_below =
      let gb = nonneg-mul g b hg (omega (arith, linear)) in
      let gu = nonneg-mul g u hg hu in
      let ev = nonneg-mul e v he hv in
      let w = weighed in
      by_sign e
      (λ low. absurd (omega (arith, linear)))
      (λ zero. let z = zero-mul e k zero in nonneg_from_mul b f hb (omega (arith, linear)))
      (λ high. let ec = pos-mul e c high hc in nonneg_from_mul (g *ℤ b +ℤ e *ℤ c) f (omega (arith, linear)) (omega (arith, linear)))

  -- where it is 0 above one edge and below the other, the ends add nothing, and the line is vertical
  level : pos 0 <ℤ e → pos 0 <ℤ g → f ≡ pos 0 → (u ≡ pos 0) × (k ≡ pos 0)
  level high deep zero =
      let gu = nonneg-mul g u hg hu in
      let ev = nonneg-mul e v he hv in
      let w = weighed in
      let z = *ℤ_comm (g *ℤ b +ℤ e *ℤ c) f in
      let y = zero-mul f (g *ℤ b +ℤ e *ℤ c) zero in
      let x = *ℤ_comm b f in
      let bf = zero-mul f b zero in
      let u0 = zero_from_mul g u deep (omega (arith, linear)) in
      (u0, zero_from_mul e k high (omega (arith, linear)))

-- ---- the law

-- the place is above the edge from p to q and below the edge from s to r, and at an x of both
pub record IsBetweenEdges (p q s r : Pt) (m : Place) : Type 0 where
  pub rightwards : p.x <ℤ q.x
  pub leftwards : r.x <ℤ s.x
  pub after_p : pos 0 ≤ℤ after p m
  pub before_q : after q m ≤ℤ pos 0
  pub after_r : pos 0 ≤ℤ after r m
  pub before_s : after s m ≤ℤ pos 0
  pub above : pos 0 ≤ℤ height (through p q) m
  pub below : pos 0 ≤ℤ height (through s r) m

-- none of the four ends is right of the line
pub record HasEnds (l : Line) (p q s r : Pt) : Type 0 where
  pub at_p : pos 0 ≤ℤ height l (place_of p)
  pub at_q : pos 0 ≤ℤ height l (place_of q)
  pub at_s : pos 0 ≤ℤ height l (place_of s)
  pub at_r : pos 0 ≤ℤ height l (place_of r)

-- what the ends of an edge add, where the place is at an x of the edge
ends : (u v a b : ℤ) → pos 0 ≤ℤ u → v ≤ℤ pos 0 → pos 0 ≤ℤ a → pos 0 ≤ℤ b → pos 0 ≤ℤ (u *ℤ b -ℤ v *ℤ a)
ends u v a b hu hv ha hb =
    let x = nonneg-mul u b hu hb in
    let y = nonneg-mul_nonpos a v ha hv in
    let c = *ℤ_comm v a in
    omega (arith, linear)

module _ (l : Line) (p q s r : Pt) (m : Place) (t : IsBetweenEdges p q s r m) (h : HasEnds l p q s r) where
  abbrev low : ℤ
  low = after p m *ℤ height l (place_of q) -ℤ after q m *ℤ height l (place_of p)

  abbrev high : ℤ
  high = after r m *ℤ height l (place_of s) -ℤ after s m *ℤ height l (place_of r)

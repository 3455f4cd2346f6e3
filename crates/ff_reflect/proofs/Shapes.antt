-- Two images of a face that agree on an edge are one; no code is named here.
use Rattle.std.proofs.Common.{◌≡◌, true, false, Bool, arith, refl, sym, ap, ◌∙◌, ℤ, pos, ◌+ℤ◌, ◌-ℤ◌, ◌*ℤ◌, ◌<ℤ◌, [], ◌∷◌}
use lib.IntN.{*ℤ_comm, neg_ℤ}
use Rattle.ff_whole.proofs.Ring.{var, ◌⊕◌, ◌⊖◌, ◌⊗◌, opp, solve, solve_from}
use Rattle.ff_whole.proofs.Formulas.{point_e, point_env, minus_e, dot_e, turn_e, cross_e}
use Rattle.ff_whole.proofs.Signs.{linear, pos-mul, cancel_left}
use Rattle.ff_whole.proofs.Laws.{neg-*ℤ}
use Rattle.ff_whole.specs.Points.{minus, dot, cross, turn}
use Rattle.ff_whole.specs.Places.{IsPlace}
use Rattle.ff_whole.specs.declared.points.Pt.{Pt}
use Rattle.ff_whole.specs.declared.places.Place.{Place}
use Rattle.ff_types.specs.Foldings.{signed, spread, scaled, KeepsShape}
use Rattle.ff_types.specs.Carrying.{between, KeepShape}
use Rattle.ff_reflect.specs.Images.{image_x, image_y, IsAt}

-- a factor may stand inside or outside
pub signed-mul : (up : Bool) (a b : ℤ) → signed up (a *ℤ b) ≡ a *ℤ signed up b
signed-mul true a b = refl
signed-mul false a b = sym (*ℤ_comm a (neg_ℤ b) ∙ neg-*ℤ b a ∙ ap neg_ℤ (*ℤ_comm b a))

-- ---- an image keeps its shape: it is where the formula says

-- from the products n, a and c of the edge's images and the third one: variables u, v, w, then D D as one, n, a, c
fixed_x : (u v w : Pt) (dd n a c : ℤ) → spread u v v ≡ dd *ℤ n → spread u v w ≡ dd *ℤ a → turn u v w ≡ dd *ℤ c
    → dd *ℤ (n *ℤ w.x) ≡ dd *ℤ ((n *ℤ u.x) +ℤ ((a *ℤ (v.x -ℤ u.x)) -ℤ (c *ℤ (v.y -ℤ u.y))))
fixed_x u v w dd n a c en ea ec =
    let u' = point_e 0 in let v' = point_e 2 in let w' = point_e 4 in
    let z1 : spread u v v -ℤ dd *ℤ n ≡ pos 0 = omega (arith, linear) in
    let z2 : spread u v w -ℤ dd *ℤ a ≡ pos 0 = omega (arith, linear) in
    let z3 : turn u v w -ℤ dd *ℤ c ≡ pos 0 = omega (arith, linear) in
    solve_from (point_env u (point_env v (point_env w (dd ∷ n ∷ a ∷ c ∷ []))))
    (record { by = opp (w'.x ⊖ u'.x); zero = dot_e (minus_e v' u') (minus_e v' u') ⊖ var 6 ⊗ var 7 }
    ∷ record { by = v'.x ⊖ u'.x; zero = dot_e (minus_e v' u') (minus_e w' u') ⊖ var 6 ⊗ var 8 }
    ∷ record { by = opp (v'.y ⊖ u'.y); zero = turn_e u' v' w' ⊖ var 6 ⊗ var 9 } ∷ [])
    (var 6 ⊗ (var 7 ⊗ w'.x)) (var 6 ⊗ (var 7 ⊗ u'.x ⊕ (var 8 ⊗ (v'.x ⊖ u'.x) ⊖ var 9 ⊗ (v'.y ⊖ u'.y)))) refl (z1, (z2, (z3, tt)))

fixed_y : (u v w : Pt) (dd n a c : ℤ) → spread u v v ≡ dd *ℤ n → spread u v w ≡ dd *ℤ a → turn u v w ≡ dd *ℤ c
    → dd *ℤ (n *ℤ w.y) ≡ dd *ℤ ((n *ℤ u.y) +ℤ ((a *ℤ (v.y -ℤ u.y)) +ℤ (c *ℤ (v.x -ℤ u.x))))
fixed_y u v w dd n a c en ea ec =
    let u' = point_e 0 in let v' = point_e 2 in let w' = point_e 4 in
    let z1 : spread u v v -ℤ dd *ℤ n ≡ pos 0 = omega (arith, linear) in
    let z2 : spread u v w -ℤ dd *ℤ a ≡ pos 0 = omega (arith, linear) in
    let z3 : turn u v w -ℤ dd *ℤ c ≡ pos 0 = omega (arith, linear) in
    solve_from (point_env u (point_env v (point_env w (dd ∷ n ∷ a ∷ c ∷ []))))
    (record { by = opp (w'.y ⊖ u'.y); zero = dot_e (minus_e v' u') (minus_e v' u') ⊖ var 6 ⊗ var 7 }
    ∷ record { by = v'.y ⊖ u'.y; zero = dot_e (minus_e v' u') (minus_e w' u') ⊖ var 6 ⊗ var 8 }
    ∷ record { by = v'.x ⊖ u'.x; zero = turn_e u' v' w' ⊖ var 6 ⊗ var 9 } ∷ [])
    (var 6 ⊗ (var 7 ⊗ w'.y)) (var 6 ⊗ (var 7 ⊗ u'.y ⊕ (var 8 ⊗ (v'.y ⊖ u'.y) ⊕ var 9 ⊗ (v'.x ⊖ u'.x)))) refl (z1, (z2, (z3, tt)))

-- w is the image of r, times the squared length n of the edge from p to q
pub record IsImage (up : Bool) (p q r u v w : Pt) : Type 0 where
  pub x : spread p q q *ℤ w.x ≡ image_x up p q r u v
  pub y : spread p q q *ℤ w.y ≡ image_y up p q r u v

-- three points with the shape of three others: the third is the image
pub image_from_shape : (d : ℤ) (up : Bool) (p q r u v w : Pt) → pos 0 <ℤ d → KeepsShape d up p q q u v v → KeepsShape d up p q r u v w
    → IsImage up p q r u v w
image_from_shape d up p q r u v w h e k =
    let dd = d *ℤ d in
    let c : turn u v w ≡ dd *ℤ signed up (turn p q r) = k.crosses ∙ signed-mul up dd (turn p q r) in
    record {
      x = cancel_left dd _ _ (pos-mul d d h h) (fixed_x u v w dd (spread p q q) (spread p q r) (signed up (turn p q r)) e.dots k.dots c);
      y = cancel_left dd _ _ (pos-mul d d h h) (fixed_y u v w dd (spread p q q) (spread p q r) (signed up (turn p q r)) e.dots k.dots c);
    }

-- ---- places at a scale

-- the way from a place to another, at the scale
between-at : (d ux vx uw vw x y : ℤ) → d *ℤ ux ≡ uw *ℤ x → d *ℤ vx ≡ vw *ℤ y
    → d *ℤ ((vx *ℤ uw) -ℤ (ux *ℤ vw)) ≡ (uw *ℤ vw) *ℤ (y -ℤ x)
between-at d ux vx uw vw x y e f =
    let z1 : d *ℤ ux -ℤ uw *ℤ x ≡ pos 0 = omega (arith, linear) in
    let z2 : d *ℤ vx -ℤ vw *ℤ y ≡ pos 0 = omega (arith, linear) in
    solve_from (d ∷ ux ∷ vx ∷ uw ∷ vw ∷ x ∷ y ∷ [])
    (record { by = var 3; zero = var 0 ⊗ var 2 ⊖ var 4 ⊗ var 6 } ∷ record { by = opp (var 4); zero = var 0 ⊗ var 1 ⊖ var 3 ⊗ var 5 } ∷ [])
    (var 0 ⊗ (var 2 ⊗ var 3 ⊖ var 1 ⊗ var 4)) ((var 3 ⊗ var 4) ⊗ (var 6 ⊖ var 5)) refl (z2, (z1, tt))

-- products of two such ways e and f, which times d are uw vw and uw ww times the ways g and h of the points
dot-at : (d uw vw ww : ℤ) (e f g h : Pt) → d *ℤ e.x ≡ (uw *ℤ vw) *ℤ g.x → d *ℤ e.y ≡ (uw *ℤ vw) *ℤ g.y
    → d *ℤ f.x ≡ (uw *ℤ ww) *ℤ h.x → d *ℤ f.y ≡ (uw *ℤ ww) *ℤ h.y
    → (d *ℤ d) *ℤ dot e f ≡ ((uw *ℤ uw) *ℤ (vw *ℤ ww)) *ℤ dot g h
dot-at d uw vw ww e f g h a b i j =
    let e' = point_e 4 in let f' = point_e 6 in let g' = point_e 8 in let h' = point_e 10 in
    let z1 : d *ℤ e.x -ℤ (uw *ℤ vw) *ℤ g.x ≡ pos 0 = omega (arith, linear) in
    let z2 : d *ℤ e.y -ℤ (uw *ℤ vw) *ℤ g.y ≡ pos 0 = omega (arith, linear) in
    let z3 : d *ℤ f.x -ℤ (uw *ℤ ww) *ℤ h.x ≡ pos 0 = omega (arith, linear) in
    let z4 : d *ℤ f.y -ℤ (uw *ℤ ww) *ℤ h.y ≡ pos 0 = omega (arith, linear) in
    solve_from (d ∷ uw ∷ vw ∷ ww ∷ point_env e (point_env f (point_env g (point_env h []))))
    (record { by = var 0 ⊗ f'.x; zero = var 0 ⊗ e'.x ⊖ (var 1 ⊗ var 2) ⊗ g'.x }
    ∷ record { by = var 0 ⊗ f'.y; zero = var 0 ⊗ e'.y ⊖ (var 1 ⊗ var 2) ⊗ g'.y }
    ∷ record { by = (var 1 ⊗ var 2) ⊗ g'.x; zero = var 0 ⊗ f'.x ⊖ (var 1 ⊗ var 3) ⊗ h'.x }
    ∷ record { by = (var 1 ⊗ var 2) ⊗ g'.y; zero = var 0 ⊗ f'.y ⊖ (var 1 ⊗ var 3) ⊗ h'.y } ∷ [])
    ((var 0 ⊗ var 0) ⊗ dot_e e' f') (((var 1 ⊗ var 1) ⊗ (var 2 ⊗ var 3)) ⊗ dot_e g' h') refl (z1, (z2, (z3, (z4, tt))))

cross-at : (d uw vw ww : ℤ) (e f g h : Pt) → d *ℤ e.x ≡ (uw *ℤ vw) *ℤ g.x → d *ℤ e.y ≡ (uw *ℤ vw) *ℤ g.y
    → d *ℤ f.x ≡ (uw *ℤ ww) *ℤ h.x → d *ℤ f.y ≡ (uw *ℤ ww) *ℤ h.y
    → (d *ℤ d) *ℤ cross e f ≡ ((uw *ℤ uw) *ℤ (vw *ℤ ww)) *ℤ cross g h
cross-at d uw vw ww e f g h a b i j =
    let e' = point_e 4 in let f' = point_e 6 in let g' = point_e 8 in let h' = point_e 10 in
    let z1 : d *ℤ e.x -ℤ (uw *ℤ vw) *ℤ g.x ≡ pos 0 = omega (arith, linear) in
    let z2 : d *ℤ e.y -ℤ (uw *ℤ vw) *ℤ g.y ≡ pos 0 = omega (arith, linear) in
    let z3 : d *ℤ f.x -ℤ (uw *ℤ ww) *ℤ h.x ≡ pos 0 = omega (arith, linear) in
    let z4 : d *ℤ f.y -ℤ (uw *ℤ ww) *ℤ h.y ≡ pos 0 = omega (arith, linear) in
    solve_from (d ∷ uw ∷ vw ∷ ww ∷ point_env e (point_env f (point_env g (point_env h []))))
    (record { by = var 0 ⊗ f'.y; zero = var 0 ⊗ e'.x ⊖ (var 1 ⊗ var 2) ⊗ g'.x }
    ∷ record { by = opp (var 0 ⊗ f'.x); zero = var 0 ⊗ e'.y ⊖ (var 1 ⊗ var 2) ⊗ g'.y }
    ∷ record { by = (var 1 ⊗ var 2) ⊗ g'.x; zero = var 0 ⊗ f'.y ⊖ (var 1 ⊗ var 3) ⊗ h'.y }
    ∷ record { by = opp ((var 1 ⊗ var 2) ⊗ g'.y); zero = var 0 ⊗ f'.x ⊖ (var 1 ⊗ var 3) ⊗ h'.x } ∷ [])
    ((var 0 ⊗ var 0) ⊗ cross_e e' f') (((var 1 ⊗ var 1) ⊗ (var 2 ⊗ var 3)) ⊗ cross_e g' h') refl (z1, (z2, (z4, (z3, tt))))

-- d d k a, where the product of two ways is k a
moved : (dd k a b : ℤ) → pos 0 <ℤ k → (b' : ℤ) → b' ≡ k *ℤ a → dd *ℤ b' ≡ k *ℤ b → b ≡ dd *ℤ a
moved dd k a b h b' e f = cancel_left k b (dd *ℤ a) h (sym f ∙ ap (λ z. dd *ℤ z) e
    ∙ solve (dd ∷ k ∷ a ∷ []) (var 0 ⊗ (var 1 ⊗ var 2)) (var 1 ⊗ (var 0 ⊗ var 2)) refl)

-- places with the shape of three points, that are whole at a scale: the points have the shape, at this scale
pub shape_at : (d : ℤ) (up : Bool) (p q r : Pt) (u v w : Place) (a b c : Pt) → IsPlace u → IsPlace v → IsPlace w
    → KeepShape up p q r u v w → IsAt d u a → IsAt d v b → IsAt d w c → KeepsShape d up p q r a b c
shape_at d up p q r u v w a b c hu hv hw k eu ev ew =
    let n = (u.w *ℤ u.w) *ℤ (v.w *ℤ w.w) in
    let positive : pos 0 <ℤ n = pos-mul _ _ (pos-mul _ _ hu hu) (pos-mul _ _ hv hw) in
    let vx = between-at d u.x v.x u.w v.w a.x b.x eu.x ev.x in
    let vy = between-at d u.y v.y u.w v.w a.y b.y eu.y ev.y in
    let wx = between-at d u.x w.x u.w w.w a.x c.x eu.x ew.x in
    let wy = between-at d u.y w.y u.w w.w a.y c.y eu.y ew.y in
    record {
      dots = moved (d *ℤ d) n (spread p q r) (spread a b c) positive (dot (between u v) (between u w)) k.dots (dot-at d u.w v.w w.w (between u v) (between u w) (minus b a) (minus c a) vx vy wx wy);
      crosses = moved (d *ℤ d) n (signed up (turn p q r)) (turn a b c) positive (cross (between u v) (between u w)) (k.crosses ∙ signed-mul up n (turn p q r)) (cross-at d u.w v.w w.w (between u v) (between u w) (minus b a) (minus c a) vx vy wx wy)
          ∙ sym (signed-mul up (d *ℤ d) (turn p q r));
    }

-- ---- a place is where the formula says

-- the point times a factor
pub scaled-at : (d k : ℤ) (s : Place) (p : Pt) → IsAt d s p → IsAt (d *ℤ k) s (scaled k p)
scaled-at d k s p e = record { x = go s.x s.w p.x e.x; y = go s.y s.w p.y e.y } where
  go : (x w y : ℤ) → d *ℤ x ≡ w *ℤ y → (d *ℤ k) *ℤ x ≡ w *ℤ (k *ℤ y)
  go x w y h = solve (d ∷ k ∷ x ∷ []) ((var 0 ⊗ var 1) ⊗ var 2) (var 1 ⊗ (var 0 ⊗ var 2)) refl ∙ ap (λ z. k *ℤ z) h
      ∙ solve (k ∷ w ∷ y ∷ []) (var 0 ⊗ (var 1 ⊗ var 2)) (var 1 ⊗ (var 0 ⊗ var 2)) refl

-- a place's own numbers, at a scale that is a multiple of its denominator
itself-at : (d : ℤ) (s : Place) → IsAt (d *ℤ s.w) s (record { x = d *ℤ s.x; y = d *ℤ s.y })
itself-at d s = record { x = go s.x; y = go s.y } where
  go : (x : ℤ) → (d *ℤ s.w) *ℤ x ≡ s.w *ℤ (d *ℤ x)
  go x = solve (d ∷ s.w ∷ x ∷ []) ((var 0 ⊗ var 1) ⊗ var 2) (var 1 ⊗ (var 0 ⊗ var 2)) refl

pub linear_x : (k n a c ux uy vx vy : ℤ)
    → (n *ℤ (k *ℤ ux)) +ℤ ((a *ℤ ((k *ℤ vx) -ℤ (k *ℤ ux))) -ℤ (c *ℤ ((k *ℤ vy) -ℤ (k *ℤ uy)))) ≡ k *ℤ ((n *ℤ ux) +ℤ ((a *ℤ (vx -ℤ ux)) -ℤ (c *ℤ (vy -ℤ uy))))
linear_x k n a c ux uy vx vy = solve (k ∷ n ∷ a ∷ c ∷ ux ∷ uy ∷ vx ∷ vy ∷ [])
    (var 1 ⊗ (var 0 ⊗ var 4) ⊕ (var 2 ⊗ (var 0 ⊗ var 6 ⊖ var 0 ⊗ var 4) ⊖ var 3 ⊗ (var 0 ⊗ var 7 ⊖ var 0 ⊗ var 5)))
    (var 0 ⊗ (var 1 ⊗ var 4 ⊕ (var 2 ⊗ (var 6 ⊖ var 4) ⊖ var 3 ⊗ (var 7 ⊖ var 5)))) refl

pub linear_y : (k n a c ux uy vx vy : ℤ)
    → (n *ℤ (k *ℤ uy)) +ℤ ((a *ℤ ((k *ℤ vy) -ℤ (k *ℤ uy))) +ℤ (c *ℤ ((k *ℤ vx) -ℤ (k *ℤ ux)))) ≡ k *ℤ ((n *ℤ uy) +ℤ ((a *ℤ (vy -ℤ uy)) +ℤ (c *ℤ (vx -ℤ ux))))
linear_y k n a c ux uy vx vy = solve (k ∷ n ∷ a ∷ c ∷ ux ∷ uy ∷ vx ∷ vy ∷ [])
    (var 1 ⊗ (var 0 ⊗ var 5) ⊕ (var 2 ⊗ (var 0 ⊗ var 7 ⊖ var 0 ⊗ var 5) ⊕ var 3 ⊗ (var 0 ⊗ var 6 ⊖ var 0 ⊗ var 4)))
    (var 0 ⊗ (var 1 ⊗ var 5 ⊕ (var 2 ⊗ (var 7 ⊖ var 5) ⊕ var 3 ⊗ (var 6 ⊖ var 4)))) refl

-- the place w of r, at the scale d and times the edge's squared length n, is the formula's number
pub record IsImageAt (d : ℤ) (up : Bool) (p q r u v : Pt) (w : Place) : Type 0 where
  pub x : spread p q q *ℤ (d *ℤ w.x) ≡ w.w *ℤ image_x up p q r u v
  pub y : spread p q q *ℤ (d *ℤ w.y) ≡ w.w *ℤ image_y up p q r u v

pub image_at : (d : ℤ) (up : Bool) (p q r : Pt) (u v w : Place) (a b : Pt) → pos 0 <ℤ d → IsPlace u → IsPlace v → IsPlace w
    → KeepShape up p q q u v v → KeepShape up p q r u v w → IsAt d u a → IsAt d v b → IsImageAt d up p q r a b w
image_at d up p q r u v w a b h hu hv hw e k eu ev =
    let a' = scaled w.w a in let b' = scaled w.w b in
    let c' : Pt = record { x = d *ℤ w.x; y = d *ℤ w.y } in
    let d' = d *ℤ w.w in
    let ua = scaled-at d w.w u a eu in let vb = scaled-at d w.w v b ev in
    let m = image_from_shape d' up p q r a' b' c' (pos-mul d w.w h hw)
    (shape_at d' up p q q u v v a' b' b' hu hv hv e ua vb vb) (shape_at d' up p q r u v w a' b' c' hu hv hw k ua vb (itself-at d w)) in
    record {
      x = m.x ∙ linear_x w.w (spread p q q) (spread p q r) (signed up (turn p q r)) a.x a.y b.x b.y;
      y = m.y ∙ linear_y w.w (spread p q q) (spread p q r) (signed up (turn p q r)) a.x a.y b.x b.y;
    }

-- a whole point there is the place's, and the other way round
pub at_from_image : (d : ℤ) (up : Bool) (p q r u v : Pt) (w : Place) (z : Pt) → pos 0 <ℤ spread p q q
    → IsImageAt d up p q r u v w → IsImage up p q r u v z → IsAt d w z
at_from_image d up p q r u v w z h e k = record { x = go w.x z.x (image_x up p q r u v) e.x k.x; y = go w.y z.y (image_y up p q r u v) e.y k.y } where
  go : (x c i : ℤ) → spread p q q *ℤ (d *ℤ x) ≡ w.w *ℤ i → spread p q q *ℤ c ≡ i → d *ℤ x ≡ w.w *ℤ c
  go x c i f g = cancel_left (spread p q q) (d *ℤ x) (w.w *ℤ c) h (f ∙ ap (λ z. w.w *ℤ z) (sym g)
      ∙ solve (w.w ∷ spread p q q ∷ c ∷ []) (var 0 ⊗ (var 1 ⊗ var 2)) (var 1 ⊗ (var 0 ⊗ var 2)) refl)

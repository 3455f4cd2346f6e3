-- A place strictly between two points and strictly between two others: where all distances of the four are
-- those of four other points, times a number, those have a common place with the same weights.
use Rattle.std.proofs.Common.{◌≡◌, ℕ, ◌+◌, ◌<◌, refl, sym, ◌∙◌, ap, arith, ℤ, pos, negsuc, ◌+ℤ◌, ◌-ℤ◌, ◌*ℤ◌, ◌<ℤ◌, [], ◌∷◌}
use Rattle.std.proofs.lemmas.Int.{ints}
use Rattle.ff_whole.specs.declared.points.Pt.{Pt}
use Rattle.ff_whole.specs.declared.places.Place.{Place}
use Rattle.ff_whole.specs.Points.{minus, dot, mix}
use Rattle.ff_whole.specs.Places.{past}
use Rattle.ff_whole.proofs.Formulas.{PointE, point_e, point_env, dot_e}
use Rattle.ff_whole.proofs.Ring.{var, num, ◌⊕◌, ◌⊖◌, ◌⊗◌, solve, solve_from}
use Rattle.ff_whole.proofs.Signs.{linear, by_sign, pos-mul, square_nonneg, square_pos, zero_from_mul}
use Rattle.ff_whole.proofs.Offsets.{past-sum}
use Rattle.ff_whole.proofs.OnEdges.{IsOn, on-x, on-y}
use Rattle.ff_whole.proofs.Alongs.{IsBetween}
use Rattle.ff_types.specs.Foldings.{spread}

-- b times the first, less c times the second and e times the third
abbrev off_by : ℤ → ℤ → ℤ → Pt → Pt → Pt → Pt
off_by b c e u v w = record { x = b *ℤ u.x -ℤ (c *ℤ v.x +ℤ e *ℤ w.x); y = b *ℤ u.y -ℤ (c *ℤ v.y +ℤ e *ℤ w.y) }

-- its square, from the products of the three
abbrev square_of : ℤ → ℤ → ℤ → ℤ → ℤ → ℤ → ℤ → ℤ → ℤ → ℤ
square_of b c e uu vv ww uv uw vw =
    b *ℤ b *ℤ uu +ℤ c *ℤ c *ℤ vv +ℤ e *ℤ e *ℤ ww +ℤ pos 2 *ℤ (c *ℤ e *ℤ vw) -ℤ pos 2 *ℤ (b *ℤ c *ℤ uv) -ℤ pos
    2 *ℤ (b *ℤ e *ℤ uw)

square_is : (b c e : ℤ) (u v w : Pt)
    → dot (off_by b c e u v w) (off_by b c e u v w) ≡ square_of b c e (dot u u) (dot v v) (dot w w) (dot u v)
    (dot u w) (dot v w)
square_is b c e u v w =
    let u' = point_e 3 in let v' = point_e 5 in let w' = point_e 7 in
    let o' : PointE = record {
      x = var 0 ⊗ u'.x ⊖ (var 1 ⊗ v'.x ⊕ var 2 ⊗ w'.x);
      y = var 0 ⊗ u'.y
          ⊖ (var 1 ⊗ v'.y ⊕ var 2 ⊗ w'.y);
    } in
    solve (b ∷ c ∷ e ∷ point_env u (point_env v (point_env w []))) (dot_e o' o')
    (var 0 ⊗ var 0 ⊗ dot_e u' u' ⊕ var 1 ⊗ var 1 ⊗ dot_e v' v' ⊕ var 2 ⊗ var 2 ⊗ dot_e w' w' ⊕ num (pos 2)
    ⊗ (var 1 ⊗ var 2 ⊗ dot_e v' w') ⊖ num (pos 2) ⊗ (var 0 ⊗ var 1 ⊗ dot_e u' v') ⊖ num (pos 2)
    ⊗ (var 0 ⊗ var 2 ⊗ dot_e u' w')) refl

square_scaled : (d b c e uu vv ww uv uw vw : ℤ)
    → square_of b c e (d *ℤ uu) (d *ℤ vv) (d *ℤ ww) (d *ℤ uv) (d *ℤ uw) (d *ℤ vw) ≡ d *ℤ square_of b c e uu vv
    ww uv uw vw
square_scaled d b c e uu vv ww uv uw vw =
    let d' = var 9 in
    solve (b ∷ c ∷ e ∷ uu ∷ vv ∷ ww ∷ uv ∷ uw ∷ vw ∷ d ∷ [])
    (var 0 ⊗ var 0 ⊗ (d' ⊗ var 3) ⊕ var 1 ⊗ var 1 ⊗ (d' ⊗ var 4) ⊕ var 2 ⊗ var 2 ⊗ (d' ⊗ var 5) ⊕ num (pos 2)
    ⊗ (var 1 ⊗ var 2 ⊗ (d' ⊗ var 8)) ⊖ num (pos 2) ⊗ (var 0 ⊗ var 1 ⊗ (d' ⊗ var 6)) ⊖ num (pos 2)
    ⊗ (var 0 ⊗ var 2 ⊗ (d' ⊗ var 7)))
    (d' ⊗ (var 0 ⊗ var 0 ⊗ var 3 ⊕ var 1 ⊗ var 1 ⊗ var 4 ⊕ var 2 ⊗ var 2 ⊗ var 5 ⊕ num (pos 2)
    ⊗ (var 1 ⊗ var 2 ⊗ var 8) ⊖ num (pos 2) ⊗ (var 0 ⊗ var 1 ⊗ var 6) ⊖ num (pos 2)
    ⊗ (var 0 ⊗ var 2 ⊗ var 7))) refl

-- six equal numbers give equal squares
squares_equal : (b c e uu vv ww uv uw vw uu' vv' ww' uv' uw' vw' : ℤ) → uu ≡ uu' → vv ≡ vv' → ww ≡ ww'
    → uv ≡ uv' → uw ≡ uw' → vw ≡ vw'
    → square_of b c e uu vv ww uv uw vw ≡ square_of b c e uu' vv' ww' uv' uw' vw'
squares_equal b c e uu vv ww uv uw vw uu' vv' ww' uv' uw' vw' p q r s t u =
    ap (λ z. square_of b c e z vv ww uv uw vw) p
    ∙ (ap (λ z. square_of b c e uu' z ww uv uw vw) q ∙ (ap (λ z. square_of b c e uu' vv' z uv uw vw) r
    ∙ (ap (λ z. square_of b c e uu' vv' ww' z uw vw) s
    ∙ (ap (λ z. square_of b c e uu' vv' ww' uv' z vw) t
    ∙ ap (λ z. square_of b c e uu' vv' ww' uv' uw' z) u))))

-- a direction of length 0
none : (u : Pt) → dot u u ≡ pos 0 → (u.x ≡ pos 0) × (u.y ≡ pos 0)
none u e =
    let a = square_nonneg u.x in
    let b = square_nonneg u.y in (
      by_sign u.x (λ l. let p = square_pos u.x (λ z. omega (arith, linear)) in absurd (omega (arith, linear)))
          (λ z. z) (λ l. let p = square_pos u.x (λ z. omega (arith, linear)) in
          absurd (omega (arith, linear))),
      by_sign u.y (λ l. let p = square_pos u.y (λ z. omega (arith, linear)) in absurd (omega (arith, linear)))
          (λ z. z) (λ l. let p = square_pos u.y (λ z. omega (arith, linear)) in
          absurd (omega (arith, linear))),
    )

-- a positive number as one that counts
counted : (z : ℤ) → pos 0 <ℤ z → (n : ℕ) × (0 < n) × (z ≡ pos n)
counted (pos n) h = (n, omega (arith, ints, h), refl)
counted (negsuc n) h = absurd (omega (arith, ints, h))

-- the weights of the four points
pub record HaveCommon (p q r s : Pt) : Type 0 where
  pub a : ℕ
  pub b : ℕ
  pub c : ℕ
  pub e : ℕ
  pub a_some : 0 < a
  pub b_some : 0 < b
  pub sums : a + b ≡ c + e
  pub same : mix a p b q ≡ mix c r e s

-- times a number, the first three points have the products of the others, from the first of each
pub record AreKept (d : ℤ) (p q r s u v w z : Pt) : Type 0 where
  pub qq : spread u v v ≡ d *ℤ spread p q q
  pub rr : spread u w w ≡ d *ℤ spread p r r
  pub ss : spread u z z ≡ d *ℤ spread p s s
  pub qr : spread u v w ≡ d *ℤ spread p q r
  pub qs : spread u v z ≡ d *ℤ spread p q s
  pub rs : spread u w z ≡ d *ℤ spread p r s

-- weights with one sum that vanish from the images' first point, in one coordinate
off_zero : (a b c e u v w z : ℤ) → a +ℤ b ≡ c +ℤ e → a *ℤ u +ℤ b *ℤ v ≡ c *ℤ w +ℤ e *ℤ z
    → b *ℤ (v -ℤ u) -ℤ (c *ℤ (w -ℤ u) +ℤ e *ℤ (z -ℤ u)) ≡ pos 0
off_zero a b c e u v w z h k =
    let h0 : a +ℤ b -ℤ (c +ℤ e) ≡ pos 0 = omega (arith, linear) in
    let k0 : a *ℤ u +ℤ b *ℤ v -ℤ (c *ℤ w +ℤ e *ℤ z) ≡ pos 0 = omega (arith, linear) in
    solve_from (a ∷ b ∷ c ∷ e ∷ u ∷ v ∷ w ∷ z ∷ [])
    (record { by = num (negsuc 0) ⊗ var 4; zero = var 0 ⊕ var 1 ⊖ (var 2 ⊕ var 3) } ∷
    record { by = num (pos 1); zero = var 0 ⊗ var 4 ⊕ var 1 ⊗ var 5 ⊖ (var 2 ⊗ var 6 ⊕ var 3 ⊗ var 7) } ∷
    [])
    (var 1 ⊗ (var 5 ⊖ var 4) ⊖ (var 2 ⊗ (var 6 ⊖ var 4) ⊕ var 3 ⊗ (var 7 ⊖ var 4))) (num (pos 0)) refl
    (h0, (k0, tt))

-- and back
weighed_same : (a b c e p q r s : ℤ) → a +ℤ b ≡ c +ℤ e
    → b *ℤ (q -ℤ p) -ℤ (c *ℤ (r -ℤ p) +ℤ e *ℤ (s -ℤ p)) ≡ pos 0 → a *ℤ p +ℤ b *ℤ q ≡ c *ℤ r +ℤ e *ℤ s
weighed_same a b c e p q r s h k =
    let h0 : a +ℤ b -ℤ (c +ℤ e) ≡ pos 0 = omega (arith, linear) in
    solve_from (a ∷ b ∷ c ∷ e ∷ p ∷ q ∷ r ∷ s ∷ [])
    (record { by = var 4; zero = var 0 ⊕ var 1 ⊖ (var 2 ⊕ var 3) } ∷
    record {
      by = num (pos 1);
      zero = var 1 ⊗ (var 5 ⊖ var 4)
          ⊖ (var 2 ⊗ (var 6 ⊖ var 4) ⊕ var 3 ⊗ (var 7 ⊖ var 4));
    } ∷ [])
    (var 0 ⊗ var 4 ⊕ var 1 ⊗ var 5) (var 2 ⊗ var 6 ⊕ var 3 ⊗ var 7) refl (h0, (k, tt))

-- d1 x is weighed by a and b, d2 x by c and e
one_sum : (d1 d2 x a b c e u v w z : ℤ) → d1 *ℤ x ≡ b *ℤ v +ℤ a *ℤ u → d2 *ℤ x ≡ e *ℤ z +ℤ c *ℤ w
    → (a *ℤ d2) *ℤ u +ℤ (b *ℤ d2) *ℤ v ≡ (c *ℤ d1) *ℤ w +ℤ (e *ℤ d1) *ℤ z
one_sum d1 d2 x a b c e u v w z h k =
    let h0 : d1 *ℤ x -ℤ (b *ℤ v +ℤ a *ℤ u) ≡ pos 0 = omega (arith, linear) in
    let k0 : d2 *ℤ x -ℤ (e *ℤ z +ℤ c *ℤ w) ≡ pos 0 = omega (arith, linear) in
    solve_from (d1 ∷ d2 ∷ x ∷ a ∷ b ∷ c ∷ e ∷ u ∷ v ∷ w ∷ z ∷ [])
    (record { by = num (negsuc 0) ⊗ var 1; zero = var 0 ⊗ var 2 ⊖ (var 4 ⊗ var 8 ⊕ var 3 ⊗ var 7) } ∷
    record { by = var 0; zero = var 1 ⊗ var 2 ⊖ (var 6 ⊗ var 10 ⊕ var 5 ⊗ var 9) } ∷ [])
    ((var 3 ⊗ var 1) ⊗ var 7 ⊕ (var 4 ⊗ var 1) ⊗ var 8) ((var 5 ⊗ var 0) ⊗ var 9 ⊕ (var 6 ⊗ var 0) ⊗ var 10)
    refl (h0, (k0, tt))

one_weight : (d1 d2 w a b c e : ℤ) → b +ℤ a ≡ d1 *ℤ w → e +ℤ c ≡ d2 *ℤ w
    → a *ℤ d2 +ℤ b *ℤ d2 ≡ c *ℤ d1 +ℤ e *ℤ d1
one_weight d1 d2 w a b c e h k =
    let h0 : b +ℤ a -ℤ d1 *ℤ w ≡ pos 0 = omega (arith, linear) in
    let k0 : e +ℤ c -ℤ d2 *ℤ w ≡ pos 0 = omega (arith, linear) in
    solve_from (d1 ∷ d2 ∷ w ∷ a ∷ b ∷ c ∷ e ∷ [])
    (record { by = var 1; zero = var 4 ⊕ var 3 ⊖ var 0 ⊗ var 2 } ∷
    record { by = num (negsuc 0) ⊗ var 0; zero = var 6 ⊕ var 5 ⊖ var 1 ⊗ var 2 } ∷ [])
    (var 3 ⊗ var 1 ⊕ var 4 ⊗ var 1) (var 5 ⊗ var 0 ⊕ var 6 ⊗ var 0) refl (h0, (k0, tt))

is_on : (p q : Pt) (m : Place) → IsBetween p q m → IsOn p q m
is_on p q m b = let on = b.on in let after = b.after in let before =
    b.before in record { on = on; after = omega (arith, linear); before = omega (arith, linear) }

module _ (d : ℤ) (positive : pos 0 <ℤ d) (p q r s u v w z : Pt) (kept : AreKept d p q r s u v w z) (m : Place)
    (first : IsBetween u v m) (second : IsBetween w z m)
    (long : pos 0 <ℤ dot (minus v u) (minus v u)) (long_too : pos 0 <ℤ dot (minus z w) (minus z w)) where
  abbrev d1 : ℤ
  d1 = dot (minus v u) (minus v u)

  abbrev d2 : ℤ
  d2 = dot (minus z w) (minus z w)

  abbrev a : ℤ
  a = past v u m *ℤ d2

  abbrev b : ℤ
  b = past u v m *ℤ d2

  abbrev c : ℤ
  c = past z w m *ℤ d1

  abbrev e : ℤ
  e = past w z m *ℤ d1

  sums : a +ℤ b ≡ c +ℤ e
  sums = one_weight d1 d2 m.w (past v u m) (past u v m) (past z w m) (past w z m) (past-sum u v m)
      (past-sum w z m)

  images_x : a *ℤ u.x +ℤ b *ℤ v.x ≡ c *ℤ w.x +ℤ e *ℤ z.x
  images_x = one_sum d1 d2 m.x (past v u m) (past u v m) (past z w m) (past w z m) u.x v.x w.x z.x
      (on-x u v m (is_on u v m first)) (on-x w z m (is_on w z m second))

  images_y : a *ℤ u.y +ℤ b *ℤ v.y ≡ c *ℤ w.y +ℤ e *ℤ z.y
  images_y = one_sum d1 d2 m.y (past v u m) (past u v m) (past z w m) (past w z m) u.y v.y w.y z.y
      (on-y u v m (is_on u v m first)) (on-y w z m (is_on w z m second))

  -- from the first point, the images' weights vanish
  abbrev image_off : Pt
  image_off = off_by b c e (minus v u) (minus w u) (minus z u)

  abbrev drawn_off : Pt
  drawn_off = off_by b c e (minus q p) (minus r p) (minus s p)

  image_none : dot image_off image_off ≡ pos 0
  image_none =
      let x = off_zero a b c e u.x v.x w.x z.x sums images_x in
      let y = off_zero a b c e u.y v.y w.y z.y sums images_y in
      ap (λ k. k *ℤ k +ℤ image_off.y *ℤ image_off.y) x ∙ ap (λ k. pos 0 *ℤ pos 0 +ℤ k *ℤ k) y

  -- and so do those of the points as they were drawn
  drawn_none : dot drawn_off drawn_off ≡ pos 0
  drawn_none = zero_from_mul d (dot drawn_off drawn_off) positive (
      ap (λ k. d *ℤ k) (square_is b c e (minus q p) (minus r p) (minus s p))
      ∙ (sym (square_scaled d b c e (spread p q q) (spread p r r) (spread p s s) (spread p q r) (spread p q s)
      (spread p r s))
      ∙ (squares_equal b c e _ _ _ _ _ _ _ _ _ _ _ _ (sym kept.qq) (sym kept.rr) (sym kept.ss) (sym kept.qr)
      (sym kept.qs) (sym kept.rs)
      ∙ (sym (square_is b c e (minus v u) (minus w u) (minus z u)) ∙ image_none))))

  pub common : HaveCommon p q r s
  common =
      let fb = first.before in let fa = first.after in let sb = second.before in let sa = second.after in
      let na = counted a (pos-mul (past v u m) d2 fb long_too) in
      let nb = counted b (pos-mul (past u v m) d2 fa long_too) in
      let nc = counted c (pos-mul (past z w m) d1 sb long) in
      let ne = counted e (pos-mul (past w z m) d1 sa long) in
      let off = none drawn_off drawn_none in
      let x = weighed_same a b c e p.x q.x r.x s.x sums off.0 in
      let y = weighed_same a b c e p.y q.y r.y s.y sums off.1 in
      record {
        a = na.0;
        b = nb.0;
        c = nc.0;
        e = ne.0;
        a_some = na.1;
        b_some = nb.1;
        sums = added na.0 nb.0 nc.0 ne.0 (sym (ap (λ k. k +ℤ b) na.2 ∙ ap (λ k. pos na.0 +ℤ k) nb.2)
            ∙ (sums ∙ (ap (λ k. k +ℤ e) nc.2 ∙ ap (λ k. pos nc.0 +ℤ k) ne.2)));
        same = points (weigh na.0 nb.0 nc.0 ne.0 p.x q.x r.x s.x na.2 nb.2 nc.2 ne.2 x)
            (weigh na.0 nb.0 nc.0 ne.0 p.y q.y r.y s.y na.2 nb.2 nc.2 ne.2 y);
      }
    where
      added : (k l m n : ℕ) → pos k +ℤ pos l ≡ pos m +ℤ pos n → k + l ≡ m + n
      added k l m n h = omega (arith, ints, h)

      weigh : (k l m n : ℕ) (t1 t2 t3 t4 : ℤ) → a ≡ pos k → b ≡ pos l → c ≡ pos m → e ≡ pos n
          → a *ℤ t1 +ℤ b *ℤ t2 ≡ c *ℤ t3 +ℤ e *ℤ t4 → pos k *ℤ t1 +ℤ pos l *ℤ t2 ≡ pos m *ℤ t3 +ℤ pos n *ℤ t4
      weigh k l m n t1 t2 t3 t4 ha hb hc he g =
          sym (ap (λ i. i *ℤ t1 +ℤ b *ℤ t2) ha ∙ ap (λ i. pos k *ℤ t1 +ℤ i *ℤ t2) hb)
          ∙ (g ∙ (ap (λ i. i *ℤ t3 +ℤ e *ℤ t4) hc ∙ ap (λ i. pos m *ℤ t3 +ℤ i *ℤ t4) he))

      points : {x y x' y' : ℤ} → x ≡ x' → y ≡ y'
          → ◌≡◌ {A = Pt} (record { x = x; y = y }) (record { x = x'; y = y' })
      points f g = λ i. record { x = f i; y = g i }

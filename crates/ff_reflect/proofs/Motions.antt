-- Faces are carried by motions: each is its parent's, followed by the reflection in their edge where it is folded.
use Rattle.std.proofs.Common.{◌≡◌, arith, refl, sym, ap, ◌∙◌, true, false, Bool, [], ◌∷◌, IsTrue, ℤ, pos, negsuc, ◌+ℤ◌, ◌-ℤ◌, ◌*ℤ◌, ◌<ℤ◌}
use lib.IntN.{neg_ℤ}
use Rattle.ff_whole.proofs.Ring.{var, num, ◌⊕◌, ◌⊖◌, ◌⊗◌, opp, solve, solve_from}
use Rattle.ff_whole.proofs.Formulas.{point_e, point_env}
use Rattle.ff_whole.proofs.Signs.{linear, pos-mul}
use Rattle.ff_whole.proofs.Laws.{one-*ℤ, minus_one-*ℤ}
use Rattle.ff_whole.specs.declared.points.Pt.{Pt}
use Rattle.ff_whole.specs.declared.places.Place.{Place}
use Rattle.ff_whole.specs.Points.{minus, dot, cross}
use Rattle.ff_whole.specs.Places.{same_place}
use Rattle.ff_types.specs.Foldings.{signed, spread}
use Rattle.ff_types.specs.Carrying.{between, KeepShape}
use Rattle.ff_reflect.proofs.Foldings.{equal_test, both_true}

-- A motion of the plane, and a turning over where g is -1: (x, y) goes to (c x - g s y + a, s x + g c y + b) / n.
pub record Motion : Type 0 where
  pub c : ℤ
  pub s : ℤ
  pub g : ℤ
  pub a : ℤ
  pub b : ℤ
  pub n : ℤ

pub record IsMotion (m : Motion) : Type 0 where
  pub positive : pos 0 <ℤ m.n
  pub length_is : (m.c *ℤ m.c) +ℤ (m.s *ℤ m.s) ≡ m.n *ℤ m.n
  pub side : m.g *ℤ m.g ≡ pos 1

abbrev pub carry : Motion → Pt → Place
carry m p = record {
  x = ((m.c *ℤ p.x) -ℤ ((m.g *ℤ m.s) *ℤ p.y)) +ℤ m.a;
  y = ((m.s *ℤ p.x) +ℤ ((m.g *ℤ m.c) *ℤ p.y)) +ℤ m.b;
  w = m.n;
}

abbrev pub still : Motion
still = record { c = pos 1; s = pos 0; g = pos 1; a = pos 0; b = pos 0; n = pos 1 }

-- the turning over of a flag
abbrev pub side_of : Bool → ℤ
side_of true = pos 1
side_of false = negsuc 0

signed-side : (up : Bool) (z : ℤ) → side_of up *ℤ z ≡ signed up z
signed-side true z = one-*ℤ z
signed-side false z = minus_one-*ℤ z

-- ---- motions keep shapes

-- variables: c s g a b n, then p q r
pub motion_shape : (m : Motion) → IsMotion m → (up : Bool) → m.g ≡ side_of up → (p q r : Pt) → KeepShape up p q r (carry m p) (carry m q) (carry m r)
motion_shape m h up e p q r =
    let z1 : ((m.c *ℤ m.c) +ℤ (m.s *ℤ m.s)) -ℤ (m.n *ℤ m.n) ≡ pos 0 = (let f = h.length_is in omega (arith, linear)) in
    let z2 : (m.g *ℤ m.g) -ℤ pos 1 ≡ pos 0 = (let f = h.side in omega (arith, linear)) in
    let d = minus q p in
    let f = minus r p in
    let env = m.c ∷ m.s ∷ m.g ∷ m.n ∷ point_env d (point_env f []) in
    let d' = point_e 4 in let f' = point_e 6 in
    let image = λ (u v : Pt). between (carry m u) (carry m v) in
    let way_x : (v : Pt) → (image p v).x ≡ m.n *ℤ ((m.c *ℤ (v.x -ℤ p.x)) -ℤ ((m.g *ℤ m.s) *ℤ (v.y -ℤ p.y))) =
    λ v. solve (m.c ∷ m.s ∷ m.g ∷ m.n ∷ point_env p (point_env v (m.a ∷ [])))
    (((var 0 ⊗ var 6 ⊖ (var 2 ⊗ var 1) ⊗ var 7) ⊕ var 8) ⊗ var 3 ⊖ ((var 0 ⊗ var 4 ⊖ (var 2 ⊗ var 1) ⊗ var 5) ⊕ var 8) ⊗ var 3)
    (var 3 ⊗ (var 0 ⊗ (var 6 ⊖ var 4) ⊖ (var 2 ⊗ var 1) ⊗ (var 7 ⊖ var 5))) refl in
    let way_y : (v : Pt) → (image p v).y ≡ m.n *ℤ ((m.s *ℤ (v.x -ℤ p.x)) +ℤ ((m.g *ℤ m.c) *ℤ (v.y -ℤ p.y))) =
    λ v. solve (m.c ∷ m.s ∷ m.g ∷ m.n ∷ point_env p (point_env v (m.b ∷ [])))
    (((var 1 ⊗ var 6 ⊕ (var 2 ⊗ var 0) ⊗ var 7) ⊕ var 8) ⊗ var 3 ⊖ ((var 1 ⊗ var 4 ⊕ (var 2 ⊗ var 0) ⊗ var 5) ⊕ var 8) ⊗ var 3)
    (var 3 ⊗ (var 1 ⊗ (var 6 ⊖ var 4) ⊕ (var 2 ⊗ var 0) ⊗ (var 7 ⊖ var 5))) refl in
    let moved : Pt → Pt = λ v. record { x = m.n *ℤ ((m.c *ℤ (v.x -ℤ p.x)) -ℤ ((m.g *ℤ m.s) *ℤ (v.y -ℤ p.y))); y = m.n *ℤ ((m.s *ℤ (v.x -ℤ p.x)) +ℤ ((m.g *ℤ m.c) *ℤ (v.y -ℤ p.y))) } in
    let way : (v : Pt) → image p v ≡ moved v = λ v. (let x = way_x v in let y = way_y v in λ i. record { x = x i; y = y i }) in
    record {
      dots = ap (λ z. dot z (image p r)) (way q) ∙ ap (λ z. dot (moved q) z) (way r)
          ∙ solve_from env (record { by = (var 3 ⊗ var 3) ⊗ (d'.x ⊗ f'.x ⊕ (var 2 ⊗ var 2) ⊗ (d'.y ⊗ f'.y)); zero = (var 0 ⊗ var 0 ⊕ var 1 ⊗ var 1) ⊖ var 3 ⊗ var 3 }
          ∷ record { by = ((var 3 ⊗ var 3) ⊗ (var 3 ⊗ var 3)) ⊗ (d'.y ⊗ f'.y); zero = var 2 ⊗ var 2 ⊖ num (pos 1) } ∷ [])
          ((var 3 ⊗ (var 0 ⊗ d'.x ⊖ (var 2 ⊗ var 1) ⊗ d'.y)) ⊗ (var 3 ⊗ (var 0 ⊗ f'.x ⊖ (var 2 ⊗ var 1) ⊗ f'.y))
          ⊕ (var 3 ⊗ (var 1 ⊗ d'.x ⊕ (var 2 ⊗ var 0) ⊗ d'.y)) ⊗ (var 3 ⊗ (var 1 ⊗ f'.x ⊕ (var 2 ⊗ var 0) ⊗ f'.y)))
          (((var 3 ⊗ var 3) ⊗ (var 3 ⊗ var 3)) ⊗ (d'.x ⊗ f'.x ⊕ d'.y ⊗ f'.y)) refl (z1, (z2, tt));
      crosses = ap (λ z. cross z (image p r)) (way q) ∙ ap (λ z. cross (moved q) z) (way r)
          ∙ solve_from env (record { by = (var 3 ⊗ var 3) ⊗ (var 2 ⊗ (d'.x ⊗ f'.y ⊖ d'.y ⊗ f'.x)); zero = (var 0 ⊗ var 0 ⊕ var 1 ⊗ var 1) ⊖ var 3 ⊗ var 3 } ∷ [])
          ((var 3 ⊗ (var 0 ⊗ d'.x ⊖ (var 2 ⊗ var 1) ⊗ d'.y)) ⊗ (var 3 ⊗ (var 1 ⊗ f'.x ⊕ (var 2 ⊗ var 0) ⊗ f'.y))
          ⊖ (var 3 ⊗ (var 1 ⊗ d'.x ⊕ (var 2 ⊗ var 0) ⊗ d'.y)) ⊗ (var 3 ⊗ (var 0 ⊗ f'.x ⊖ (var 2 ⊗ var 1) ⊗ f'.y)))
          (var 2 ⊗ (((var 3 ⊗ var 3) ⊗ (var 3 ⊗ var 3)) ⊗ (d'.x ⊗ f'.y ⊖ d'.y ⊗ f'.x))) refl (z1, tt)
          ∙ ap (λ z. z *ℤ (((m.n *ℤ m.n) *ℤ (m.n *ℤ m.n)) *ℤ cross d f)) e ∙ signed-side up _;
    }

-- ---- the reflection in an edge

-- its turn: the difference of the squares of the way from p to q, and twice their product
abbrev along : Pt → Pt → ℤ
along p q = ((q.x -ℤ p.x) *ℤ (q.x -ℤ p.x)) -ℤ ((q.y -ℤ p.y) *ℤ (q.y -ℤ p.y))

abbrev aside : Pt → Pt → ℤ
aside p q = pos 2 *ℤ ((q.x -ℤ p.x) *ℤ (q.y -ℤ p.y))

abbrev turned_c : Pt → Pt → Motion → ℤ
turned_c p q m = (m.c *ℤ along p q) -ℤ ((m.g *ℤ m.s) *ℤ aside p q)

abbrev turned_s : Pt → Pt → Motion → ℤ
turned_s p q m = (m.s *ℤ along p q) +ℤ ((m.g *ℤ m.c) *ℤ aside p q)

-- the motion, followed by the reflection in the image of the line from p to q
abbrev pub reflected : Pt → Pt → Motion → Motion
reflected p q m = record {
  c = turned_c p q m;
  s = turned_s p q m;
  g = neg_ℤ m.g;
  a = (spread p q q *ℤ (carry m p).x) -ℤ ((turned_c p q m *ℤ p.x) -ℤ ((neg_ℤ m.g *ℤ turned_s p q m) *ℤ p.y));
  b = (spread p q q *ℤ (carry m p).y) -ℤ ((turned_s p q m *ℤ p.x) +ℤ ((neg_ℤ m.g *ℤ turned_c p q m) *ℤ p.y));
  n = spread p q q *ℤ m.n;
}

pub reflected_is : (p q : Pt) (m : Motion) → pos 0 <ℤ spread p q q → IsMotion m → IsMotion (reflected p q m)
reflected_is p q m h k =
    let z1 : ((m.c *ℤ m.c) +ℤ (m.s *ℤ m.s)) -ℤ (m.n *ℤ m.n) ≡ pos 0 = (let f = k.length_is in omega (arith, linear)) in
    let z2 : (m.g *ℤ m.g) -ℤ pos 1 ≡ pos 0 = (let f = k.side in omega (arith, linear)) in
    let x = var 4 in let y = var 5 in
    let a' = x ⊗ x ⊖ y ⊗ y in let b' = num (pos 2) ⊗ (x ⊗ y) in
    let n' = x ⊗ x ⊕ y ⊗ y in
    let c' = var 0 ⊗ a' ⊖ (var 2 ⊗ var 1) ⊗ b' in let s' = var 1 ⊗ a' ⊕ (var 2 ⊗ var 0) ⊗ b' in
    record {
      positive = pos-mul (spread p q q) m.n h k.positive;
      length_is = solve_from (m.c ∷ m.s ∷ m.g ∷ m.n ∷ (q.x -ℤ p.x) ∷ (q.y -ℤ p.y) ∷ [])
          (record { by = n' ⊗ n'; zero = (var 0 ⊗ var 0 ⊕ var 1 ⊗ var 1) ⊖ var 3 ⊗ var 3 }
          ∷ record { by = (var 0 ⊗ var 0 ⊕ var 1 ⊗ var 1) ⊗ (b' ⊗ b'); zero = var 2 ⊗ var 2 ⊖ num (pos 1) } ∷ [])
          (c' ⊗ c' ⊕ s' ⊗ s') ((n' ⊗ var 3) ⊗ (n' ⊗ var 3)) refl (z1, (z2, tt));
      side = solve (m.g ∷ []) (opp (var 0) ⊗ opp (var 0)) (var 0 ⊗ var 0) refl ∙ k.side;
    }

-- both ends of the edge stay where they were
first_stays : (t c s g a x y : ℤ) → ((c *ℤ x -ℤ (g *ℤ s) *ℤ y) +ℤ (t *ℤ a -ℤ (c *ℤ x -ℤ (g *ℤ s) *ℤ y))) ≡ t *ℤ a
first_stays t c s g a x y = solve (t ∷ c ∷ s ∷ g ∷ a ∷ x ∷ y ∷ [])
    ((var 1 ⊗ var 5 ⊖ (var 3 ⊗ var 2) ⊗ var 6) ⊕ (var 0 ⊗ var 4 ⊖ (var 1 ⊗ var 5 ⊖ (var 3 ⊗ var 2) ⊗ var 6))) (var 0 ⊗ var 4) refl

first_stays_y : (t c s g a x y : ℤ) → ((s *ℤ x +ℤ (g *ℤ c) *ℤ y) +ℤ (t *ℤ a -ℤ (s *ℤ x +ℤ (g *ℤ c) *ℤ y))) ≡ t *ℤ a
first_stays_y t c s g a x y = solve (t ∷ c ∷ s ∷ g ∷ a ∷ x ∷ y ∷ [])
    ((var 2 ⊗ var 5 ⊕ (var 3 ⊗ var 1) ⊗ var 6) ⊕ (var 0 ⊗ var 4 ⊖ (var 2 ⊗ var 5 ⊕ (var 3 ⊗ var 1) ⊗ var 6))) (var 0 ⊗ var 4) refl

scaled_same : (s t : Place) (n : ℤ) → s.x ≡ n *ℤ t.x → s.y ≡ n *ℤ t.y → s.w ≡ n *ℤ t.w → IsTrue (same_place s t)
scaled_same s t n ex ey ew = both_true _ _ (equal_test _ _ (go s.x t.x ex)) (equal_test _ _ (go s.y t.y ey)) where
  go : (x y : ℤ) → x ≡ n *ℤ y → x *ℤ t.w ≡ y *ℤ s.w
  go x y e = ap (λ z. z *ℤ t.w) e ∙ solve (n ∷ y ∷ t.w ∷ []) ((var 0 ⊗ var 1) ⊗ var 2) (var 1 ⊗ (var 0 ⊗ var 2)) refl ∙ ap (λ z. y *ℤ z) (sym ew)

pub reflected_first : (p q : Pt) (m : Motion) → IsTrue (same_place (carry (reflected p q m) p) (carry m p))
reflected_first p q m = scaled_same _ _ (spread p q q)
    (first_stays (spread p q q) (turned_c p q m) (turned_s p q m) (neg_ℤ m.g) (carry m p).x p.x p.y)
    (first_stays_y (spread p q q) (turned_c p q m) (turned_s p q m) (neg_ℤ m.g) (carry m p).y p.x p.y) refl

-- variables: c s g a, then p and the way from p to q
pub reflected_second : (p q : Pt) (m : Motion) → IsMotion m → IsTrue (same_place (carry (reflected p q m) q) (carry m q))
reflected_second p q m k = scaled_same _ _ (spread p q q) in_x in_y refl where
  z2 : (m.g *ℤ m.g) -ℤ pos 1 ≡ pos 0
  z2 = let f = k.side in omega (arith, linear)

  in_x : (carry (reflected p q m) q).x ≡ spread p q q *ℤ (carry m q).x
  in_x =
      let p' = point_e 4 in let q' = point_e 6 in
      let x = q'.x ⊖ p'.x in let y = q'.y ⊖ p'.y in
      let a' = x ⊗ x ⊖ y ⊗ y in let b' = num (pos 2) ⊗ (x ⊗ y) in
      let n' = x ⊗ x ⊕ y ⊗ y in
      let c' = var 0 ⊗ a' ⊖ (var 2 ⊗ var 1) ⊗ b' in let s' = var 1 ⊗ a' ⊕ (var 2 ⊗ var 0) ⊗ b' in
      solve_from (m.c ∷ m.s ∷ m.g ∷ m.a ∷ point_env p (point_env q [])) (record { by = var 0 ⊗ (b' ⊗ y); zero = var 2 ⊗ var 2 ⊖ num (pos 1) } ∷ [])
      ((c' ⊗ q'.x ⊖ (opp (var 2) ⊗ s') ⊗ q'.y) ⊕ (n' ⊗ ((var 0 ⊗ p'.x ⊖ (var 2 ⊗ var 1) ⊗ p'.y) ⊕ var 3) ⊖ (c' ⊗ p'.x ⊖ (opp (var 2) ⊗ s') ⊗ p'.y)))
      (n' ⊗ ((var 0 ⊗ q'.x ⊖ (var 2 ⊗ var 1) ⊗ q'.y) ⊕ var 3)) refl (z2, tt)

  in_y : (carry (reflected p q m) q).y ≡ spread p q q *ℤ (carry m q).y
  in_y =
      let p' = point_e 4 in let q' = point_e 6 in
      let x = q'.x ⊖ p'.x in let y = q'.y ⊖ p'.y in
      let a' = x ⊗ x ⊖ y ⊗ y in let b' = num (pos 2) ⊗ (x ⊗ y) in
      let n' = x ⊗ x ⊕ y ⊗ y in
      let c' = var 0 ⊗ a' ⊖ (var 2 ⊗ var 1) ⊗ b' in let s' = var 1 ⊗ a' ⊕ (var 2 ⊗ var 0) ⊗ b' in
      solve_from (m.c ∷ m.s ∷ m.g ∷ m.b ∷ point_env p (point_env q [])) (record { by = var 1 ⊗ (b' ⊗ y); zero = var 2 ⊗ var 2 ⊖ num (pos 1) } ∷ [])
      ((s' ⊗ q'.x ⊕ (opp (var 2) ⊗ c') ⊗ q'.y) ⊕ (n' ⊗ ((var 1 ⊗ p'.x ⊕ (var 2 ⊗ var 0) ⊗ p'.y) ⊕ var 3) ⊖ (s' ⊗ p'.x ⊕ (opp (var 2) ⊗ c') ⊗ p'.y)))
      (n' ⊗ ((var 1 ⊗ q'.x ⊕ (var 2 ⊗ var 0) ⊗ q'.y) ⊕ var 3)) refl (z2, tt)

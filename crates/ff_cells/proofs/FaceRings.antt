-- The bars of convex rings are those of faces.
use Rattle.std.proofs.Common.{ℕ, ◌≡◌, ◌≢◌, ◌⊎◌, inl, inr, ◌<◌, [], ◌∷◌, arith, refl, sym, ap, subst, ◌∙◌, ℤ, pos, ◌-ℤ◌, ◌*ℤ◌, ◌+ℤ◌, ◌<ℤ◌, ◌≤ℤ◌, true, false, true≢false}
use Rattle.std.specs.Prelude.{if◌then◌else◌}
use lib.IntN.{neg_ℤ}
use Rattle.ff_whole.proofs.Formulas.{point_e, point_env, place_e, place_env, through_e, height_e}
use Rattle.ff_whole.proofs.Ring.{var, num, ◌⊕◌, ◌⊖◌, ◌⊗◌, opp, solve}
use Rattle.ff_whole.proofs.Signs.{linear, by_sign, zero-mul, pos-mul}
use Rattle.ff_whole.proofs.Turns.{height-through}
use Rattle.ff_whole.proofs.ClosedLists.{next-below}
use Rattle.ff_whole.proofs.Between.{after}
use Rattle.ff_whole.proofs.Slabs.{goes_down, both_ways, HasBothWays}
use Rattle.ff_whole.proofs.ConvexBorders.{IsConvexRing}
use Rattle.ff_whole.specs.Points.{turn}
use Rattle.ff_whole.specs.Places.{through, height}
use Rattle.ff_whole.specs.Convex.{next}
use Rattle.ff_whole.specs.declared.points.Pt.{Pt}
use Rattle.ff_whole.specs.declared.lines.Line.{Line}
use Rattle.ff_whole.specs.declared.places.Place.{Place}
use Rattle.ff_cells.specs.declared.bars.Bar.{Bar}
use Rattle.ff_cells.specs.Gap.{run, spot, opposite}
use Rattle.ff_cells.specs.Sheet.{face_line, IsOver, IsInside, AreFaceBars}
use Rattle.ff_cells.specs.Steps.{IsBarOf}

-- ---- lines through two points

pub through-back : (p q : Pt) → through p q ≡ opposite (through q p)
through-back p q = λ i. record { a = first i; b = second i; c = third i }
  where
    first : p.y -ℤ q.y ≡ neg_ℤ (q.y -ℤ p.y)
    first = solve (p.y ∷ q.y ∷ []) (var 0 ⊖ var 1) (opp (var 1 ⊖ var 0)) refl

    second : q.x -ℤ p.x ≡ neg_ℤ (p.x -ℤ q.x)
    second = solve (p.x ∷ q.x ∷ []) (var 1 ⊖ var 0) (opp (var 0 ⊖ var 1)) refl

    third : ((p.y -ℤ q.y) *ℤ p.x) +ℤ ((q.x -ℤ p.x) *ℤ p.y) ≡ neg_ℤ
        (((q.y -ℤ p.y) *ℤ q.x) +ℤ ((p.x -ℤ q.x) *ℤ q.y))
    third = solve (p.x ∷ p.y ∷ q.x ∷ q.y ∷ []) ((var 1 ⊖ var 3) ⊗ var 0 ⊕ (var 2 ⊖ var 0) ⊗ var 1)
        (opp ((var 3 ⊖ var 1) ⊗ var 2 ⊕ (var 0 ⊖ var 2) ⊗ var 3)) refl

-- a height from how far the place is in x and in y
height-parts : (p q : Pt) (m : Place) → height (through p q) m ≡ (q.x -ℤ p.x) *ℤ (m.y -ℤ p.y *ℤ m.w) -ℤ
    (m.x -ℤ p.x *ℤ m.w) *ℤ (q.y -ℤ p.y)
height-parts p q m =
    let p' = point_e 0 in let q' = point_e 2 in let m' = place_e 4 in
    solve (point_env p (point_env q (place_env m []))) (height_e (through_e p' q') m')
    ((q'.x ⊖ p'.x) ⊗ (m'.y ⊖ p'.y ⊗ m'.w) ⊖ (m'.x ⊖ p'.x ⊗ m'.w) ⊗ (q'.y ⊖ p'.y)) refl

-- over a vertical line nothing has a height that has its x
flat_height : (p q : Pt) (m : Place) → p.x ≡ q.x → after p m ≡ pos 0 → height (through p q) m ≡ pos 0
flat_height p q m same here =
    let e = height-parts p q m in
    let a = zero-mul (q.x -ℤ p.x) (m.y -ℤ p.y *ℤ m.w) (omega (arith, linear)) in
    let b = zero-mul (after p m) (q.y -ℤ p.y) here in
    omega (arith, linear)

-- a line that something is left of has a direction
has_way : (p q r : Pt) → pos 0 <ℤ turn p q r → ((through p q).a ≢ pos 0) ⊎ ((through p q).b ≢ pos 0)
has_way p q r h = by_sign (q.x -ℤ p.x)
    (λ l. inr (λ z. omega (arith, linear)))
    (λ x. inl (λ y. let a = zero-mul (q.x -ℤ p.x) (r.y -ℤ p.y) x in
    let b = zero-mul (q.y -ℤ p.y) (r.x -ℤ p.x) (omega (arith, linear)) in omega (arith, linear)))
    (λ l. inr (λ z. omega (arith, linear)))

pub run-after : (p : Pt) (m : Place) → run (spot p) m ≡ after p m
run-after p m = solve (p.x ∷ m.x ∷ m.w ∷ []) (var 1 ⊗ num (pos 1) ⊖ var 0 ⊗ var 2)
    (var 1 ⊖ var 0 ⊗ var 2) refl

pub run-before : (p : Pt) (m : Place) → run m (spot p) ≡ neg_ℤ (after p m)
run-before p m = solve (p.x ∷ m.x ∷ m.w ∷ []) (var 0 ⊗ var 2 ⊖ var 1 ⊗ num (pos 1))
    (opp (var 1 ⊖ var 0 ⊗ var 2)) refl

-- how much further right one point is than another, as a place is seen from both
after-apart : (p q : Pt) (m : Place) → (q.x -ℤ p.x) *ℤ m.w ≡ after p m -ℤ after q m
after-apart p q m = solve (p.x ∷ q.x ∷ m.x ∷ m.w ∷ []) ((var 1 ⊖ var 0) ⊗ var 3)
    ((var 2 ⊖ var 0 ⊗ var 3) ⊖ (var 2 ⊖ var 1 ⊗ var 3)) refl

one_x : (p q : Pt) (m : Place) → p.x ≡ q.x → after p m ≡ after q m
one_x p q m e = ap (λ x. m.x -ℤ x *ℤ m.w) e

-- the face n has the lines of a convex ring, and its bars are those of the ring's edges that aren't vertical
pub record IsRound (Has : Bar → Type 0) (Step : ℕ → Line → Type 0) (f : ℕ) : Type 0 where
  pub n : ℕ
  pub v : ℕ → Pt
  pub ring : IsConvexRing n v
  pub some : 0 < n
  pub step : (i : ℕ) → i < n → Step f (through (v i) (v (next n i)))
  pub steps : (l : Line) → Step f l → (i : ℕ) × (i < n) × (l ≡ through (v i) (v (next n i)))
  pub bar : (b : Bar) → Has b → b.face ≡ f → (i : ℕ) × (i < n) × IsBarOf (v i) (v (next n i)) f b
  pub bars : (i : ℕ) → i < n → ((v i).x ≡ (v (next n i)).x) ⊎
      ((b : Bar) × Has b × IsBarOf (v i) (v (next n i)) f b)

module _ {Has : Bar → Type 0} {Step : ℕ → Line → Type 0} {f : ℕ} (r : IsRound Has Step f) where
  line_of : (b : Bar) (i : ℕ) → IsBarOf (r.v i) (r.v (next r.n i)) f b
      → face_line b ≡ through (r.v i) (r.v (next r.n i))
  line_of b i s = elim s.ends [
    | inl (low, lo, hi) ↦ ap (λ t. if t then b.line else opposite b.line) low
        ∙ (b.ok.through ∙ (ap (λ p. through p b.hi) lo ∙ ap (λ q. through (r.v i) q) hi))
    | inr (up, lo, hi) ↦ ap (λ t. if t then b.line else opposite b.line) up
        ∙ (ap opposite (b.ok.through ∙ (ap (λ p. through p b.hi) lo
        ∙ ap (λ q. through (r.v (next r.n i)) q) hi)) ∙ sym (through-back (r.v i) (r.v (next r.n i))))
  ]

  its_step : (b : Bar) → Has b → b.face ≡ f → Step f (face_line b)
  its_step b h e = let at = r.bar b h e in subst (Step f) (sym (line_of b at.0 at.2)) (r.step at.0 at.1)

  its_way : (l : Line) → Step f l → (l.a ≢ pos 0) ⊎ (l.b ≢ pos 0)
  its_way l st =
      let at = r.steps l st in
      let o = r.ring.wide at.0 at.1 in
      subst (λ (k : Line). (k.a ≢ pos 0) ⊎ (k.b ≢ pos 0)) (sym at.2)
      (has_way (r.v at.0) (r.v (next r.n at.0)) (r.v o.0) o.2)

  not_right : (l : Line) → Step f l → (k : ℕ) → k < r.n → pos 0 ≤ℤ height l (spot (r.v k))
  not_right l st k lt =
      let at = r.steps l st in
      subst (λ (k' : Line). pos 0 ≤ℤ height k' (spot (r.v k))) (sym at.2)
      (subst (λ z. pos 0 ≤ℤ z) (sym (height-through (r.v at.0) (r.v (next r.n at.0)) (r.v k)))
      (r.ring.left at.0 k at.1 lt))

  its_solid : (l : Line) → Step f l → (z : Place) × (pos 0 <ℤ height l z)
      × ((g : Line) → Step f g → pos 0 ≤ℤ height g z)
  its_solid l st =
      let at = r.steps l st in
      let o = r.ring.wide at.0 at.1 in (
        spot (r.v o.0),
        subst (λ (k' : Line). pos 0 <ℤ height k' (spot (r.v o.0))) (sym at.2)
            (subst (λ z. pos 0 <ℤ z) (sym (height-through (r.v at.0) (r.v (next r.n at.0)) (r.v o.0))) o.2),
        λ g s. not_right g s o.0 o.1,
      )

  its_ends : (b : Bar) → Has b → b.face ≡ f → (l : Line) → Step f l → (pos 0 ≤ℤ height l (spot b.lo))
      × (pos 0 ≤ℤ height l (spot b.hi))
  its_ends b h e l st = by (r.bar b h e)
    where
      at : (p : Pt) (k : ℕ) → k < r.n → p ≡ r.v k → pos 0 ≤ℤ height l (spot p)
      at p k lt q = subst (λ p. pos 0 ≤ℤ height l (spot p)) (sym q) (not_right l st k lt)

      by : (i : ℕ) × (i < r.n) × IsBarOf (r.v i) (r.v (next r.n i)) f b → (pos 0 ≤ℤ height l (spot b.lo))
          × (pos 0 ≤ℤ height l (spot b.hi))
      by (i, lt, s) = elim s.ends [
        | inl (low, lo, hi) ↦ (at b.lo i lt lo, at b.hi (next r.n i) (next-below r.n i lt) hi)
        | inr (up, lo, hi) ↦ (at b.lo (next r.n i) (next-below r.n i lt) lo, at b.hi i lt hi)
      ]

  -- no bar of the face ends over or under the place
  abbrev pub IsOffEnds : Place → Type 0
  IsOffEnds p = (c : Bar) → Has c → c.face ≡ f → (run (spot c.lo) p ≢ pos 0) × (run p (spot c.hi) ≢ pos 0)

  its_return : (b : Bar) (p : Place) → pos 0 <ℤ p.w → IsOffEnds p → Has b → b.face ≡ f → b.lower ≡ true
      → IsOver b p → (u : Bar) × Has u × (u.lower ≡ false) × (u.face ≡ f) × IsOver u p
  its_return b p w off h e low over = from (r.bar b h e)
    where
      s : ℕ → ℤ
      s i = after (r.v i) p

      back : (t : ℕ) → t < r.n → s t <ℤ pos 0 → pos 0 ≤ℤ s (next r.n t) → (u : Bar) × Has u
          × (u.lower ≡ false) × (u.face ≡ f) × IsOver u p
      back t lt a c = elim (r.bars t lt) [
        | inl same ↦ (let q = one_x (r.v t) (r.v (next r.n t)) p same in absurd (omega (arith, linear)))
        | inr (u, hu, is) ↦ side u hu is is.ends
      ]
        where
          side : (u : Bar) → Has u → IsBarOf (r.v t) (r.v (next r.n t)) f u
              → ((u.lower ≡ true) × (u.lo ≡ r.v t) × (u.hi ≡ r.v (next r.n t)))
              ⊎ ((u.lower ≡ false) × (u.lo ≡ r.v (next r.n t)) × (u.hi ≡ r.v t))
              → (u : Bar) × Has u × (u.lower ≡ false) × (u.face ≡ f) × IsOver u p
          side u hu is (inl (l, lo, hi)) =
              let m = pos-mul (u.hi.x -ℤ u.lo.x) p.w (let g = u.ok.goes in omega (arith, linear)) w in
              let q = after-apart u.lo u.hi p in
              let x = ap (λ z. after z p) lo in
              let y = ap (λ z. after z p) hi in
              absurd (omega (arith, linear))
          side u hu is (inr (l, lo, hi)) =
              let x = run-after u.lo p ∙ ap (λ z. after z p) lo in
              let y = run-before u.hi p ∙ ap (λ z. neg_ℤ (after z p)) hi in
              let o = off u hu is.face_is in (
                u,
                hu,
                l,
                is.face_is,
                record {
                  after = by_sign (run (spot u.lo) p)
                      (λ n. absurd (omega (arith, linear))) (λ z. absurd (o.0 z)) (λ g. g);
                  before = omega (arith, linear);
                },
              )

      from : (i : ℕ) × (i < r.n) × IsBarOf (r.v i) (r.v (next r.n i)) f b → (u : Bar) × Has u
          × (u.lower ≡ false) × (u.face ≡ f) × IsOver u p
      from (i, lt, is) = elim is.ends [
        | inl (l, lo, hi) ↦
            (let x = run-after b.lo p ∙ ap (λ z. after z p) lo in
            let y = run-before b.hi p ∙ ap (λ z. neg_ℤ (after z p)) hi in
            let g = over.after in
            let k = over.before in
            let t = goes_down r.n (λ j. neg_ℤ (s j)) (next r.n i) i (next-below r.n i lt) lt
            (omega (arith, linear)) (omega (arith, linear)) in
            let a = t.2 in
            let c = t.3 in
            back t.0 t.1 (omega (arith, linear)) (omega (arith, linear)))
        | inr (l, lo, hi) ↦ absurd (true≢false (sym low ∙ l))
      ]

  its_around : (p : Place) → pos 0 <ℤ p.w → IsInside Step f p → IsOffEnds p → (i : Bar) × Has i
      × (i.lower ≡ true) × (i.face ≡ f) × IsOver i p
  its_around p w inside off = from (both_ways r.n r.v p w r.some in_ring apart)
    where
      in_ring : (i : ℕ) → i < r.n → pos 0 <ℤ height (through (r.v i) (r.v (next r.n i))) p
      in_ring i lt = inside.1 (through (r.v i) (r.v (next r.n i))) (r.step i lt)

      apart : (i : ℕ) → i < r.n → after (r.v i) p ≢ pos 0
      apart i lt z = elim (r.bars i lt) [
        | inl same ↦ (let e = flat_height (r.v i) (r.v (next r.n i)) p same z in let h = in_ring i lt in
            omega (arith, linear))
        | inr (b, hb, is) ↦ (let o = off b hb is.face_is in elim is.ends [
          | inl (l, lo, hi) ↦ o.0 (run-after b.lo p ∙ (ap (λ q. after q p) lo ∙ z))
          | inr (l, lo, hi) ↦ o.1 (run-before b.hi p ∙ (ap (λ q. neg_ℤ (after q p)) hi ∙ ap neg_ℤ z))
        ])
      ]

      from : HasBothWays r.n r.v p → (i : Bar) × Has i × (i.lower ≡ true) × (i.face ≡ f) × IsOver i p
      from t = elim (r.bars t.right t.right_below) [
        | inl same ↦ (let q = one_x (r.v t.right) (r.v (next r.n t.right)) p same in let a = t.right_from in
            let c = t.right_to in absurd (omega (arith, linear)))
        | inr (b, hb, is) ↦ side b hb is is.ends
      ]
        where
          side : (u : Bar) → Has u → IsBarOf (r.v t.right) (r.v (next r.n t.right)) f u
              → ((u.lower ≡ true) × (u.lo ≡ r.v t.right) × (u.hi ≡ r.v (next r.n t.right)))
              ⊎ ((u.lower ≡ false) × (u.lo ≡ r.v (next r.n t.right)) × (u.hi ≡ r.v t.right))
              → (i : Bar) × Has i × (i.lower ≡ true) × (i.face ≡ f) × IsOver i p
          side u hu is (inl (l, lo, hi)) =
              let x = run-after u.lo p ∙ ap (λ z. after z p) lo in
              let y = run-before u.hi p ∙ ap (λ z. neg_ℤ (after z p)) hi in
              let a = t.right_from in
              let c = t.right_to in
              (u, hu, l, is.face_is, record { after = omega (arith, linear); before = omega (arith, linear) })
          side u hu is (inr (l, lo, hi)) =
              let m = pos-mul (u.hi.x -ℤ u.lo.x) p.w (let g = u.ok.goes in omega (arith, linear)) w in
              let q = after-apart u.lo u.hi p in
              let x = ap (λ z. after z p) lo in
              let y = ap (λ z. after z p) hi in
              let a = t.right_from in
              let c = t.right_to in
              absurd (omega (arith, linear))

-- rings make faces
pub bars_of_rings : {Has : Bar → Type 0} {Step : ℕ → Line → Type 0}
    → ((b : Bar) → Has b → IsRound Has Step b.face) → ((f : ℕ) (l : Line) → Step f l → IsRound Has Step f)
    → AreFaceBars Has Step
bars_of_rings {Has} {Step} by_bar by_step = record {
  step = λ b h. its_step (by_bar b h) b h refl;
  convex = λ b l h st. its_ends (by_bar b h) b h refl l st;
  way = λ n l st. its_way (by_step n l st) l st;
  solid = λ n l st. its_solid (by_step n l st) l st;
  closes = λ b p w off h low over. its_return (by_bar b h) b p w off h refl low over;
  around = λ n p w inside off. its_around (by_step n inside.0.0 inside.0.1) p w inside off;
}

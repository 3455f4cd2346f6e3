-- Two edges of a drawing of lines share at most a common end.
use Rattle.std.proofs.Common.{◌≡◌, ◌≢◌, ◌⊎◌, inl, inr, ℕ, ◌<◌, arith, refl, sym, ap, ◌∙◌, subst, ℤ, pos, ◌-ℤ◌, ◌*ℤ◌, ◌<ℤ◌, ◌≤ℤ◌, List, [], ◌∷◌, slice_get, Some, IsTrue}
use lib.IntN.{*ℤ_comm}
use Rattle.std.specs.Ordering.{int_eq}
use Rattle.std.proofs.lemmas.Int.{ints}
use Rattle.std.proofs.lemmas.Bool.{and_parts, and_from}
use Rattle.std.proofs.lemmas.Bool.Decides.{Decides-int_eq}
use Rattle.ff_whole.proofs.Signs.{linear, by_sign, zero-mul, nonneg-mul, zero_from_mul, nonneg_from_mul}
use Rattle.ff_whole.proofs.Ring.{var, num, ◌⊖◌, ◌⊗◌, opp, solve, solve_from}
use Rattle.ff_whole.proofs.Formulas.{point_e, point_env, place_e, place_env, place_of_e, minus_e, dot_e, cross_e, through_e, height_e, past_e, slant_e}
use Rattle.ff_whole.proofs.ThreeTerms.{cross-step, dot-step, cross-flip, cross-own, parallel-both, nothing}
use Rattle.ff_whole.proofs.Images.{distance_positive}
use Rattle.ff_whole.proofs.Offsets.{off, off_e, cross-off, dot-off}
use Rattle.ff_whole.proofs.SharedPlaces.{SamePlace, one_place}
use Rattle.ff_whole.specs.Points.{minus, dot, cross}
use Rattle.ff_whole.specs.Places.{through, height, past, slant, place_of, same_place, IsPlace}
use Rattle.ff_whole.specs.declared.points.Pt.{Pt}
use Rattle.ff_whole.specs.declared.places.Place.{Place}
use Rattle.ff_types.specs.declared.patterns.Mark.{Mark}
use Rattle.ff_lines.specs.declared.items.LineItem.{LineItem}
use Rattle.ff_lines.specs.Lines.{LiesOn, IsOnLine, IsCommon, IsOnlyCommon, AreLines, IsEndAt, MeetInWholes}
use Rattle.ff_lines.specs.Drawings.{IsVertexOf, IsPiece}
use Rattle.ff_lines.specs.Laws.{HaveEnds, EdgesShareEnds}
use Rattle.ff_lines.proofs.Cuts.{IsAlong, IsPast, lies_from, lies_to}

-- ---- one place

pub same_from : (s t : Place) → SamePlace s t → IsTrue (same_place s t)
same_from s t e = and_from (int_eq (s.x *ℤ t.w) (t.x *ℤ s.w)) (int_eq (s.y *ℤ t.w) (t.y *ℤ s.w))
    ((Decides-int_eq (s.x *ℤ t.w) (t.x *ℤ s.w)).1 e.0) ((Decides-int_eq (s.y *ℤ t.w) (t.y *ℤ s.w)).1 e.1)

pub to_same : (s t : Place) → IsTrue (same_place s t) → SamePlace s t
to_same s t u =
    let b = and_parts (int_eq (s.x *ℤ t.w) (t.x *ℤ s.w)) (int_eq (s.y *ℤ t.w) (t.y *ℤ s.w)) u in
    ((Decides-int_eq (s.x *ℤ t.w) (t.x *ℤ s.w)).0 b.0, (Decides-int_eq (s.y *ℤ t.w) (t.y *ℤ s.w)).0 b.1)

pub back_same : (s t : Place) → SamePlace s t → SamePlace t s
back_same s t e = (sym e.0, sym e.1)

-- both are one point with s
number_through : (tx tw sx sw vx vw : ℤ) → pos 0 <ℤ sw → tx *ℤ sw ≡ sx *ℤ tw → vx *ℤ sw ≡ sx *ℤ vw → tx *ℤ vw ≡ vx *ℤ tw
number_through tx tw sx sw vx vw w e f =
    let a : tx *ℤ sw -ℤ sx *ℤ tw ≡ pos 0 = omega (arith, linear) in
    let b : vx *ℤ sw -ℤ sx *ℤ vw ≡ pos 0 = omega (arith, linear) in
    let z : sw *ℤ (tx *ℤ vw -ℤ vx *ℤ tw) ≡ pos 0 = solve_from (tx ∷ tw ∷ sx ∷ sw ∷ vx ∷ vw ∷ [])
    (record { by = var 5; zero = var 0 ⊗ var 3 ⊖ var 2 ⊗ var 1 } ∷ record { by = opp (var 1); zero = var 4 ⊗ var 3 ⊖ var 2 ⊗ var 5 } ∷ [])
    (var 3 ⊗ (var 0 ⊗ var 5 ⊖ var 4 ⊗ var 1)) (num (pos 0)) refl (a, (b, tt)) in
    let y = zero_from_mul sw (tx *ℤ vw -ℤ vx *ℤ tw) w z in omega (arith, linear)

pub through_same : (t s v : Place) → IsPlace s → SamePlace t s → SamePlace v s → SamePlace t v
through_same t s v w e f = (number_through t.x t.w s.x s.w v.x v.w w e.0 f.0, number_through t.y t.w s.y s.w v.y v.w w e.1 f.1)

-- a place that is one point with one on the way is on it
module _ (p q : Pt) (s t : Place) (sw : IsPlace s) (tw : IsPlace t) (same : SamePlace t s) where
  ex : t.x *ℤ s.w -ℤ s.x *ℤ t.w ≡ pos 0
  ex = let e = same.0 in omega (arith, linear)

  ey : t.y *ℤ s.w -ℤ s.y *ℤ t.w ≡ pos 0
  ey = let e = same.1 in omega (arith, linear)

  heights : s.w *ℤ height (through p q) t ≡ t.w *ℤ height (through p q) s
  heights = let p' = point_e 0 in let q' = point_e 2 in let s' = place_e 4 in let t' = place_e 7 in
      solve_from (point_env p (point_env q (place_env s (place_env t []))))
      (record { by = p'.y ⊖ q'.y; zero = t'.x ⊗ s'.w ⊖ s'.x ⊗ t'.w } ∷ record { by = q'.x ⊖ p'.x; zero = t'.y ⊗ s'.w ⊖ s'.y ⊗ t'.w } ∷ [])
      (s'.w ⊗ height_e (through_e p' q') t') (t'.w ⊗ height_e (through_e p' q') s') refl (ex, (ey, tt))

  pasts : s.w *ℤ past p q t ≡ t.w *ℤ past p q s
  pasts = let p' = point_e 0 in let q' = point_e 2 in let s' = place_e 4 in let t' = place_e 7 in
      solve_from (point_env p (point_env q (place_env s (place_env t []))))
      (record { by = q'.x ⊖ p'.x; zero = t'.x ⊗ s'.w ⊖ s'.x ⊗ t'.w } ∷ record { by = q'.y ⊖ p'.y; zero = t'.y ⊗ s'.w ⊖ s'.y ⊗ t'.w } ∷ [])
      (s'.w ⊗ past_e p' q' t') (t'.w ⊗ past_e p' q' s') refl (ex, (ey, tt))

  pasts_back : s.w *ℤ past q p t ≡ t.w *ℤ past q p s
  pasts_back = let p' = point_e 0 in let q' = point_e 2 in let s' = place_e 4 in let t' = place_e 7 in
      solve_from (point_env p (point_env q (place_env s (place_env t []))))
      (record { by = p'.x ⊖ q'.x; zero = t'.x ⊗ s'.w ⊖ s'.x ⊗ t'.w } ∷ record { by = p'.y ⊖ q'.y; zero = t'.y ⊗ s'.w ⊖ s'.y ⊗ t'.w } ∷ [])
      (s'.w ⊗ past_e q' p' t') (t'.w ⊗ past_e q' p' s') refl (ex, (ey, tt))

  pub lies_too : LiesOn p q s → LiesOn p q t
  lies_too h = record {
    on = (let e = heights in let z = zero-mul (height (through p q) s) t.w h.on in let c = *ℤ_comm t.w (height (through p q) s) in
        zero_from_mul s.w (height (through p q) t) sw (omega (arith, linear)));
    after = (let e = pasts in let m = nonneg-mul t.w (past p q s) (let w : pos 0 <ℤ t.w = tw in omega (arith, linear)) h.after in nonneg_from_mul s.w (past p q t) sw (omega (arith, linear)));
    before = (let e = pasts_back in let m = nonneg-mul t.w (past q p s) (let w : pos 0 <ℤ t.w = tw in omega (arith, linear)) h.before in nonneg_from_mul s.w (past q p t) sw (omega (arith, linear)));
  }

-- the other way round
pub lies_swap : (p q : Pt) (s : Place) → LiesOn p q s → LiesOn q p s
lies_swap p q s h = record {
  on = (let p' = point_e 0 in let q' = point_e 2 in let s' = place_e 4 in
      let e : height (through q p) s ≡ pos 0 -ℤ height (through p q) s = solve (point_env p (point_env q (place_env s [])))
      (height_e (through_e q' p') s') (num (pos 0) ⊖ height_e (through_e p' q') s') refl in
      let z = h.on in omega (arith, linear));
  after = h.before;
  before = h.after;
}

pub whole_place : (a : Pt) → IsPlace (place_of a)
whole_place a = omega (arith, ints)

-- ---- whole points along a direction

pub cross-whole : (u a p : Pt) → cross u (off (place_of a) p) ≡ cross u (minus a p)
cross-whole u a p = let u' = point_e 0 in let a' = point_e 2 in let p' = point_e 4 in
    solve (point_env u (point_env a (point_env p []))) (cross_e u' (off_e (place_of_e a') p')) (cross_e u' (minus_e a' p')) refl

pub dot-whole : (u a p : Pt) → dot u (off (place_of a) p) ≡ dot u (minus a p)
dot-whole u a p = let u' = point_e 0 in let a' = point_e 2 in let p' = point_e 4 in
    solve (point_env u (point_env a (point_env p []))) (dot_e u' (off_e (place_of_e a') p')) (dot_e u' (minus_e a' p')) refl

pub dot-turn : (u a b : Pt) → dot u (minus a b) ≡ pos 0 -ℤ dot u (minus b a)
dot-turn u a b = let u' = point_e 0 in let a' = point_e 2 in let b' = point_e 4 in
    solve (point_env u (point_env a (point_env b []))) (dot_e u' (minus_e a' b')) (num (pos 0) ⊖ dot_e u' (minus_e b' a')) refl

pub cross-turn : (u a b : Pt) → cross u (minus a b) ≡ pos 0 -ℤ cross u (minus b a)
cross-turn u a b = let u' = point_e 0 in let a' = point_e 2 in let b' = point_e 4 in
    solve (point_env u (point_env a (point_env b []))) (cross_e u' (minus_e a' b')) (num (pos 0) ⊖ cross_e u' (minus_e b' a')) refl

-- neither along nor across: one point
pub one_point : (u a b : Pt) → pos 0 <ℤ dot u u → cross u (minus b a) ≡ pos 0 → dot u (minus b a) ≡ pos 0 → a ≡ b
one_point u a b long c d =
    let z = nothing u (minus b a) long c d in
    let x : a.x ≡ b.x = (let e = z.0 in omega (arith, linear)) in
    let y : a.y ≡ b.y = (let e = z.1 in omega (arith, linear)) in λ i. record { x = x i; y = y i }

-- and one place
pub one_spot : (u a : Pt) (s : Place) → pos 0 <ℤ dot u u → cross u (off s a) ≡ pos 0 → dot u (off s a) ≡ pos 0 → IsTrue (same_place s (place_of a))
one_spot u a s long c d =
    let z = nothing u (off s a) long c d in
    same_from s (place_of a) (by s.x (a.x *ℤ s.w) z.0, by s.y (a.y *ℤ s.w) z.1) where
      by : (x y : ℤ) → x -ℤ y ≡ pos 0 → x *ℤ pos 1 ≡ y
      by x y e = omega (arith, ints)

pub orient : (u a b : Pt) → pos 0 <ℤ dot u u → cross u (minus b a) ≡ pos 0 → a ≢ b → IsPast u a b ⊎ IsPast u b a
orient u a b long c d = by_sign (dot u (minus b a))
    (λ l. inr (record { on = (let e = cross-turn u a b in omega (arith, linear)); ahead = (let e = dot-turn u a b in omega (arith, linear)) }))
    (λ z. absurd (d (one_point u a b long c z)))
    (λ l. inl (record { on = c; ahead = l }))

-- ---- two pieces of one line, one after the other way along u

-- a piece along u, with no vertex strictly between its ends
pub record IsLaid (V : Pt → Type 0) (u a b : Pt) : Type 0 where
  pub a_vertex : V a
  pub b_vertex : V b
  pub ways : IsPast u a b
  pub none : (v : Pt) → V v → LiesOn a b (place_of v) → (v ≡ a) ⊎ (v ≡ b)

module _ (V : Pt → Type 0) (u : Pt) (long : pos 0 <ℤ dot u u) (a b c d : Pt) (ab : IsLaid V u a b) (cd : IsLaid V u c d)
    (line : cross u (minus c a) ≡ pos 0) (other : (a ≡ c) × (b ≡ d) → ⊥)
    (s : Place) (w : IsPlace s) (on_ab : IsAlong u a b s) (on_cd : IsAlong u c d s) where
  -- how two whole points lie, by the place between them
  between : (x y : Pt) → pos 0 ≤ℤ dot u (off s x) → dot u (off s y) ≤ℤ pos 0 → pos 0 ≤ℤ dot u (minus y x)
  between x y f g =
      let e = dot-off u x y s in let m = *ℤ_comm (dot u (minus y x)) s.w in
      nonneg_from_mul s.w (dot u (minus y x)) w (omega (arith, linear))

  -- a whole point of the line at which the piece is asked
  at : (x y v : Pt) → IsLaid V u x y → V v → cross u (minus v x) ≡ pos 0 → pos 0 ≤ℤ dot u (minus v x) → dot u (minus v y) ≤ℤ pos 0
      → (v ≡ x) ⊎ (v ≡ y)
  at x y v laid vertex on f g = laid.none v vertex (lies_from u x y laid.ways (place_of v) (record {
    on = cross-whole u v x ∙ on;
    after = (let e = dot-whole u v x in omega (arith, linear));
    before = (let e = dot-whole u v y in omega (arith, linear));
  }))

  none_dot : (x y : Pt) → x ≡ y → dot u (minus x y) ≡ pos 0
  none_dot x y e = ap (λ k. dot u (minus k y)) e ∙ (let t = dot-turn u y y in omega (arith, linear))

  line_back : cross u (minus a c) ≡ pos 0
  line_back = let e = cross-turn u a c in let l = line in omega (arith, linear)

  line_d : cross u (minus d a) ≡ pos 0
  line_d = let e = cross-step u c d a in let x = line in let y = cd.ways.on in omega (arith, linear)

  line_b : cross u (minus b c) ≡ pos 0
  line_b = let e = cross-step u a b c in let x = line_back in let y = ab.ways.on in omega (arith, linear)

  spot : (x y : Pt) → x ≡ y → dot u (off s x) ≡ dot u (off s y)
  spot x y e = ap (λ k. dot u (off s k)) e

  before_it : dot u (minus c a) <ℤ pos 0 → (dot u (off s a) ≡ pos 0) ⊎ (dot u (off s b) ≡ pos 0)
  before_it l =
      let f = between a d on_ab.after on_cd.before in
      let t = dot-turn u a c in let r = dot-turn u a d in
      elim (at c d a cd ab.a_vertex line_back (omega (arith, linear)) (omega (arith, linear))) [
        | inl e ↦ absurd (let z = none_dot a c e in omega (arith, linear))
        | inr e ↦ inl (let z = spot a d e in let g = on_ab.after in let h = on_cd.before in omega (arith, linear))
      ]

  after_it : pos 0 <ℤ dot u (minus c a) → (dot u (off s a) ≡ pos 0) ⊎ (dot u (off s b) ≡ pos 0)
  after_it l =
      let f = between c b on_cd.after on_ab.before in
      let r = dot-turn u c b in
      elim (at a b c ab cd.a_vertex line (omega (arith, linear)) (omega (arith, linear))) [
        | inl e ↦ absurd (let z = none_dot c a e in omega (arith, linear))
        | inr e ↦ inr (let z = spot c b e in let g = on_cd.after in let h = on_ab.before in omega (arith, linear))
      ]

  beside_it : dot u (minus c a) ≡ pos 0 → ⊥
  beside_it z =
      let one = one_point u a c long line z in
      let db = dot-step u c d a in let bc = dot-step u a b c in let t = dot-turn u a c in
      let p = cd.ways.ahead in let q = ab.ways.ahead in
      by_sign (dot u (minus d b))
      (λ l. elim (at a b d ab cd.b_vertex line_d (omega (arith, linear)) (omega (arith, linear))) [
        | inl e ↦ (let y = none_dot d a e in omega (arith, linear))
        | inr e ↦ (let y = none_dot d b e in omega (arith, linear))
      ])
      (λ y. other (one, one_point u b d long (let e = cross-step u a d b in let f = cross-turn u a b in let g = line_d in let h = ab.ways.on in omega (arith, linear)) y))
      (λ l. let r = dot-turn u b d in elim (at c d b cd ab.b_vertex line_b (omega (arith, linear)) (omega (arith, linear))) [
        | inl e ↦ (let y = none_dot b c e in omega (arith, linear))
        | inr e ↦ (let y = none_dot b d e in omega (arith, linear))
      ])

  pub ends_here : (dot u (off s a) ≡ pos 0) ⊎ (dot u (off s b) ≡ pos 0)
  ends_here = by_sign (dot u (minus c a)) before_it (λ z. absurd (beside_it z)) after_it

-- the place is an end of the first
end_of : (V : Pt → Type 0) (u : Pt) → pos 0 <ℤ dot u u → (a b c d : Pt) → IsLaid V u a b → IsLaid V u c d → cross u (minus c a) ≡ pos 0
    → ((a ≡ c) × (b ≡ d) → ⊥) → (s : Place) → IsPlace s → IsAlong u a b s → IsAlong u c d s → IsEndAt a b s
end_of V u long a b c d ab cd line other s w on_ab on_cd = elim (ends_here V u long a b c d ab cd line other s w on_ab on_cd) [
  | inl z ↦ inl (one_spot u a s long on_ab.on z)
  | inr z ↦ inr (one_spot u b s long (let e = cross-off u a b s in let f = on_ab.on in let y = zero-mul (cross u (minus b a)) s.w ab.ways.on in omega (arith, linear)) z)
]

turn_end : (a b : Pt) (s : Place) → IsEndAt a b s → IsEndAt b a s
turn_end a b s (inl x) = inr x
turn_end a b s (inr y) = inl y

-- ---- two pieces of one line

parallel_ends : (V : Pt → Type 0) (u : Pt) → pos 0 <ℤ dot u u → (a b c d : Pt) → IsLaid V u a b → IsLaid V u c d
    → ((a ≡ c) × (b ≡ d) → ⊥) → (s : Place) → IsPlace s → IsAlong u a b s → IsAlong u c d s → IsEndAt a b s × IsEndAt c d s
parallel_ends V u long a b c d ab cd other s w on_ab on_cd =
    let l = line in (
      end_of V u long a b c d ab cd l other s w on_ab on_cd,
      end_of V u long c d a b cd ab (let e = cross-turn u a c in omega (arith, linear)) (λ h. other (sym h.0, sym h.1)) s w on_cd on_ab,
    ) where
      line : cross u (minus c a) ≡ pos 0
      line =
          let e = cross-off u a c s in let m = *ℤ_comm (cross u (minus c a)) s.w in
          let x = on_ab.on in let y = on_cd.on in
          zero_from_mul s.w (cross u (minus c a)) w (omega (arith, linear))

-- a piece one way along u, or the other
abbrev IsLaidEither : (Pt → Type 0) → Pt → Pt → Pt → Type 0
IsLaidEither V u a b = IsLaid V u a b ⊎ IsLaid V u b a

either_ends : (V : Pt → Type 0) (u : Pt) → pos 0 <ℤ dot u u → (a b c d : Pt) → IsLaidEither V u a b → IsLaidEither V u c d
    → ((a ≡ c) × (b ≡ d) → ⊥) → ((a ≡ d) × (b ≡ c) → ⊥) → (s : Place) → IsPlace s → LiesOn a b s → LiesOn c d s → IsEndAt a b s × IsEndAt c d s
either_ends V u long a b c d (inl ab) (inl cd) o p s w f g =
    parallel_ends V u long a b c d ab cd o s w (lies_to u a b ab.ways s f) (lies_to u c d cd.ways s g)
either_ends V u long a b c d (inl ab) (inr dc) o p s w f g =
    let r = parallel_ends V u long a b d c ab dc p s w (lies_to u a b ab.ways s f) (lies_to u d c dc.ways s (lies_swap c d s g)) in
    (r.0, turn_end d c s r.1)
either_ends V u long a b c d (inr ba) (inl cd) o p s w f g =
    let r = parallel_ends V u long b a c d ba cd (λ h. p (h.1, h.0)) s w (lies_to u b a ba.ways s (lies_swap a b s f)) (lies_to u c d cd.ways s g) in
    (turn_end b a s r.0, r.1)
either_ends V u long a b c d (inr ba) (inr dc) o p s w f g =
    let r = parallel_ends V u long b a d c ba dc (λ h. o (h.1, h.0)) s w (lies_to u b a ba.ways s (lies_swap a b s f)) (lies_to u d c dc.ways s (lies_swap c d s g)) in
    (turn_end b a s r.0, turn_end d c s r.1)

-- ---- pieces on their lines

abbrev pub way : LineItem → Pt
way l = minus l.q l.p

pub self_past : (l : LineItem) → l.p ≢ l.q → IsPast (way l) l.p l.q
self_past l d = record { on = cross-own (way l); ahead = distance_positive l.p l.q d }

-- a whole point of the line, across and along it
pub across_it : (l : LineItem) → l.p ≢ l.q → (a : Pt) → IsOnLine l (place_of a) → cross (way l) (minus a l.p) ≡ pos 0
across_it l d a on = let h = lies_to (way l) l.p l.q (self_past l d) (place_of a) on in
    sym (cross-whole (way l) a l.p) ∙ h.on

pub across_both : (l : LineItem) → l.p ≢ l.q → (a b : Pt) → IsOnLine l (place_of a) → IsOnLine l (place_of b) → cross (way l) (minus b a) ≡ pos 0
across_both l d a b f g =
    let e = cross-step (way l) a b l.p in let x = across_it l d a f in let y = across_it l d b g in omega (arith, linear)

-- a place between two whole points of the line
pub has : (l : LineItem) (d : l.p ≢ l.q) (a b : Pt) → IsOnLine l (place_of a) → IsOnLine l (place_of b) → IsPast (way l) a b → (s : Place) → IsPlace s
    → LiesOn a b s → IsOnLine l s
has l d a b f g p s w on =
    let u = way l in
    let h = lies_to u a b p s on in
    let x = lies_to u l.p l.q (self_past l d) (place_of a) f in
    let y = lies_to u l.p l.q (self_past l d) (place_of b) g in
    lies_from u l.p l.q (self_past l d) s (record {
      on = (let e = cross-off u l.p a s in let c = across_it l d a f in let z = zero-mul (cross u (minus a l.p)) s.w c in let o = h.on in omega (arith, linear));
      after = (let e = dot-off u l.p a s in let t = dot-whole u a l.p in let r = x.after in let o = h.after in
          let m = nonneg-mul (dot u (minus a l.p)) s.w (omega (arith, linear)) (let z : pos 0 <ℤ s.w = w in omega (arith, linear)) in omega (arith, linear));
      before = (let e = dot-off u b l.q s in let t = dot-whole u b l.q in let r = y.before in let o = h.before in let k = dot-turn u l.q b in
          let m = nonneg-mul (dot u (minus l.q b)) s.w (omega (arith, linear)) (let z : pos 0 <ℤ s.w = w in omega (arith, linear)) in omega (arith, linear));
    })

pub slant-cross : (p q r t : Pt) → slant (through p q) (through r t) ≡ cross (minus q p) (minus t r)
slant-cross p q r t = let p' = point_e 0 in let q' = point_e 2 in let r' = point_e 4 in let t' = point_e 6 in
    solve (point_env p (point_env q (point_env r (point_env t [])))) (slant_e (through_e p' q') (through_e r' t')) (cross_e (minus_e q' p') (minus_e t' r')) refl

-- the place of two lines that aren't parallel is their only one
pub only_one : (k l : LineItem) → cross (way k) (way l) ≢ pos 0 → (s : Place) → IsCommon k l s → IsOnlyCommon k l s
only_one k l n s c = record {
  is = c;
  only = λ t h. same_from t s (one_place (through k.p k.q) (through l.p l.q) t s (λ z. n (sym (slant-cross k.p k.q l.p l.q) ∙ z)) h.first.on h.second.on c.first.on c.second.on);
}

module _ (lines : List LineItem) (ends : HaveEnds lines) where
  pub on_its_line : (m : Mark) (a b : Pt) (piece : IsPiece lines m a b) (s : Place) → IsPlace s → LiesOn a b s → IsOnLine piece.line s
  on_its_line m a b piece s w on = by (orient (way l) a b (self_past l d).ahead (across_both l d a b piece.a_on piece.b_on) piece.differ) where
    l : LineItem
    l = piece.line

    d : l.p ≢ l.q
    d = ends piece.number l piece.there

    by : IsPast (way l) a b ⊎ IsPast (way l) b a → IsOnLine l s
    by (inl p) = has l d a b piece.a_on piece.b_on p s w on
    by (inr p) = has l d b a piece.b_on piece.a_on p s w (lies_swap a b s on)

module _ (lines : List LineItem) (ends : HaveEnds lines) (wholes : MeetInWholes lines) where
  -- at the only common place of two lines each piece has an end
  end_there : (i j : ℕ) (k l : LineItem) → AreLines lines i j k l → (s : Place) → IsOnlyCommon k l s
      → (m : Mark) (a b : Pt) → IsPiece lines m a b → LiesOn a b s → IsEndAt a b s
  end_there i j k l are s only m a b piece on = by (piece.none v vertex (lies_too a b s (place_of v) only.is.place (whole_place v) same on)) where
    found : (v : Pt) × IsTrue (same_place (place_of v) s)
    found = wholes i j k l are s only

    v : Pt
    v = found.0

    same : SamePlace (place_of v) s
    same = to_same (place_of v) s found.1

    vertex : IsVertexOf lines v
    vertex = inr (
      i,
      j,
      k,
      l,
      are,
      record {
        is = record {
          place = whole_place v;
          first = lies_too k.p k.q s (place_of v) only.is.place (whole_place v) same only.is.first;
          second = lies_too l.p l.q s (place_of v) only.is.place (whole_place v) same only.is.second;
        };
        only = λ t h. same_from t (place_of v) (through_same t s (place_of v) only.is.place (to_same t s (only.only t h)) same);
      },
    )

    at : (x : Pt) → v ≡ x → IsTrue (same_place s (place_of x))
    at x e = same_from s (place_of x) (subst (λ y. SamePlace s (place_of y)) e (back_same (place_of v) s same))

    by : (v ≡ a) ⊎ (v ≡ b) → IsEndAt a b s
    by (inl e) = inl (at a e)
    by (inr e) = inr (at b e)

  tri : (i j : ℕ) → (i ≡ j) ⊎ ((i < j) ⊎ (j < i))
  tri i j = grind arith

  some_same : {k l : LineItem} → Some k ≡ Some l → k ≡ l
  some_same e = cc

  -- a piece along a direction that its line has
  lay : (u : Pt) → pos 0 <ℤ dot u u → (m : Mark) (a b : Pt) → IsPiece lines m a b → cross u (minus b a) ≡ pos 0 → IsLaidEither (IsVertexOf lines) u a b
  lay u long m a b piece c = elim (orient u a b long c piece.differ) [
    | inl p ↦ inl (record { a_vertex = piece.a_vertex; b_vertex = piece.b_vertex; ways = p; none = piece.none })
    | inr p ↦ inr (record {
      a_vertex = piece.b_vertex;
      b_vertex = piece.a_vertex;
      ways = p;
      none = λ v h on. swapped v (piece.none v h (lies_swap b a (place_of v) on));
    })
  ] where
    swapped : (v : Pt) → (v ≡ a) ⊎ (v ≡ b) → (v ≡ b) ⊎ (v ≡ a)
    swapped v (inl e) = inr e
    swapped v (inr e) = inl e

  module _ (m n : Mark) (a b c d : Pt) (ab : IsPiece lines m a b) (cd : IsPiece lines n c d)
      (o : (a ≡ c) × (b ≡ d) → ⊥) (p : (a ≡ d) × (b ≡ c) → ⊥) (s : Place) (w : IsPlace s) (f : LiesOn a b s) (g : LiesOn c d s) where
    abbrev k : LineItem
    k = ab.line

    abbrev l : LineItem
    l = cd.line

    k_ends : k.p ≢ k.q
    k_ends = ends ab.number k ab.there

    l_ends : l.p ≢ l.q
    l_ends = ends cd.number l cd.there

    on_k : IsOnLine k s
    on_k = on_its_line lines ends m a b ab s w f

    on_l : IsOnLine l s
    on_l = on_its_line lines ends n c d cd s w g

    same_way : cross (way k) (way l) ≡ pos 0 → IsEndAt a b s × IsEndAt c d s
    same_way z =
        let u = way k in let v = way l in
        let long = (self_past k k_ends).ahead in let far = (self_past l l_ends).ahead in
        let x : cross v u ≡ pos 0 = (let e = cross-flip u v in omega (arith, linear)) in
        let y = across_both l l_ends c d cd.a_on cd.b_on in
        either_ends (IsVertexOf lines) u long a b c d
        (lay u long m a b ab (across_both k k_ends a b ab.a_on ab.b_on)) (lay u long n c d cd (parallel-both v u (minus d c) far x y)) o p s w f g

    apart : cross (way k) (way l) ≢ pos 0 → IsEndAt a b s × IsEndAt c d s
    apart n' = elim (tri ab.number cd.number) [
      | inl e ↦ absurd (n' (ap (λ t. cross (way k) (way t)) (sym (some_same (sym ab.there ∙ ap (slice_get lines) e ∙ cd.there))) ∙ cross-own (way k)))
      | inr h ↦ elim h [
        | inl less ↦ (
            let are : AreLines lines ab.number cd.number k l = record { order = less; first = ab.there; second = cd.there } in
            let only = only_one k l n' s (record { place = w; first = on_k; second = on_l }) in
            (end_there ab.number cd.number k l are s only m a b ab f, end_there ab.number cd.number k l are s only n c d cd g)
            )
        | inr more ↦ (
            let are : AreLines lines cd.number ab.number l k = record { order = more; first = cd.there; second = ab.there } in
            let only = only_one l k (λ z. n' (let e = cross-flip (way l) (way k) in omega (arith, linear))) s (record { place = w; first = on_l; second = on_k }) in
            (end_there cd.number ab.number l k are s only m a b ab f, end_there cd.number ab.number l k are s only n c d cd g)
            )
      ]
    ]

    pub share : IsEndAt a b s × IsEndAt c d s
    share = by_sign (cross (way k) (way l))
        (λ h. apart (λ z. omega (arith, linear)))
        same_way
        (λ h. apart (λ z. omega (arith, linear)))

pub edges_share : EdgesShareEnds
edges_share lines ends wholes m n a b c d ab cd o p s w f g = share lines ends wholes m n a b c d ab cd o p s w f g

-- A convex ring with one more edge between two of its corners is a drawing, where on each side of that edge a corner lies.
use Rattle.std.proofs.Common.{◌≡◌, ◌≢◌, ℕ, zero, suc, ◌+◌, ◌-◌, ◌<◌, ◌≤◌, ◌==◌, ◌⊎◌, inl, inr, refl, sym, ◌∙◌, ap, subst, arith, ℤ, pos, ◌+ℤ◌, ◌*ℤ◌, ◌<ℤ◌, ◌≤ℤ◌, Bool, true, false, ◌&&◌, ◌||◌, IsTrue, List, [], ◌∷◌, ◌++◌, length}
use lib.IntN.{*ℤ_comm, *ℤ-zero, zero-*ℤ}
use Rattle.std.specs.List.{All}
use Rattle.std.proofs.lemmas.Int.{ints, by_lt_z}
use Rattle.std.proofs.lemmas.Bool.{cases_lt, eqb-true, eqb-false}
use Rattle.std.proofs.lemmas.Bool.Decides.{nat_tests}
use Rattle.std.proofs.lemmas.List.{length-append, get_or_append_left, get_or-append_right}
use Rattle.ff_basics.proofs.Numbers.{same_number}
use Rattle.ff_whole.specs.declared.points.Pt.{Pt}
use Rattle.ff_whole.specs.Points.{minus, cross, turn, mix, IsNear, origin}
use Rattle.ff_whole.specs.Convex.{next, point_at, AreApart, IsConvex}
use Rattle.ff_whole.specs.Turning.{rank}
use Rattle.ff_whole.proofs.Signs.{linear, by_sign, nonneg-mul, nonneg-mul_nonpos, pos-mul, neg-mul_pos, neg-mul_neg, pos-mul_neg}
use Rattle.ff_whole.proofs.Directions.{rank-minus, turn-step, turn-first}
use Rattle.ff_whole.proofs.Ranks.{rank-same}
use Rattle.ff_whole.proofs.ClosedLists.{next-below, next-apart}
use Rattle.ff_types.specs.declared.patterns.EdgeEnds.{EdgeEnds}
use Rattle.ff_types.specs.Patterns.{edge_at, Joins}
use Rattle.ff_types.specs.Drawings.{IsDrawing, MeetAtEnds, IsEnd, HasTwoEdges, joins, has_end}
use Rattle.ff_types.proofs.ComputedFaces.{joins_is}
use Rattle.ff_types.proofs.ConvexEdges.{inside_alone, turn_mixed, turn-last, turn_cycled, turn_swapped, exchange, corners_turn, none}
use Rattle.ff_types.specs.PlainSheets.{IsCycle}
use Rattle.ff_types.proofs.PlainSheets.{plain_drawing}

-- ---- one more edge

pub at_front : (es : List EdgeEnds) (c : EdgeEnds) (k : ℕ) → k < length es → edge_at (es ++ c ∷ []) k ≡ edge_at es k
at_front es c k h = get_or_append_left es (c ∷ []) _ k h

pub at_end : (es : List EdgeEnds) (c : EdgeEnds) → edge_at (es ++ c ∷ []) (length es) ≡ c
at_end es c = get_or-append_right es (c ∷ []) (length es) (length es) _ refl (omega arith) ∙ ap (λ k. edge_at (c ∷ []) k) zero_is where
  zero_is : length es - length es ≡ 0
  zero_is = omega arith

pub longer : (es : List EdgeEnds) (c : EdgeEnds) → length (es ++ c ∷ []) ≡ length es + 1
longer es c = length-append es (c ∷ [])

-- an edge of the longer list is one of the others, or the last
pub which_edge : (es : List EdgeEnds) (c : EdgeEnds) (e : ℕ) → e < length (es ++ c ∷ []) → ((e < length es) × (edge_at (es ++ c ∷ []) e ≡ edge_at es e)) ⊎ ((e ≡ length es) × (edge_at (es ++ c ∷ []) e ≡ c))
which_edge es c e h = elim (cases_lt e (length es)) [
  | inl l ↦ inl (l, at_front es c e l)
  | inr l ↦ (let x : e ≡ length es = omega (arith, h, l, longer es c) in inr (x, ap (λ k. edge_at (es ++ c ∷ []) k) x ∙ at_end es c))
]

meet_swapped : (points : List Pt) (e k : EdgeEnds) → MeetAtEnds points e k → MeetAtEnds points k e
meet_swapped points e k m s t u v c = let r = m u v s t (record { some = omega (arith, c.some, c.sums); sums = sym c.sums; same = sym c.same }) in (r.1, r.0)

mix_turned : (s t : ℕ) (p q : Pt) → mix s p t q ≡ mix t q s p
mix_turned s t p q = points (sum (pos s *ℤ p.x) (pos t *ℤ q.x)) (sum (pos s *ℤ p.y) (pos t *ℤ q.y)) where
  sum : (a b : ℤ) → a +ℤ b ≡ b +ℤ a
  sum a b = omega (arith, linear)

  points : {a b c d : ℤ} → a ≡ c → b ≡ d → ◌≡◌ {A = Pt} (record { x = a; y = b }) (record { x = c; y = d })
  points {a} {b} {c} {d} e f = ap (λ x. record { x = x; y = b }) e ∙ ap (λ y. record { x = c; y = y }) f

meet_turned : (points : List Pt) (a b : ℕ) (k : EdgeEnds) → MeetAtEnds points (record { a = a; b = b }) k → MeetAtEnds points (record { a = b; b = a }) k
meet_turned points a b k m s t u v c = let r = m t s u v (record { some = omega (arith, c.some); sums = plus s t ∙ c.sums; same = mix_turned t s (point_at points a) (point_at points b) ∙ c.same }) in (turned r.0, r.1) where
  plus : (s t : ℕ) → t + s ≡ s + t
  plus s t = omega arith

  turned : IsEnd t s → IsEnd s t
  turned (inl e) = inr e
  turned (inr e) = inl e

-- A drawing with one more edge, which joins two vertices that no edge joins and meets each edge at ends alone, is a drawing.
pub add_edge : (points : List Pt) (es : List EdgeEnds) (c : EdgeEnds) → IsDrawing points es → Joins (length points) c
    → ((k : ℕ) → k < length es → IsTrue (joins c.a c.b (edge_at es k)) → ⊥) → ((k : ℕ) → k < length es → MeetAtEnds points c (edge_at es k)) → IsDrawing points (es ++ c ∷ [])
add_edge points es c d j new m = record {
  near = d.near;
  apart = d.apart;
  edges_join = λ e h. elim (where_is e h) [ inl x ↦ subst (λ k. Joins (length points) k) (sym x.1) (d.edges_join e x.0) | inr x ↦ subst (λ k. Joins (length points) k) (sym x.1) j ];
  once = once;
  two = λ v h. more_edges v (d.two v h);
  meet = meet;
} where
  where_is : (e : ℕ) → e < length (es ++ c ∷ []) → ((e < length es) × (edge_at (es ++ c ∷ []) e ≡ edge_at es e)) ⊎ ((e ≡ length es) × (edge_at (es ++ c ∷ []) e ≡ c))
  where_is e h = which_edge es c e h

  more_edges : (v : ℕ) → HasTwoEdges es v → HasTwoEdges (es ++ c ∷ []) v
  more_edges v (e, k, h, l, t, u) = (e, k, h, omega (arith, l, longer es c), subst (λ x. IsTrue (has_end x v)) (sym (at_front es c e (omega (arith, h, l)))) t, subst (λ x. IsTrue (has_end x v)) (sym (at_front es c k l)) u)

  joins_back : (x y : EdgeEnds) → IsTrue (joins x.a x.b y) → IsTrue (joins y.a y.b x)
  joins_back x y t = elim (joins_is y x.a x.b t) [
    | inl p ↦ rw (p.0, p.1, same_number x.a, same_number x.b) refl
    | inr p ↦ rw (p.0, p.1) (second (x.a == x.b && x.b == x.a))
  ] where
    second : (b : Bool) → IsTrue (b || (x.a == x.a && x.b == x.b))
    second true = refl
    second false = rw (same_number x.a, same_number x.b) refl

  once : (e k : ℕ) → e < length (es ++ c ∷ []) → k < length (es ++ c ∷ []) → IsTrue (joins (edge_at (es ++ c ∷ []) e).a (edge_at (es ++ c ∷ []) e).b (edge_at (es ++ c ∷ []) k)) → e ≡ k
  once e k h l = elim (where_is e h) [
    | inl x ↦ elim (where_is k l) [
      | inl y ↦ subst (λ u. IsTrue (joins u.a u.b (edge_at (es ++ c ∷ []) k)) → e ≡ k) (sym x.1) (subst (λ u. IsTrue (joins (edge_at es e).a (edge_at es e).b u) → e ≡ k) (sym y.1) (d.once e k x.0 y.0))
      | inr y ↦ subst (λ u. IsTrue (joins u.a u.b (edge_at (es ++ c ∷ []) k)) → e ≡ k) (sym x.1) (subst (λ u. IsTrue (joins (edge_at es e).a (edge_at es e).b u) → e ≡ k) (sym y.1) (λ t. absurd (new e x.0 (joins_back (edge_at es e) c t))))
    ]
    | inr x ↦ elim (where_is k l) [
      | inl y ↦ subst (λ u. IsTrue (joins u.a u.b (edge_at (es ++ c ∷ []) k)) → e ≡ k) (sym x.1) (subst (λ u. IsTrue (joins c.a c.b u) → e ≡ k) (sym y.1) (λ t. absurd (new k y.0 t)))
      | inr y ↦ λ t. x.0 ∙ sym y.0
    ]
  ]

  meet : (e k : ℕ) → e < length (es ++ c ∷ []) → k < length (es ++ c ∷ []) → e ≢ k → MeetAtEnds points (edge_at (es ++ c ∷ []) e) (edge_at (es ++ c ∷ []) k)
  meet e k h l n = elim (where_is e h) [
    | inl x ↦ elim (where_is k l) [
      | inl y ↦ subst (λ u. MeetAtEnds points u (edge_at (es ++ c ∷ []) k)) (sym x.1) (subst (λ u. MeetAtEnds points (edge_at es e) u) (sym y.1) (d.meet e k x.0 y.0 n))
      | inr y ↦ subst (λ u. MeetAtEnds points u (edge_at (es ++ c ∷ []) k)) (sym x.1) (subst (λ u. MeetAtEnds points (edge_at es e) u) (sym y.1) (meet_swapped points c (edge_at es e) (m e x.0)))
    ]
    | inr x ↦ elim (where_is k l) [
      | inl y ↦ subst (λ u. MeetAtEnds points u (edge_at (es ++ c ∷ []) k)) (sym x.1) (subst (λ u. MeetAtEnds points c u) (sym y.1) (m k y.0))
      | inr y ↦ absurd (n (x.0 ∙ sym y.0))
    ]
  ]

-- ---- a chord

-- what lies on both sides of h can't lie on one side of a direction along h
two_sides : (u h c d x y : ℤ) → u *ℤ x ≡ h *ℤ c → u *ℤ y ≡ h *ℤ d → x <ℤ pos 0 → pos 0 <ℤ y → pos 0 ≤ℤ c → pos 0 ≤ℤ d → u ≢ pos 0 → ⊥
two_sides u h c d x y e f lx ly hc hd n = by_sign u lower (λ z. n z) higher where
  higher : pos 0 <ℤ u → ⊥
  higher p = by_lt_z h (pos 0)
      (λ l. let a = pos-mul u y p ly in let b = nonneg-mul_nonpos d h hd (omega (arith, linear)) in let o = *ℤ_comm d h in omega (arith, linear))
      (λ l. let a = pos-mul_neg u x p lx in let b = nonneg-mul h c l hc in omega (arith, linear))

  lower : u <ℤ pos 0 → ⊥
  lower p = by_lt_z (pos 0) h
      (λ l. let a = neg-mul_pos u y p ly in let b = nonneg-mul h d (omega (arith, linear)) hd in omega (arith, linear))
      (λ l. let a = neg-mul_neg u x p lx in let b = nonneg-mul_nonpos c h hc l in let o = *ℤ_comm c h in omega (arith, linear))

mix_alone : (x : ℕ) (p q r : Pt) → mix x p 0 q ≡ mix x p 0 r
mix_alone x p q r = points (same p.x q.x r.x) (same p.y q.y r.y) where
  same : (a b c : ℤ) → pos x *ℤ a +ℤ pos 0 *ℤ b ≡ pos x *ℤ a +ℤ pos 0 *ℤ c
  same a b c = ap (λ z. pos x *ℤ a +ℤ z) (zero-*ℤ b ∙ sym (zero-*ℤ c))

  points : {a b c d : ℤ} → a ≡ c → b ≡ d → ◌≡◌ {A = Pt} (record { x = a; y = b }) (record { x = c; y = d })
  points {a} {b} {c} {d} e f = ap (λ x. record { x = x; y = b }) e ∙ ap (λ y. record { x = c; y = y }) f

before : (n w : ℕ) → 2 ≤ n → w < n → (e : ℕ) × (e < n) × (next n e ≡ w) × (e ≡ w → ⊥)
before n zero h l = (n - 1, omega (arith, h), last, λ e. omega (arith, e, h)) where
  last : next n (n - 1) ≡ 0
  last = grind (arith, nat_tests, h)
before n (suc w) h l = (w, omega (arith, l), inner, λ e. omega (arith, e)) where
  inner : next n w ≡ suc w
  inner = grind (arith, nat_tests, l)

-- The corners i and j have corners of the ring on both sides of the line through them: those between on or right of it, the
-- others on or left.
pub record IsChord (points : List Pt) (i j : ℕ) : Type 0 where
  pub far : i + 1 < j
  pub low : j < length points
  pub right : (x : ℕ) → i ≤ x → x ≤ j → turn (point_at points i) (point_at points j) (point_at points x) ≤ℤ pos 0
  pub left : (x : ℕ) → (x ≤ i) ⊎ (j ≤ x) → x < length points → pos 0 ≤ℤ turn (point_at points i) (point_at points j) (point_at points x)
  pub apart : next (length points) j ≡ i → ⊥
  -- no edge of the ring lies along it
  pub across : (k : ℕ) → k < length points → turn (point_at points k) (point_at points (next (length points) k)) (point_at points i) ≡ pos 0 → turn (point_at points k) (point_at points (next (length points) k)) (point_at points j) ≡ pos 0 → ⊥
  pub some_right : (m : ℕ) × (i < m) × (m < j) × (turn (point_at points i) (point_at points j) (point_at points m) <ℤ pos 0)
  pub some_left : (o : ℕ) × ((o < i) ⊎ (j < o)) × (o < length points) × (pos 0 <ℤ turn (point_at points i) (point_at points j) (point_at points o))

module _ (points : List Pt) (near : All IsNear points) (apart : AreApart points) (ring : IsConvex points) (enough : 3 ≤ length points) where
  abbrev R : ℕ → Pt
  R i = point_at points i

  abbrev n : ℕ
  n = length points

  -- no corner is strictly inside an edge
  corner_apart : (w k : ℕ) → w < n → k < n → (x u v : ℕ) (q : Pt) → x ≡ u + v → mix x (R w) 0 q ≡ mix u (R k) v (R (next n k)) → 0 < u → 0 < v → ⊥
  corner_apart w k h l x u v q e m f g = by (w == k) refl where
    by : (b : Bool) → (w == k) ≡ b → ⊥
    by true t = let r = before n w (omega (arith, enough)) h in
        inside_alone points near apart ring (omega (arith, enough)) r.0 k r.1 l (λ z. r.3 (z ∙ sym (eqb-true w k t))) 0 x u v (sums e)
        (subst (λ y. mix 0 (R r.0) x (R y) ≡ mix u (R k) v (R (next n k))) (sym r.2) (mix_turned 0 x (R r.0) (R w) ∙ (mix_alone x (R w) (R r.0) q ∙ m))) f g where
          sums : x ≡ u + v → 0 + x ≡ u + v
          sums e = omega (arith, e)
    by false t = inside_alone points near apart ring (omega (arith, enough)) w k h l (eqb-false w k t) x 0 u v (omega (arith, e)) (mix_alone x (R w) (R (next n w)) q ∙ m) f g

  module _ (i j m o : ℕ) (ij : i < j) (jn : j < n) (im : i < m) (mj : m < j) (right : turn (R i) (R j) (R m) <ℤ pos 0) (on : o < n) (left : pos 0 <ℤ turn (R i) (R j) (R o)) where
    i_low : i < n
    i_low = omega (arith, ij, jn)

    m_low : m < n
    m_low = omega (arith, mj, jn)

    not_along : (k : ℕ) → k < n → turn (R k) (R (next n k)) (R i) ≡ pos 0 → turn (R k) (R (next n k)) (R j) ≡ pos 0 → ⊥
    not_along k h e f =
        let a = turn-step (R k) (R (next n k)) (R i) (R j) in
        let b = turn-step (R k) (R (next n k)) (R i) (R m) in
        let c = turn-step (R k) (R (next n k)) (R i) (R o) in
        let along : cross (minus (R (next n k)) (R k)) (minus (R j) (R i)) ≡ pos 0 = omega (arith, linear) in
        let bl = ring.left k m h (omega (arith, mj, jn)) in
        let cl = ring.left k o h on in
        let x = exchange (minus (R (next n k)) (R k)) (minus (R j) (R i)) (minus (R m) (R i)) in
        let y = exchange (minus (R (next n k)) (R k)) (minus (R j) (R i)) (minus (R o) (R i)) in
        let xz = ap (λ z. rank (minus (R m) (R i)) *ℤ z) along ∙ *ℤ-zero (rank (minus (R m) (R i))) in
        let yz = ap (λ z. rank (minus (R o) (R i)) *ℤ z) along ∙ *ℤ-zero (rank (minus (R o) (R i))) in
        two_sides (rank (minus (R (next n k)) (R k))) (rank (minus (R j) (R i))) (cross (minus (R (next n k)) (R k)) (minus (R m) (R i))) (cross (minus (R (next n k)) (R k)) (minus (R o) (R i)))
        (cross (minus (R j) (R i)) (minus (R m) (R i))) (cross (minus (R j) (R i)) (minus (R o) (R i))) (omega (arith, linear)) (omega (arith, linear)) right left (omega (arith, linear)) (omega (arith, linear))
        (λ z. next-apart n k (omega (arith, enough)) h (sym (apart.differ k (next n k) h (next-below n k h) (rank-same (R k) (R (next n k)) (near k origin h) (near (next n k) origin (next-below n k h)) (let r = rank-minus (R k) (R (next n k)) in omega (arith, linear))))))

    -- a point of the chord and of an edge is an end of both
    chord_meets : (k : ℕ) → k < n → MeetAtEnds points (record { a = i; b = j }) (record { a = k; b = next n k })
    chord_meets k h s t u v c = (first, end_or_not u v second) where
      end_or_not : (s t : ℕ) → (0 < s → 0 < t → ⊥) → IsEnd s t
      end_or_not zero t f = inl refl
      end_or_not (suc s) zero f = inr refl
      end_or_not (suc s) (suc t) f = absurd (f (omega arith) (omega arith))

      on_edge : 0 < s → 0 < t → (turn (R k) (R (next n k)) (R i) ≡ pos 0) × (turn (R k) (R (next n k)) (R j) ≡ pos 0)
      on_edge hs ht =
          let a = turn_mixed (R k) (R (next n k)) (R i) (R j) (pos s) (pos t) in
          let b = turn_mixed (R k) (R (next n k)) (R k) (R (next n k)) (pos u) (pos v) in
          let d = ap (λ (q : Pt). cross (minus (R (next n k)) (R k)) q) c.same in
          let cs = c.sums in
          let e : pos s +ℤ pos t ≡ pos u +ℤ pos v = omega (arith, ints) in
          let f = ap (λ z. z *ℤ cross (minus (R (next n k)) (R k)) (R k)) e in
          let x = ap (λ z. pos u *ℤ z) (turn-first (R k) (R (next n k))) ∙ *ℤ-zero (pos u) in
          let y = ap (λ z. pos v *ℤ z) (turn-last (R k) (R (next n k))) ∙ *ℤ-zero (pos v) in
          none (turn (R k) (R (next n k)) (R i)) (turn (R k) (R (next n k)) (R j)) (pos s) (pos t) (ring.left k i h i_low) (ring.left k j h jn) (omega (arith, ints, hs)) (omega (arith, ints, ht)) (omega (arith, linear))

      first : IsEnd s t
      first = end_or_not s t (λ hs ht. let z = on_edge hs ht in not_along k h z.0 z.1)

      second : 0 < u → 0 < v → ⊥
      second hu hv = at_end first where
        at_end : IsEnd s t → ⊥
        at_end (inl e) = corner_apart j k jn h t u v (R i) (omega (arith, e, c.sums)) (mix_turned t 0 (R j) (R i) ∙ (ap (λ z. mix z (R i) t (R j)) (sym e) ∙ c.same)) hu hv
        at_end (inr e) = corner_apart i k i_low h s u v (R j) (omega (arith, e, c.sums)) (ap (λ z. mix s (R i) z (R j)) (sym e) ∙ c.same) hu hv

    -- ---- the sides of the chord

    right_side : (x : ℕ) → i ≤ x → x ≤ j → turn (R i) (R j) (R x) ≤ℤ pos 0
    right_side x h l = elim (cases_lt i x) [
      | inl a ↦ elim (cases_lt x j) [
        | inl b ↦ (let t = corners_turn points near apart ring (omega (arith, enough)) i x j a b jn in let s = turn_swapped (R i) (R j) (R x) in omega (arith, linear))
        | inr b ↦ (let e : x ≡ j = omega (arith, l, b) in subst (λ y. turn (R i) (R j) (R y) ≤ℤ pos 0) (sym e) (let z = turn-last (R i) (R j) in omega (arith, linear)))
      ]
      | inr a ↦ (let e : x ≡ i = omega (arith, h, a) in subst (λ y. turn (R i) (R j) (R y) ≤ℤ pos 0) (sym e) (let z = turn-first (R i) (R j) in omega (arith, linear)))
    ]

    left_side : (x : ℕ) → (x ≤ i) ⊎ (j ≤ x) → x < n → pos 0 ≤ℤ turn (R i) (R j) (R x)
    left_side x (inl h) l = elim (cases_lt x i) [
      | inl a ↦ (let t = corners_turn points near apart ring (omega (arith, enough)) x i j a ij jn in let s = turn_cycled (R x) (R i) (R j) in omega (arith, linear))
      | inr a ↦ (let e : x ≡ i = omega (arith, h, a) in subst (λ y. pos 0 ≤ℤ turn (R i) (R j) (R y)) (sym e) (let z = turn-first (R i) (R j) in omega (arith, linear)))
    ]
    left_side x (inr h) l = elim (cases_lt j x) [
      | inl a ↦ corners_turn points near apart ring (omega (arith, enough)) i j x ij a l
      | inr a ↦ (let e : x ≡ j = omega (arith, h, a) in subst (λ y. pos 0 ≤ℤ turn (R i) (R j) (R y)) (sym e) (let z = turn-last (R i) (R j) in omega (arith, linear)))
    ]

    -- the corner on the left isn't between i and j, so these aren't the first and the last
    not_all : i ≡ 0 → j + 1 ≡ n → ⊥
    not_all e f = let a = right_side o (omega (arith, e)) (omega (arith, f, on)) in omega (arith, linear)

    not_beside : next n j ≡ i → ⊥
    not_beside e = elim (cases_lt (j + 1) n) [
      | inl l ↦ (let f : next n j ≡ j + 1 = grind (arith, nat_tests, l) in omega (arith, e, f, ij))
      | inr l ↦ (let f : next n j ≡ 0 = grind (arith, nat_tests, l) in not_all (sym e ∙ f) (omega (arith, jn, l)))
    ]

    not_next : next n i ≡ j → ⊥
    not_next e = let f : next n i ≡ i + 1 = grind (arith, nat_tests, im, mj, jn) in omega (arith, e, f, im, mj)

    outside : (o < i) ⊎ (j < o)
    outside = elim (cases_lt o i) [
      | inl l ↦ inl l
      | inr l ↦ elim (cases_lt j o) [ inl k ↦ inr k | inr k ↦ (let a = right_side o l k in absurd (omega (arith, linear))) ]
    ]

    pub chord_is : IsChord points i j
    chord_is = record { far = omega (arith, im, mj); low = jn; right = right_side; left = left_side; apart = not_beside; across = not_along; some_right = (m, im, mj, right); some_left = (o, outside, on, left) }

    module _ (es : List EdgeEnds) (cycle : IsCycle (length points) es) (c : EdgeEnds) (chord : (c ≡ record { a = i; b = j }) ⊎ (c ≡ record { a = j; b = i })) where
      by_chord {ℓ} : (P : EdgeEnds → Type ℓ) → P (record { a = i; b = j }) → P (record { a = j; b = i }) → P c
      by_chord P x y = elim chord [ inl e ↦ subst P (sym e) x | inr e ↦ subst P (sym e) y ]

      is_step : (k : ℕ) → k < length es → edge_at es k ≡ record { a = k; b = next n k }
      is_step k h = cycle.joined k (subst (λ m. k < m) cycle.as_many h)

      step_low : (k : ℕ) → k < length es → k < n
      step_low k h = subst (λ m. k < m) cycle.as_many h

      fresh_step : (a b k : ℕ) → k < length es → (k ≡ a → next n k ≡ b → ⊥) → (k ≡ b → next n k ≡ a → ⊥) → IsTrue (joins a b (edge_at es k)) → ⊥
      fresh_step a b k h f g t = elim (joins_is (record { a = k; b = next n k }) a b (subst (λ x. IsTrue (joins a b x)) (is_step k h) t)) [ inl p ↦ f p.0 p.1 | inr p ↦ g p.0 p.1 ]

      fresh : (k : ℕ) → k < length es → IsTrue (joins c.a c.b (edge_at es k)) → ⊥
      fresh k h = by_chord (λ x. IsTrue (joins x.a x.b (edge_at es k)) → ⊥)
          (fresh_step i j k h (λ e f. not_next (ap (next n) (sym e) ∙ f)) (λ e f. not_beside (ap (next n) (sym e) ∙ f)))
          (fresh_step j i k h (λ e f. not_beside (ap (next n) (sym e) ∙ f)) (λ e f. not_next (ap (next n) (sym e) ∙ f)))

      meets : (k : ℕ) → k < length es → MeetAtEnds points c (edge_at es k)
      meets k h = subst (λ x. MeetAtEnds points c x) (sym (is_step k h)) (by_chord (λ x. MeetAtEnds points x (record { a = k; b = next n k })) (chord_meets k (step_low k h)) (meet_turned points i j (record { a = k; b = next n k }) (chord_meets k (step_low k h))))

      -- The ring with the chord is a drawing.
      pub crease_drawing : IsDrawing points (es ++ c ∷ [])
      crease_drawing = add_edge points es c (plain_drawing points es near apart ring enough cycle) joined_ends fresh meets where
        joined_ends : Joins n c
        joined_ends = by_chord (λ x. Joins n x) (record { first = i_low; second = jn; differ = λ e. omega (arith, e, ij) }) (record { first = jn; second = i_low; differ = λ e. omega (arith, e, ij) })

-- A convex ring cut by a chord has two faces, the corners on either side of it.
use Rattle.std.proofs.Common.{◌≡◌, ◌≢◌, ℕ, zero, suc, ◌+◌, ◌-◌, ◌<◌, ◌≤◌, ◌==◌, ◌⊎◌, inl, inr, refl, sym, ◌∙◌, ap, subst, arith, lit<, ℤ, pos, ◌+ℤ◌, ◌*ℤ◌, ◌<ℤ◌, ◌≤ℤ◌, Bool, true, false, ◌&&◌, ◌||◌, IsTrue, List, [], ◌∷◌, ◌++◌, length, Some, nat_lt}
use Rattle.std.proofs.lemmas.Int.{ints}
use Rattle.std.specs.List.{All}
use Rattle.std.proofs.lemmas.Bool.{cases_lt, lt-ltb}
use Rattle.std.proofs.lemmas.Bool.Decides.{nat_tests}
use Rattle.std.proofs.lemmas.List.{length-map}
use Rattle.std.proofs.lemmas.List.FromFn.{get_or-range_with_len, length-range_with_len}
use Rattle.ff_basics.proofs.Numbers.{same_number}
use Rattle.ff_whole.specs.declared.points.Pt.{Pt}
use Rattle.ff_whole.specs.Points.{turn, IsNear}
use Rattle.ff_whole.specs.Convex.{next, point_at, left_of, AreApart, IsConvex}
use Rattle.ff_whole.proofs.Signs.{linear, nonneg-mul_nonpos}
use Rattle.ff_whole.proofs.Directions.{turn-first}
use Rattle.ff_whole.proofs.ClosedLists.{next-below}
use Rattle.ff_types.specs.declared.patterns.EdgeEnds.{EdgeEnds}
use Rattle.ff_types.specs.declared.patterns.Mark.{Mark}
use Rattle.ff_types.specs.declared.patterns.Mark.TheVariants.{B, M, V, F, U}
use Rattle.ff_types.specs.Patterns.{edge_at}
use Rattle.ff_types.specs.Drawings.{joins, joined, first_point, last_point}
use Rattle.ff_types.specs.Rings.{corner, after, corners, Goes, IsRing, IsStrictlyIn, IsMixStrictlyIn}
use Rattle.ff_types.specs.Areas.{area}
use Rattle.ff_types.specs.Faces.{ring_at, mark_at, Belongs, IsOuter, IsOuterWalk, FitsMark, AreRings, AreChained, list_before}
use Rattle.ff_types.proofs.ComputedFaces.{joins_is}
use Rattle.ff_types.proofs.ConvexEdges.{turn-last, turn_cycled, turn_swapped}
use Rattle.ff_types.proofs.SubRings.{Rises, corner_point, sub_convex}
use Rattle.ff_types.specs.PlainSheets.{IsCycle}
use Rattle.ff_types.specs.OneCrease.{inner, outer}
use Rattle.ff_types.proofs.CutRings.{inner_rises, outer_rises, inner_goes, inner_closes, inner_steps, outer_goes, outer_crosses, outer_steps, outer_length, outer_first, outer_second}
use Rattle.ff_types.proofs.PlainSheets.{sweep, no_area, joined_at, some_joins, joins_itself, turned_round, next_once, next_back}
use Rattle.ff_types.proofs.OneCrease.{IsChord, which_edge, at_front, at_end, longer}

-- ---- strictly inside a ring of listed corners

step_left : (points : List Pt) (list : List ℕ) (a : ℕ) (p : Pt) → a < length list → left_of (corners points list) a p ≡ turn (point_at points (corner list a)) (point_at points (after list a)) p
step_left points list a p h = rw (length-map list (point_at points), corner_point points list a h, corner_point points list (next (length list) a) (next-below (length list) a h)) refl

listed : (points : List Pt) (list : List ℕ) (a : ℕ) → a < length list → a < length (corners points list)
listed points list a h = subst (λ m. a < m) (sym (length-map list (point_at points))) h

-- how far left of the step from u to v a point is
along : (points : List Pt) (list : List ℕ) (u v : ℕ) (p : Pt) → (g : Goes list u v) → left_of (corners points list) g.place p ≡ turn (point_at points u) (point_at points v) p
along points list u v p g = step_left points list g.place p g.inside ∙ (ap (λ x. turn (point_at points x) (point_at points (after list g.place)) p) g.from ∙ ap (λ y. turn (point_at points u) (point_at points y) p) g.to)

strictly_at : (points : List Pt) (list : List ℕ) (u v : ℕ) (p : Pt) → Goes list u v → IsStrictlyIn (corners points list) p → pos 0 <ℤ turn (point_at points u) (point_at points v) p
strictly_at points list u v p g s = subst (λ z. pos 0 <ℤ z) (along points list u v p g) (s g.place (listed points list g.place g.inside))

mixed_at : (points : List Pt) (list : List ℕ) (u v : ℕ) (s t : ℕ) (p q : Pt) → Goes list u v → IsMixStrictlyIn (corners points list) s p t q → pos 0 <ℤ (pos s *ℤ turn (point_at points u) (point_at points v) p +ℤ pos t *ℤ turn (point_at points u) (point_at points v) q)
mixed_at points list u v s t p q g m = subst (λ z. pos 0 <ℤ (pos s *ℤ z +ℤ pos t *ℤ turn (point_at points u) (point_at points v) q)) (along points list u v p g)
    (subst (λ z. pos 0 <ℤ (pos s *ℤ left_of (corners points list) g.place p +ℤ pos t *ℤ z)) (along points list u v q g) (m g.place (listed points list g.place g.inside)))

out : (z : ℤ) → z ≤ℤ pos 0 → pos 0 <ℤ z → ⊥
out z h k = omega (arith, linear)

mixed_out : (s t : ℕ) (a b : ℤ) → a ≤ℤ pos 0 → b ≤ℤ pos 0 → pos 0 <ℤ (pos s *ℤ a +ℤ pos t *ℤ b) → ⊥
mixed_out s t a b h k l = let x = nonneg-mul_nonpos (pos s) a (omega (arith, ints)) h in let y = nonneg-mul_nonpos (pos t) b (omega (arith, ints)) k in omega (arith, linear)

at_most : (z : ℤ) → z ≡ pos 0 → z ≤ℤ pos 0
at_most z e = omega (arith, linear)

-- ---- two rings that share an edge and no side are the faces

pub record AreTwo (points : List Pt) (edges : List EdgeEnds) (marks : List Mark) (p q : List ℕ) : Type 0 where
  pub first : IsRing points edges p
  pub second : IsRing points edges q
  pub apart : (u v : ℕ) → Goes p u v → Goes q u v → ⊥
  pub shared : (u v : ℕ) × Goes p u v × Goes q v u
  pub fit : (e : ℕ) → e < length edges → FitsMark (p ∷ q ∷ []) (edge_at edges e) (mark_at marks e)
  pub leaves : (u v w : ℕ) → IsOuter edges (p ∷ q ∷ []) u v → IsOuter edges (p ∷ q ∷ []) u w → v ≡ w
  pub no_hole : (walk : List ℕ) → IsOuterWalk edges (p ∷ q ∷ []) walk → area points walk ≤ℤ pos 0
  pub first_least : (i : ℕ) → i < length p → corner p 0 ≤ corner p i
  pub second_least : (i : ℕ) → i < length q → corner q 0 ≤ corner q i
  pub sorted : IsTrue (list_before p q)

pub two_rings : (points : List Pt) (edges : List EdgeEnds) (marks : List Mark) (p q : List ℕ) → AreTwo points edges marks p q → AreRings points edges (Some marks) (p ∷ q ∷ [])
two_rings points edges marks p q t = record {
  each = each;
  one = one;
  fit = t.fit;
  chained = chained;
  leaves = t.leaves;
  no_hole = t.no_hole;
  least = least;
  sorted = sorted;
} where
  each : (f : ℕ) → f < 2 → IsRing points edges (ring_at (p ∷ q ∷ []) f)
  each zero h = t.first
  each (suc zero) h = t.second
  each (suc (suc f)) h = absurd (omega (arith, h))

  one : (f g u v : ℕ) → f < 2 → g < 2 → Goes (ring_at (p ∷ q ∷ []) f) u v → Goes (ring_at (p ∷ q ∷ []) g) u v → f ≡ g
  one zero zero u v h l a b = refl
  one zero (suc zero) u v h l a b = absurd (t.apart u v a b)
  one (suc zero) zero u v h l a b = absurd (t.apart u v b a)
  one (suc zero) (suc zero) u v h l a b = refl
  one zero (suc (suc g)) u v h l a b = absurd (omega (arith, l))
  one (suc zero) (suc (suc g)) u v h l a b = absurd (omega (arith, l))
  one (suc (suc f)) g u v h l a b = absurd (omega (arith, h))

  chained : (f g : ℕ) → f < 2 → g < 2 → AreChained (p ∷ q ∷ []) f g
  chained zero zero h l = ([], refl)
  chained zero (suc zero) h l = (1 ∷ [], (lit< tt, t.shared, refl))
  chained (suc zero) zero h l = (0 ∷ [], (lit< tt, (t.shared.1, t.shared.0, t.shared.3, t.shared.2), refl))
  chained (suc zero) (suc zero) h l = ([], refl)
  chained zero (suc (suc g)) h l = absurd (omega (arith, l))
  chained (suc zero) (suc (suc g)) h l = absurd (omega (arith, l))
  chained (suc (suc f)) g h l = absurd (omega (arith, h))

  least : (f i : ℕ) → f < 2 → i < length (ring_at (p ∷ q ∷ []) f) → corner (ring_at (p ∷ q ∷ []) f) 0 ≤ corner (ring_at (p ∷ q ∷ []) f) i
  least zero i h l = t.first_least i l
  least (suc zero) i h l = t.second_least i l
  least (suc (suc f)) i h l = absurd (omega (arith, h))

  sorted : (f g : ℕ) → f < g → g < 2 → IsTrue (list_before (ring_at (p ∷ q ∷ []) f) (ring_at (p ∷ q ∷ []) g))
  sorted f zero h l = absurd (omega (arith, h))
  sorted zero (suc zero) h l = t.sorted
  sorted (suc f) (suc zero) h l = absurd (omega (arith, h))
  sorted f (suc (suc g)) h l = absurd (omega (arith, l))

-- ---- lists in dictionary order

pub before_first : (p q : List ℕ) → 0 < length p → 0 < length q → corner p 0 < corner q 0 → IsTrue (list_before p q)
before_first [] q h l m = absurd (omega (arith, h))
before_first (x ∷ p) [] h l m = absurd (omega (arith, l))
before_first (x ∷ p) (y ∷ q) h l m = rw (lt-ltb x y m) refl

pub before_second : (p q : List ℕ) → 1 < length p → 1 < length q → corner p 0 ≡ corner q 0 → corner p 1 < corner q 1 → IsTrue (list_before p q)
before_second [] q h l e m = absurd (omega (arith, h))
before_second (x ∷ []) q h l e m = absurd (omega (arith, h))
before_second (x ∷ y ∷ p) [] h l e m = absurd (omega (arith, l))
before_second (x ∷ y ∷ p) (z ∷ []) h l e m = absurd (omega (arith, l))
before_second (x ∷ y ∷ p) (z ∷ w ∷ q) h l e m = by (nat_lt x z) where
  rest : IsTrue ((x == z) && (nat_lt y w || ((y == w) && list_before p q)))
  rest = rw (e, same_number z, lt-ltb y w m) refl

  by : (b : Bool) → IsTrue (b || ((x == z) && (nat_lt y w || ((y == w) && list_before p q))))
  by true = refl
  by false = rest

-- ---- which vertices the edges join

data Way (n i j u v : ℕ) : Type 0 where
  forward : u < n → v ≡ next n u → Way n i j u v
  backward : v < n → u ≡ next n v → Way n i j u v
  across : u ≡ i → v ≡ j → Way n i j u v
  back : u ≡ j → v ≡ i → Way n i j u v

-- numbers that rise differ
differ : {n : ℕ} (list : List ℕ) → Rises n list → (a b : ℕ) → a < length list → b < length list → corner list a ≡ corner list b → a ≡ b
differ list r a b h l e = elim (cases_lt a b) [
  | inl m ↦ absurd (omega (arith, r.rising a b m l, e))
  | inr m ↦ elim (cases_lt b a) [ inl o ↦ absurd (omega (arith, r.rising b a o h, e)) | inr o ↦ omega (arith, m, o) ]
]

least_of : (n : ℕ) (list : List ℕ) → Rises n list → (a : ℕ) → a < length list → corner list 0 ≤ corner list a
least_of n list r zero h = omega arith
least_of n list r (suc a) h = let l = r.rising 0 (suc a) (omega arith) h in omega (arith, l)

joins_turned : (a b : ℕ) → IsTrue (joins b a (record { a = a; b = b }))
joins_turned a b = by (a == b && b == a) where
  by : (t : Bool) → IsTrue (t || (a == a && b == b))
  by true = refl
  by false = rw (same_number a, same_number b) refl

not_border : (rings : List (List ℕ)) (e : EdgeEnds) (m : Mark) → m ≢ B → Belongs rings e.a e.b → Belongs rings e.b e.a → FitsMark rings e m
not_border rings e B n x y = absurd (n refl)
not_border rings e M n x y = (x, y)
not_border rings e V n x y = (x, y)
not_border rings e F n x y = (x, y)
not_border rings e U n x y = (x, y)

module _ (points : List Pt) (near : All IsNear points) (apart : AreApart points) (ring : IsConvex points) (enough : 3 ≤ length points) (i j : ℕ) (chord : IsChord points i j)
    (es : List EdgeEnds) (cycle : IsCycle (length points) es) (c : EdgeEnds) (ends : (c ≡ record { a = i; b = j }) ⊎ (c ≡ record { a = j; b = i })) where
  abbrev R : ℕ → Pt
  R k = point_at points k

  abbrev n : ℕ
  n = length points

  abbrev edges : List EdgeEnds
  edges = es ++ c ∷ []

  i_low : i < n
  i_low = omega (arith, chord.far, chord.low)

  below_es : (k : ℕ) → k < n → k < length es
  below_es k h = subst (λ m. k < m) (sym cycle.as_many) h

  below_edges : (k : ℕ) → k < n → k < length edges
  below_edges k h = omega (arith, below_es k h, longer es c)

  at_step : (k : ℕ) → k < n → edge_at edges k ≡ record { a = k; b = next n k }
  at_step k h = at_front es c k (below_es k h) ∙ cycle.joined k h

  joined_step : (k : ℕ) → k < n → IsTrue (joined edges k (next n k)) × IsTrue (joined edges (next n k) k)
  joined_step k h = (
    joined_at edges k k (next n k) (below_edges k h) (subst (λ x. IsTrue (joins k (next n k) x)) (sym (at_step k h)) (joins_itself k (next n k))),
    joined_at edges k (next n k) k (below_edges k h) (subst (λ x. IsTrue (joins (next n k) k x)) (sym (at_step k h)) (joins_turned k (next n k))),
  )

  last_edge : length es < length edges
  last_edge = omega (arith, longer es c)

  joins_chord : IsTrue (joins i j c) × IsTrue (joins j i c)
  joins_chord = elim ends [
    | inl e ↦ (subst (λ x. IsTrue (joins i j x)) (sym e) (joins_itself i j), subst (λ x. IsTrue (joins j i x)) (sym e) (joins_turned i j))
    | inr e ↦ (subst (λ x. IsTrue (joins i j x)) (sym e) (joins_turned j i), subst (λ x. IsTrue (joins j i x)) (sym e) (joins_itself j i))
  ]

  joined_chord : IsTrue (joined edges i j) × IsTrue (joined edges j i)
  joined_chord = (joined_at edges (length es) i j last_edge (subst (λ x. IsTrue (joins i j x)) (sym (at_end es c)) joins_chord.0), joined_at edges (length es) j i last_edge (subst (λ x. IsTrue (joins j i x)) (sym (at_end es c)) joins_chord.1))

  way : (u v : ℕ) → IsTrue (joined edges u v) → Way n i j u v
  way u v t = by (some_joins edges u v t) where
    of_chord : IsTrue (joins u v c) → Way n i j u v
    of_chord t = elim ends [
      | inl e ↦ elim (joins_is (record { a = i; b = j }) u v (subst (λ x. IsTrue (joins u v x)) e t)) [ inl p ↦ across (sym p.0) (sym p.1) | inr p ↦ back (sym p.1) (sym p.0) ]
      | inr e ↦ elim (joins_is (record { a = j; b = i }) u v (subst (λ x. IsTrue (joins u v x)) e t)) [ inl p ↦ back (sym p.0) (sym p.1) | inr p ↦ across (sym p.1) (sym p.0) ]
    ]

    of_step : (k : ℕ) → k < n → IsTrue (joins u v (record { a = k; b = next n k })) → Way n i j u v
    of_step k h t = elim (joins_is (record { a = k; b = next n k }) u v t) [
      | inl p ↦ forward (subst (λ x. x < n) p.0 h) (sym p.1 ∙ ap (next n) p.0)
      | inr p ↦ backward (subst (λ x. x < n) p.0 h) (sym p.1 ∙ ap (next n) p.0)
    ]

    by : (e : ℕ) × (e < length edges) × IsTrue (joins u v (edge_at edges e)) → Way n i j u v
    by (e, h, t) = elim (which_edge es c e h) [
      | inl x ↦ (let l : e < n = subst (λ m. e < m) cycle.as_many x.0 in of_step e l (subst (λ y. IsTrue (joins u v y)) (at_step e l) t))
      | inr x ↦ of_chord (subst (λ y. IsTrue (joins u v y)) x.1 t)
    ]

  -- ---- the two lists are rings

  back_side : (x : ℕ) → (x ≤ i) ⊎ (j ≤ x) → x < n → turn (R j) (R i) (R x) ≤ℤ pos 0
  back_side x h l = let a = chord.left x h l in let b = turn_cycled (R j) (R i) (R x) in let d = turn_swapped (R i) (R x) (R j) in omega (arith, linear)

  side_next : (k : ℕ) → (k < i) ⊎ (j ≤ k) → k < n → (next n k ≤ i) ⊎ (j ≤ next n k)
  side_next k (inl h) l = inl (let e : next n k ≡ k + 1 = grind (arith, nat_tests, h, i_low) in omega (arith, e, h))
  side_next k (inr h) l = elim (cases_lt (k + 1) n) [
    | inl m ↦ inr (let e : next n k ≡ k + 1 = grind (arith, nat_tests, m) in omega (arith, e, h))
    | inr m ↦ inl (let e : next n k ≡ 0 = grind (arith, nat_tests, m) in omega (arith, e))
  ]

  between_next : (k : ℕ) → k < j → next n k ≡ k + 1
  between_next k h = let l : k + 1 < n = omega (arith, h, chord.low) in grind (arith, nat_tests, l)

  -- an edge of the drawing: a step, or the chord in one direction
  by_edge : (P : EdgeEnds → Type 0) → ((k : ℕ) → k < n → P (record { a = k; b = next n k })) → P (record { a = i; b = j }) → P (record { a = j; b = i }) → (e : ℕ) → e < length edges → P (edge_at edges e)
  by_edge P f x y e h = elim (which_edge es c e h) [
    | inl z ↦ (let l : e < n = subst (λ m. e < m) cycle.as_many z.0 in subst P (sym (at_step e l)) (f e l))
    | inr z ↦ subst P (sym z.1) (elim ends [ inl w ↦ subst P (sym w) x | inr w ↦ subst P (sym w) y ])
  ]

  where_at : (k : ℕ) → ((i ≤ k) × (k < j)) ⊎ ((k < i) ⊎ (j ≤ k))
  where_at k = elim (cases_lt k i) [ inl h ↦ inr (inl h) | inr h ↦ elim (cases_lt k j) [ inl l ↦ inl (h, l) | inr l ↦ inr (inr l) ] ]

  weaker : (k : ℕ) → (k < i) ⊎ (j ≤ k) → (k ≤ i) ⊎ (j ≤ k)
  weaker k (inl h) = inl (omega (arith, h))
  weaker k (inr h) = inr h

  joined_by : (list : List ℕ) (u v : ℕ) → (((u < n) × (v ≡ next n u)) ⊎ (((u ≡ i) × (v ≡ j)) ⊎ ((u ≡ j) × (v ≡ i)))) → IsTrue (joined edges u v)
  joined_by list u v (inl x) = subst (λ y. IsTrue (joined edges u y)) (sym x.1) (joined_step u x.0).0
  joined_by list u v (inr (inl x)) = subst (λ y. IsTrue (joined edges y v)) (sym x.0) (subst (λ y. IsTrue (joined edges i y)) (sym x.1) joined_chord.0)
  joined_by list u v (inr (inr x)) = subst (λ y. IsTrue (joined edges y v)) (sym x.0) (subst (λ y. IsTrue (joined edges j y)) (sym x.1) joined_chord.1)

  place_goes : (list : List ℕ) (a : ℕ) → a < length list → Goes list (corner list a) (after list a)
  place_goes list a h = record { place = a; inside = h; from = refl; to = refl }

  inner_long : 3 ≤ length (inner i j)
  inner_long = omega (arith, length-range_with_len i (j + 1 - i), chord.far)

  inner_size : length (inner i j) ≡ j + 1 - i
  inner_size = length-range_with_len i (j + 1 - i)

  inner_at : (a : ℕ) → a < length (inner i j) → corner (inner i j) a ≡ i + a
  inner_at a h = get_or-range_with_len i (j + 1 - i) a 0 (subst (λ m. a < m) inner_size h)

  bent_inner : (a b d : ℕ) → a < length (inner i j) → b < length (inner i j) → d < length (inner i j) → i + a ≡ i → i + b ≡ j → (m : ℕ) → i + d ≡ m → turn (R i) (R j) (R m) <ℤ pos 0
      → turn (point_at points (corner (inner i j) a)) (point_at points (corner (inner i j) b)) (point_at points (corner (inner i j) d)) ≢ pos 0
  bent_inner a b d h k l e f m g t z = out_of (subst (λ x. turn (R x) (point_at points (corner (inner i j) b)) (point_at points (corner (inner i j) d)) ≡ pos 0) (inner_at a h ∙ e) z) where
    out_of : turn (R i) (point_at points (corner (inner i j) b)) (point_at points (corner (inner i j) d)) ≡ pos 0 → ⊥
    out_of y = let w = subst (λ x. turn (R i) (R j) (R x) ≡ pos 0) (inner_at d l ∙ g) (subst (λ x. turn (R i) (R x) (point_at points (corner (inner i j) d)) ≡ pos 0) (inner_at b k ∙ f) y) in omega (arith, linear)

  inner_convex : IsConvex (corners points (inner i j))
  inner_convex = by chord.some_right where
    by : (m : ℕ) × (i < m) × (m < j) × (turn (R i) (R j) (R m) <ℤ pos 0) → IsConvex (corners points (inner i j))
    by (m, h, l, t) = sub_convex points near apart ring (omega (arith, enough)) (inner i j) (inner_rises n i j chord.far chord.low) 0 (j - i) (m - i) (omega (arith, inner_long)) (omega (arith, inner_size, chord.far)) (omega (arith, inner_size, h, l)) (omega (arith, inner_long))
        (bent_inner 0 (j - i) (m - i) (omega (arith, inner_long)) (omega (arith, inner_size, chord.far)) (omega (arith, inner_size, h, l)) (omega arith) (omega (arith, chord.far)) m (omega (arith, h)) t)

  turn_none : (u v : ℕ) → turn (R u) (R v) (R u) ≤ℤ pos 0
  turn_none u v = at_most _ (turn-first (R u) (R v))

  turn_end : (u v : ℕ) → turn (R u) (R v) (R v) ≤ℤ pos 0
  turn_end u v = at_most _ (turn-last (R u) (R v))

  pub inner_ring : IsRing points edges (inner i j)
  inner_ring = record {
    three = inner_long;
    there = λ a h. (inner_rises n i j chord.far chord.low).low a h;
    differ = differ (inner i j) (inner_rises n i j chord.far chord.low);
    joins = λ a h. joined_by (inner i j) (corner (inner i j) a) (after (inner i j) a) (elim (inner_steps n i j chord.far chord.low _ _ (place_goes (inner i j) a h)) [
      | inl x ↦ inl (omega (arith, x.1, chord.low), x.2)
      | inr x ↦ inr (inr x)
    ]);
    convex = inner_convex;
    no_vertex = λ v h s. elim (where_at v) [
      | inl x ↦ out _ (turn_none v (next n v)) (strictly_at points (inner i j) v (next n v) (R v) (inner_goes n i j chord.far chord.low v x.0 x.1) s)
      | inr x ↦ out _ (back_side v (weaker v x) h) (strictly_at points (inner i j) j i (R v) (inner_closes n i j chord.far chord.low) s)
    ];
    no_point = λ e s t h some. by_edge (λ x. IsMixStrictlyIn (corners points (inner i j)) s (first_point points x) t (last_point points x) → ⊥)
        (λ k l m. elim (where_at k) [
          | inl x ↦ mixed_out s t _ _ (turn_none k (next n k)) (turn_end k (next n k)) (mixed_at points (inner i j) k (next n k) s t (R k) (R (next n k)) (inner_goes n i j chord.far chord.low k x.0 x.1) m)
          | inr x ↦ mixed_out s t _ _ (back_side k (weaker k x) l) (back_side (next n k) (side_next k x l) (next-below n k l)) (mixed_at points (inner i j) j i s t (R k) (R (next n k)) (inner_closes n i j chord.far chord.low) m)
        ])
        (λ m. mixed_out s t _ _ (turn_end j i) (turn_none j i) (mixed_at points (inner i j) j i s t (R i) (R j) (inner_closes n i j chord.far chord.low) m))
        (λ m. mixed_out s t _ _ (turn_none j i) (turn_end j i) (mixed_at points (inner i j) j i s t (R j) (R i) (inner_closes n i j chord.far chord.low) m)) e h;
  }

  outer_size : length (outer n i j) ≡ i + 1 + (n - j)
  outer_size = outer_length n i j chord.far chord.low

  outer_convex : IsConvex (corners points (outer n i j))
  outer_convex = by chord.some_left where
    rises : Rises n (outer n i j)
    rises = outer_rises n i j chord.far chord.low

    over : Goes (outer n i j) i j
    over = outer_crosses n i j chord.far chord.low

    two : 2 ≤ length (outer n i j)
    two = omega (arith, outer_size, chord.low)

    by : (o : ℕ) × ((o < i) ⊎ (j < o)) × (o < n) × (pos 0 <ℤ turn (R i) (R j) (R o)) → IsConvex (corners points (outer n i j))
    by (o, h, l, t) = sub_convex points near apart ring (omega (arith, enough)) (outer n i j) rises over.place (next (length (outer n i j)) over.place) at_o.place over.inside (next-below (length (outer n i j)) over.place over.inside) at_o.inside two bent where
      side : (o < i) ⊎ (j < o) → (o < i) ⊎ (j ≤ o)
      side (inl x) = inl x
      side (inr x) = inr (omega (arith, x))

      at_o : Goes (outer n i j) o (next n o)
      at_o = outer_goes n i j chord.far chord.low o (side h) l

      bent : turn (point_at points (corner (outer n i j) over.place)) (point_at points (corner (outer n i j) (next (length (outer n i j)) over.place))) (point_at points (corner (outer n i j) at_o.place)) ≢ pos 0
      bent z = let w = subst (λ x. turn (R i) (R j) (R x) ≡ pos 0) at_o.from (subst (λ x. turn (R i) (R x) (point_at points (corner (outer n i j) at_o.place)) ≡ pos 0) over.to (subst (λ x. turn (R x) (point_at points (after (outer n i j) over.place)) (point_at points (corner (outer n i j) at_o.place)) ≡ pos 0) over.from z)) in omega (arith, linear)

  right_next : (k : ℕ) → i ≤ k → k < j → turn (R i) (R j) (R (next n k)) ≤ℤ pos 0
  right_next k h l = subst (λ x. turn (R i) (R j) (R x) ≤ℤ pos 0) (sym (between_next k l)) (chord.right (k + 1) (omega (arith, h)) (omega (arith, l)))

  pub outer_ring : IsRing points edges (outer n i j)
  outer_ring = record {
    three = three chord.some_left;
    there = λ a h. (outer_rises n i j chord.far chord.low).low a h;
    differ = differ (outer n i j) (outer_rises n i j chord.far chord.low);
    joins = λ a h. joined_by (outer n i j) (corner (outer n i j) a) (after (outer n i j) a) (elim (outer_steps n i j chord.far chord.low _ _ (place_goes (outer n i j) a h)) [
      | inl x ↦ inl (x.1, x.2)
      | inr x ↦ inr (inl x)
    ]);
    convex = outer_convex;
    no_vertex = λ v h s. elim (where_at v) [
      | inl x ↦ out _ (chord.right v x.0 (omega (arith, x.1))) (strictly_at points (outer n i j) i j (R v) (outer_crosses n i j chord.far chord.low) s)
      | inr x ↦ out _ (turn_none v (next n v)) (strictly_at points (outer n i j) v (next n v) (R v) (outer_goes n i j chord.far chord.low v x h) s)
    ];
    no_point = λ e s t h some. by_edge (λ x. IsMixStrictlyIn (corners points (outer n i j)) s (first_point points x) t (last_point points x) → ⊥)
        (λ k l m. elim (where_at k) [
          | inl x ↦ mixed_out s t _ _ (chord.right k x.0 (omega (arith, x.1))) (right_next k x.0 x.1) (mixed_at points (outer n i j) i j s t (R k) (R (next n k)) (outer_crosses n i j chord.far chord.low) m)
          | inr x ↦ mixed_out s t _ _ (turn_none k (next n k)) (turn_end k (next n k)) (mixed_at points (outer n i j) k (next n k) s t (R k) (R (next n k)) (outer_goes n i j chord.far chord.low k x l) m)
        ])
        (λ m. mixed_out s t _ _ (turn_none i j) (turn_end i j) (mixed_at points (outer n i j) i j s t (R i) (R j) (outer_crosses n i j chord.far chord.low) m))
        (λ m. mixed_out s t _ _ (turn_end i j) (turn_none i j) (mixed_at points (outer n i j) i j s t (R j) (R i) (outer_crosses n i j chord.far chord.low) m)) e h;
  } where
    three : (o : ℕ) × ((o < i) ⊎ (j < o)) × (o < n) × (pos 0 <ℤ turn (R i) (R j) (R o)) → 3 ≤ length (outer n i j)
    three (o, inl h, l, t) = omega (arith, outer_size, h, chord.low)
    three (o, inr h, l, t) = omega (arith, outer_size, h, l)

  -- ---- they are the faces, whichever comes first

  no_common : (u v : ℕ) → Goes (inner i j) u v → Goes (outer n i j) u v → ⊥
  no_common u v g h = by (inner_steps n i j chord.far chord.low u v g) (outer_steps n i j chord.far chord.low u v h) where
    by : ((i ≤ u) × (u < j) × (v ≡ next n u)) ⊎ ((u ≡ j) × (v ≡ i)) → (((u < i) ⊎ (j ≤ u)) × (u < n) × (v ≡ next n u)) ⊎ ((u ≡ i) × (v ≡ j)) → ⊥
    by (inl x) (inl (inl y, z, w)) = omega (arith, x.0, y)
    by (inl x) (inl (inr y, z, w)) = omega (arith, x.1, y)
    by (inl x) (inr y) = omega (arith, sym x.2 ∙ y.1, between_next u x.1, y.0, chord.far)
    by (inr x) (inl y) = chord.apart (ap (next n) (sym x.0) ∙ (sym y.2 ∙ x.1))
    by (inr x) (inr y) = omega (arith, x.0, y.0, chord.far)

  no_back_inner : (k : ℕ) → k < n → Goes (inner i j) (next n k) k → ⊥
  no_back_inner k h g = elim (inner_steps n i j chord.far chord.low (next n k) k g) [
    | inl x ↦ next_back n k enough h (sym x.2)
    | inr x ↦ (let e = between_next i (omega (arith, chord.far)) in let f = ap (next n) (sym x.1) in let d = x.0 in omega (arith, e, f, d, chord.far))
  ]

  no_back_outer : (k : ℕ) → k < n → Goes (outer n i j) (next n k) k → ⊥
  no_back_outer k h g = elim (outer_steps n i j chord.far chord.low (next n k) k g) [
    | inl x ↦ next_back n k enough h (sym x.2)
    | inr x ↦ chord.apart (ap (next n) (sym x.1) ∙ x.0)
  ]

  module _ (marks : List Mark) (border : (e : ℕ) → e < length points → mark_at marks e ≡ B) (crease : mark_at marks (length points) ≢ B) where
    module _ (rings : List (List ℕ)) (of_inner : (u v : ℕ) → Goes (inner i j) u v → Belongs rings u v) (of_outer : (u v : ℕ) → Goes (outer n i j) u v → Belongs rings u v)
        (one_of : (u v : ℕ) → Belongs rings u v → Goes (inner i j) u v ⊎ Goes (outer n i j) u v) where
      step_belongs : (k : ℕ) → k < n → Belongs rings k (next n k)
      step_belongs k h = elim (where_at k) [ inl x ↦ of_inner k (next n k) (inner_goes n i j chord.far chord.low k x.0 x.1) | inr x ↦ of_outer k (next n k) (outer_goes n i j chord.far chord.low k x h) ]

      none_back : (k : ℕ) → k < n → Belongs rings (next n k) k → ⊥
      none_back k h b = elim (one_of (next n k) k b) [ inl g ↦ no_back_inner k h g | inr g ↦ no_back_outer k h g ]

      over : Belongs rings i j
      over = of_outer i j (outer_crosses n i j chord.far chord.low)

      under : Belongs rings j i
      under = of_inner j i (inner_closes n i j chord.far chord.low)

      fits : (e : ℕ) → e < length edges → FitsMark rings (edge_at edges e) (mark_at marks e)
      fits e h = elim (which_edge es c e h) [
        | inl z ↦ (let l : e < n = subst (λ m. e < m) cycle.as_many z.0 in subst (λ m. FitsMark rings (edge_at edges e) m) (sym (border e l)) (subst (λ k. FitsMark rings k B) (sym (at_step e l)) (inl (step_belongs e l, none_back e l))))
        | inr z ↦ subst (λ k. FitsMark rings k (mark_at marks e)) (sym z.1) (elim ends [
          | inl w ↦ subst (λ k. FitsMark rings k (mark_at marks e)) (sym w) (not_border rings (record { a = i; b = j }) (mark_at marks e) (creased z.0) over under)
          | inr w ↦ subst (λ k. FitsMark rings k (mark_at marks e)) (sym w) (not_border rings (record { a = j; b = i }) (mark_at marks e) (creased z.0) under over)
        ])
      ] where
        creased : e ≡ length es → mark_at marks e ≢ B
        creased x y = crease (ap (mark_at marks) (sym (x ∙ cycle.as_many)) ∙ y)

      outside_is : (u v : ℕ) → IsOuter edges rings u v → (v < n) × (u ≡ next n v)
      outside_is u v o = by (way u v o.edge) where
        by : Way n i j u v → (v < n) × (u ≡ next n v)
        by (forward h e) = absurd (o.none (subst (λ y. Belongs rings u y) (sym e) (step_belongs u h)))
        by (backward h e) = (h, e)
        by (across e f) = absurd (o.none (subst (λ x. Belongs rings x v) (sym e) (subst (λ y. Belongs rings i y) (sym f) over)))
        by (back e f) = absurd (o.none (subst (λ x. Belongs rings x v) (sym e) (subst (λ y. Belongs rings j y) (sym f) under)))

      leave : (u v w : ℕ) → IsOuter edges rings u v → IsOuter edges rings u w → v ≡ w
      leave u v w a b = let p = outside_is u v a in let q = outside_is u w b in next_once n v w p.0 q.0 (sym p.1 ∙ q.1)

      sweeps : (u v : ℕ) → IsOuter edges rings u v → sweep points (R 0) u v ≤ℤ pos 0
      sweeps u v o =
          let p = outside_is u v o in
          let e = turned_round (R v) (R (next n v)) (R 0) in
          let l = ring.left v 0 p.0 (omega (arith, enough)) in
          subst (λ x. sweep points (R 0) x v ≤ℤ pos 0) (sym p.1) (let z : sweep points (R 0) (next n v) v ≤ℤ pos 0 = omega (arith, linear) in z)

      holeless : (walk : List ℕ) → IsOuterWalk edges rings walk → area points walk ≤ℤ pos 0
      holeless walk w = no_area points (R 0) walk (λ a h. sweeps (corner walk a) (after walk a) (w.steps a h))

    -- from the first corner the crease leads: the corners between come first
    pub crease_from_first : i ≡ 0 → AreRings points edges (Some marks) (inner i j ∷ outer n i j ∷ [])
    crease_from_first zero_is = two_rings points edges marks (inner i j) (outer n i j) (record {
      first = inner_ring;
      second = outer_ring;
      apart = no_common;
      shared = (j, i, inner_closes n i j chord.far chord.low, outer_crosses n i j chord.far chord.low);
      fit = fits (inner i j ∷ outer n i j ∷ []) of_inner of_outer one_of;
      leaves = leave (inner i j ∷ outer n i j ∷ []) of_inner of_outer one_of;
      no_hole = holeless (inner i j ∷ outer n i j ∷ []) of_inner of_outer one_of;
      first_least = least_of n (inner i j) (inner_rises n i j chord.far chord.low);
      second_least = least_of n (outer n i j) (outer_rises n i j chord.far chord.low);
      sorted = before_second (inner i j) (outer n i j) (omega (arith, inner_long)) (omega (arith, outer_size, chord.low)) same_start later;
    }) where
      of_inner : (u v : ℕ) → Goes (inner i j) u v → Belongs (inner i j ∷ outer n i j ∷ []) u v
      of_inner u v g = (0, lit< tt, g)

      of_outer : (u v : ℕ) → Goes (outer n i j) u v → Belongs (inner i j ∷ outer n i j ∷ []) u v
      of_outer u v g = (1, lit< tt, g)

      one_of : (u v : ℕ) → Belongs (inner i j ∷ outer n i j ∷ []) u v → Goes (inner i j) u v ⊎ Goes (outer n i j) u v
      one_of u v (zero, h, g) = inl g
      one_of u v (suc zero, h, g) = inr g
      one_of u v (suc (suc f), h, g) = absurd (omega (arith, h))

      same_start : corner (inner i j) 0 ≡ corner (outer n i j) 0
      same_start = inner_at 0 (omega (arith, inner_long)) ∙ (ap (λ x. x + 0) zero_is ∙ sym (outer_first n i j chord.far chord.low 0 (omega arith)))

      later : corner (inner i j) 1 < corner (outer n i j) 1
      later = let e = inner_at 1 (omega (arith, inner_long)) in let f = outer_second n i j chord.far chord.low zero_is in omega (arith, e, f, zero_is, chord.far)

    -- and else the others do
    pub crease_from_later : 0 < i → AreRings points edges (Some marks) (outer n i j ∷ inner i j ∷ [])
    crease_from_later some = two_rings points edges marks (outer n i j) (inner i j) (record {
      first = outer_ring;
      second = inner_ring;
      apart = λ u v a b. no_common u v b a;
      shared = (i, j, outer_crosses n i j chord.far chord.low, inner_closes n i j chord.far chord.low);
      fit = fits (outer n i j ∷ inner i j ∷ []) of_inner of_outer one_of;
      leaves = leave (outer n i j ∷ inner i j ∷ []) of_inner of_outer one_of;
      no_hole = holeless (outer n i j ∷ inner i j ∷ []) of_inner of_outer one_of;
      first_least = least_of n (outer n i j) (outer_rises n i j chord.far chord.low);
      second_least = least_of n (inner i j) (inner_rises n i j chord.far chord.low);
      sorted = before_first (outer n i j) (inner i j) (omega (arith, outer_size, chord.low)) (omega (arith, inner_long)) (let e = inner_at 0 (omega (arith, inner_long)) in let f = outer_first n i j chord.far chord.low 0 (omega arith) in omega (arith, e, f, some));
    }) where
      of_inner : (u v : ℕ) → Goes (inner i j) u v → Belongs (outer n i j ∷ inner i j ∷ []) u v
      of_inner u v g = (1, lit< tt, g)

      of_outer : (u v : ℕ) → Goes (outer n i j) u v → Belongs (outer n i j ∷ inner i j ∷ []) u v
      of_outer u v g = (0, lit< tt, g)

      one_of : (u v : ℕ) → Belongs (outer n i j ∷ inner i j ∷ []) u v → Goes (inner i j) u v ⊎ Goes (outer n i j) u v
      one_of u v (zero, h, g) = inr g
      one_of u v (suc zero, h, g) = inl g
      one_of u v (suc (suc f), h, g) = absurd (omega (arith, h))

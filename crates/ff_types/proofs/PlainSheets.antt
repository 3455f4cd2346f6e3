-- A convex ring of different points whose edges join each vertex to the next, all marked as border, is a drawing with one
-- face, whose folding has scale 1 and the points themselves.
use Rattle.std.proofs.Common.{◌≡◌, ◌≢◌, ℕ, zero, suc, ◌+◌, ◌-◌, ◌<◌, ◌≤◌, ◌==◌, ◌⊎◌, inl, inr, refl, sym, ◌∙◌, ap, subst, arith, lit<, ℤ, pos, ◌+ℤ◌, ◌-ℤ◌, ◌*ℤ◌, ◌<ℤ◌, ◌≤ℤ◌, Bool, true, false, ◌||◌, IsTrue, List, [], ◌∷◌, length, Some, None}
use Rattle.std.specs.Prelude.{neg_ℤ}
use lib.IntN.{*ℤ-zero}
use Rattle.ff_whole.proofs.Laws.{one-*ℤ}
use Rattle.std.specs.List.{All}
use Rattle.std.proofs.lemmas.Int.{ints}
use Rattle.std.proofs.lemmas.Bool.{false≢true}
use Rattle.std.proofs.lemmas.Bool.Decides.{nat_tests}
use Rattle.std.proofs.lemmas.List.{ext_get_or}
use Rattle.std.proofs.lemmas.List.FromFn.{get_or-range_with_len, length-range_with_len, length-map-range_with_len, get_or-map-range_with_len}
use Rattle.ff_basics.proofs.Numbers.{same_number}
use Rattle.ff_basics.proofs.Tests.{either_of}
use Rattle.ff_whole.specs.declared.points.Pt.{Pt}
use Rattle.ff_whole.specs.Points.{minus, cross, turn, IsNear, origin}
use Rattle.ff_whole.specs.Convex.{next, point_at, left_of, AreApart, IsConvex}
use Rattle.ff_whole.proofs.Ring.{var, ◌⊕◌, ◌⊖◌, ◌⊗◌, opp, solve}
use Rattle.ff_whole.proofs.Signs.{linear}
use Rattle.ff_whole.proofs.Directions.{turn-first}
use Rattle.ff_whole.proofs.ClosedLists.{next-below, next-apart}
use Rattle.ff_types.specs.declared.patterns.EdgeEnds.{EdgeEnds}
use Rattle.ff_types.specs.declared.patterns.Mark.{Mark}
use Rattle.ff_types.specs.declared.patterns.Mark.TheVariants.{B}
use Rattle.ff_types.specs.declared.faces.EdgeSides.{EdgeSides}
use Rattle.ff_types.specs.Patterns.{edge_at, Joins}
use Rattle.ff_types.specs.Drawings.{IsDrawing, MeetAtEnds, IsEnd, HasTwoEdges, joins, joined, has_end, first_point, last_point}
use Rattle.ff_types.specs.Rings.{corner, after, corners, Goes, IsRing, IsStrictlyIn, IsMixStrictlyIn}
use Rattle.ff_types.specs.Areas.{area, area_from}
use Rattle.ff_types.specs.Faces.{ring_at, mark_at, Belongs, IsOuter, IsOuterWalk, FitsMark, AreRings}
use Rattle.ff_types.specs.Sides.{sides_at, AreSides, AreFaces}
use Rattle.ff_types.specs.PlainSheets.{IsCycle, whole}
use Rattle.ff_types.specs.Foldings.{IsFolding, FitFlags, KeepsShape, RingKeepsShape, is_up, scaled}
use Rattle.ff_types.proofs.ComputedFaces.{joins_is, next_inner, next_last}
use Rattle.ff_types.proofs.ComputedFoldings.{least_one}
use Rattle.ff_types.proofs.ConvexEdges.{inside_alone, turn-last}

-- ---- places of a closed list of at least three

pub next_back : (n i : ℕ) → 3 ≤ n → i < n → next n (next n i) ≡ i → ⊥
next_back n i h l e = grind (arith, nat_tests)

pub next_once : (n i j : ℕ) → i < n → j < n → next n i ≡ next n j → i ≡ j
next_once n i j h l e = grind (arith, nat_tests)

-- ---- the ring of all vertices

corner_is : (n i : ℕ) → i < n → corner (whole n) i ≡ i
corner_is n i h = get_or-range_with_len 0 n i 0 h ∙ zero_more i where
  zero_more : (i : ℕ) → 0 + i ≡ i
  zero_more i = omega arith

after_is : (n i : ℕ) → i < n → after (whole n) i ≡ next n i
after_is n i h = ap (λ m. corner (whole n) (next m i)) (length-range_with_len 0 n) ∙ corner_is n (next n i) (next-below n i h)

corners_are : (points : List Pt) → corners points (whole (length points)) ≡ points
corners_are points = ext_get_or origin _ _ (length-map-range_with_len (point_at points) 0 (length points)) (λ i h. get_or-map-range_with_len (point_at points) 0 (length points) i i origin (subst (λ m. i < m) (length-map-range_with_len (point_at points) 0 (length points)) h) (omega arith))

goes_whole : (n i : ℕ) → i < n → Goes (whole n) i (next n i)
goes_whole n i h = record { place = i; inside = subst (λ m. i < m) (sym (length-range_with_len 0 n)) h; from = corner_is n i h; to = after_is n i h }

goes_next : (n u v : ℕ) → Goes (whole n) u v → (u < n) × (v ≡ next n u)
goes_next n u v g =
    let h : g.place < n = subst (λ m. g.place < m) (length-range_with_len 0 n) g.inside in
    let e : g.place ≡ u = sym (corner_is n g.place h) ∙ g.from in
    (subst (λ m. m < n) e h, sym g.to ∙ (after_is n g.place h ∙ ap (next n) e))

-- ---- edges of a list

pub joined_at : (edges : List EdgeEnds) (e u v : ℕ) → e < length edges → IsTrue (joins u v (edge_at edges e)) → IsTrue (joined edges u v)
joined_at [] e u v h t = absurd (omega (arith, h))
joined_at (k ∷ edges) zero u v h t = rw t refl
joined_at (k ∷ edges) (suc e) u v h t = by (joins u v k) (joined_at edges e u v (omega (arith, h)) t) where
  by : (b : Bool) → IsTrue (joined edges u v) → IsTrue (b || joined edges u v)
  by true t = refl
  by false t = t

pub some_joins : (edges : List EdgeEnds) (u v : ℕ) → IsTrue (joined edges u v) → (e : ℕ) × (e < length edges) × IsTrue (joins u v (edge_at edges e))
some_joins [] u v t = absurd (false≢true t)
some_joins (k ∷ edges) u v t = elim (either_of (joins u v k) (joined edges u v) t) [
  | inl h ↦ (0, omega arith, h)
  | inr h ↦ let r = some_joins edges u v h in (suc r.0, omega (arith, r.1), r.2)
]

pub joins_itself : (a b : ℕ) → IsTrue (joins a b (record { a = a; b = b }))
joins_itself a b = rw (same_number a, same_number b) refl

-- ---- areas

swept : (u v q : Pt) → cross u v ≡ cross (minus u q) (minus v q) +ℤ (cross q v -ℤ cross q u)
swept u v q = solve (u.x ∷ u.y ∷ v.x ∷ v.y ∷ q.x ∷ q.y ∷ []) (var 0 ⊗ var 3 ⊖ var 1 ⊗ var 2)
    (((var 0 ⊖ var 4) ⊗ (var 3 ⊖ var 5) ⊖ (var 1 ⊖ var 5) ⊗ (var 2 ⊖ var 4)) ⊕ ((var 4 ⊗ var 3 ⊖ var 5 ⊗ var 2) ⊖ (var 4 ⊗ var 1 ⊖ var 5 ⊗ var 0))) refl

pub turned_round : (p r q : Pt) → cross (minus r q) (minus p q) ≡ neg_ℤ (turn p r q)
turned_round p r q = solve (p.x ∷ p.y ∷ r.x ∷ r.y ∷ q.x ∷ q.y ∷ []) ((var 2 ⊖ var 4) ⊗ (var 1 ⊖ var 5) ⊖ (var 3 ⊖ var 5) ⊗ (var 0 ⊖ var 4))
    (opp ((var 2 ⊖ var 0) ⊗ (var 5 ⊖ var 1) ⊖ (var 3 ⊖ var 1) ⊗ (var 4 ⊖ var 0))) refl

-- how much the step from u to v sweeps over, seen from q
abbrev pub sweep : List Pt → Pt → ℕ → ℕ → ℤ
sweep points q u v = cross (minus (point_at points u) q) (minus (point_at points v) q)

area_bounded : (points : List Pt) (q : Pt) (first u : ℕ) (rest : List ℕ) → ((i : ℕ) → i + 1 < length (u ∷ rest) → sweep points q (corner (u ∷ rest) i) (corner (u ∷ rest) (i + 1)) ≤ℤ pos 0)
    → sweep points q (corner (u ∷ rest) (length rest)) first ≤ℤ pos 0 → area_from points first (u ∷ rest) ≤ℤ (cross q (point_at points first) -ℤ cross q (point_at points u))
area_bounded points q first u [] steps last = let e = swept (point_at points u) (point_at points first) q in omega (arith, linear)
area_bounded points q first u (v ∷ rest) steps last =
    let e = swept (point_at points u) (point_at points v) q in
    let a = steps 0 (omega arith) in
    let b = area_bounded points q first v rest (λ i h. subst (λ k. sweep points q (corner (v ∷ rest) i) (corner (u ∷ v ∷ rest) k) ≤ℤ pos 0) (shift i) (steps (suc i) (omega (arith, h)))) last in omega (arith, linear) where
      shift : (i : ℕ) → suc i + 1 ≡ suc (i + 1)
      shift i = omega arith

-- A closed walk whose steps all sweep clockwise, seen from one point, has no positive area.
pub no_area : (points : List Pt) (q : Pt) (walk : List ℕ) → ((i : ℕ) → i < length walk → sweep points q (corner walk i) (after walk i) ≤ℤ pos 0) → area points walk ≤ℤ pos 0
no_area points q [] steps = omega (arith, linear)
no_area points q (u ∷ rest) steps =
    let a = area_bounded points q u u rest
    (λ i h. subst (λ k. sweep points q (corner (u ∷ rest) i) (corner (u ∷ rest) k) ≤ℤ pos 0) (next_inner (length (u ∷ rest)) i h) (steps i (omega (arith, h))))
    (subst (λ k. sweep points q (corner (u ∷ rest) (length rest)) (corner (u ∷ rest) k) ≤ℤ pos 0) (next_last (length rest)) (steps (length rest) (omega arith))) in omega (arith, linear)

-- ---- the law

module _ (points : List Pt) (edges : List EdgeEnds) (near : All IsNear points) (apart : AreApart points) (ring : IsConvex points) (enough : 3 ≤ length points) (cycle : IsCycle (length points) edges) where
  abbrev n : ℕ
  n = length points

  abbrev step : ℕ → EdgeEnds
  step i = record { a = i; b = next n i }

  edge_is : (e : ℕ) → e < length edges → edge_at edges e ≡ step e
  edge_is e h = cycle.joined e (subst (λ m. e < m) cycle.as_many h)

  below_n : (e : ℕ) → e < length edges → e < n
  below_n e h = subst (λ m. e < m) cycle.as_many h

  below_edges : (e : ℕ) → e < n → e < length edges
  below_edges e h = subst (λ m. e < m) (sym cycle.as_many) h

  -- ---- it is a drawing

  joins_two : (e : ℕ) → e < length edges → Joins n (edge_at edges e)
  joins_two e h = subst (λ k. Joins n k) (sym (edge_is e h)) (record { first = below_n e h; second = next-below n e (below_n e h); differ = λ x. next-apart n e (omega (arith, enough)) (below_n e h) (sym x) })

  once : (e k : ℕ) → e < length edges → k < length edges → IsTrue (joins (edge_at edges e).a (edge_at edges e).b (edge_at edges k)) → e ≡ k
  once e k h l t = by (joins_is (step k) e (next n e) (subst (λ x. IsTrue (joins e (next n e) x)) (edge_is k l) (subst (λ x. IsTrue (joins x.a x.b (edge_at edges k))) (edge_is e h) t))) where
    by : ((k ≡ e) × (next n k ≡ next n e)) ⊎ ((k ≡ next n e) × (next n k ≡ e)) → e ≡ k
    by (inl p) = sym p.0
    by (inr p) = absurd (next_back n e enough (below_n e h) (ap (next n) (sym p.0) ∙ p.1))

  ends_there : (e : ℕ) → e < n → IsTrue (has_end (edge_at edges e) e) × IsTrue (has_end (edge_at edges e) (next n e))
  ends_there e h = (subst (λ k. IsTrue (has_end k e)) (sym (cycle.joined e h)) (rw (same_number e) refl), subst (λ k. IsTrue (has_end k (next n e))) (sym (cycle.joined e h)) (second (e == next n e))) where
    second : (b : Bool) → IsTrue (b || (next n e == next n e))
    second true = refl
    second false = same_number (next n e)

  two : (v : ℕ) → v < n → HasTwoEdges edges v
  two zero h = (0, n - 1, omega (arith, enough), below_edges (n - 1) (omega (arith, enough)), (ends_there 0 h).0, subst (λ k. IsTrue (has_end (edge_at edges (n - 1)) k)) last (ends_there (n - 1) (omega (arith, enough))).1) where
    last : next n (n - 1) ≡ 0
    last = grind (arith, nat_tests, enough)
  two (suc v) h = (v, suc v, omega arith, below_edges (suc v) h, subst (λ k. IsTrue (has_end (edge_at edges v) k)) inner (ends_there v (omega (arith, h))).1, (ends_there (suc v) h).0) where
    inner : next n v ≡ suc v
    inner = grind (arith, nat_tests, h)

  end_or_not : (s t : ℕ) → (0 < s → 0 < t → ⊥) → IsEnd s t
  end_or_not zero t f = inl refl
  end_or_not (suc s) zero f = inr refl
  end_or_not (suc s) (suc t) f = absurd (f (omega arith) (omega arith))

  meet_steps : (e k : ℕ) → e < n → k < n → e ≢ k → MeetAtEnds points (step e) (step k)
  meet_steps e k h l d s t u v c = (
    end_or_not s t (λ f g. inside_alone points near apart ring (omega (arith, enough)) k e l h (λ z. d (sym z)) u v s t (sym c.sums) (sym c.same) f g),
    end_or_not u v (λ f g. inside_alone points near apart ring (omega (arith, enough)) e k h l d s t u v c.sums c.same f g),
  )

  pub plain_drawing : IsDrawing points edges
  plain_drawing = record {
    near = λ v h. near v origin h;
    apart = apart;
    edges_join = joins_two;
    once = once;
    two = two;
    meet = λ e k h l d. subst (λ x. MeetAtEnds points x (edge_at edges k)) (sym (edge_is e h)) (subst (λ y. MeetAtEnds points (step e) y) (sym (edge_is k l)) (meet_steps e k (below_n e h) (below_n k l) d));
  }

  -- ---- its ring

  ring_size : length (whole n) ≡ n
  ring_size = length-range_with_len 0 n

  in_size : (i : ℕ) → i < length (whole n) → i < n
  in_size i h = subst (λ m. i < m) ring_size h

  not_pos : pos 0 <ℤ pos 0 → ⊥
  not_pos h = omega (arith, linear)

  mix_zero : (s t : ℕ) (a b : ℤ) → a ≡ pos 0 → b ≡ pos 0 → pos 0 <ℤ (pos s *ℤ a +ℤ pos t *ℤ b) → ⊥
  mix_zero s t a b e f h = let x = ap (λ z. pos s *ℤ z) e ∙ *ℤ-zero (pos s) in let y = ap (λ z. pos t *ℤ z) f ∙ *ℤ-zero (pos t) in omega (arith, linear)

  whole_ring : IsRing points edges (whole n)
  whole_ring = record {
    three = subst (λ m. 3 ≤ m) (sym ring_size) enough;
    there = λ i h. subst (λ v. v < n) (sym (corner_is n i (in_size i h))) (in_size i h);
    differ = λ i j h l e. sym (corner_is n i (in_size i h)) ∙ (e ∙ corner_is n j (in_size j l));
    joins = λ i h. subst (λ u. IsTrue (joined edges u (after (whole n) i))) (sym (corner_is n i (in_size i h))) (subst (λ v. IsTrue (joined edges i v)) (sym (after_is n i (in_size i h)))
        (joined_at edges i i (next n i) (below_edges i (in_size i h)) (subst (λ k. IsTrue (joins i (next n i) k)) (sym (cycle.joined i (in_size i h))) (joins_itself i (next n i)))));
    convex = subst (λ r. IsConvex r) (sym (corners_are points)) ring;
    no_vertex = λ v h s. not_pos (subst (λ z. pos 0 <ℤ z) (turn-first (point_at points v) (point_at points (next n v))) ((subst (λ r. IsStrictlyIn r (point_at points v)) (corners_are points) s) v h));
    no_point = λ e s t h some p. mix_zero s t (left_of points e (point_at points e)) (left_of points e (point_at points (next n e))) (turn-first (point_at points e) (point_at points (next n e))) (turn-last (point_at points e) (point_at points (next n e)))
        (subst (λ k. pos 0 <ℤ (pos s *ℤ left_of points e (first_point points k) +ℤ pos t *ℤ left_of points e (last_point points k))) (edge_is e h)
        ((subst (λ r. IsMixStrictlyIn r s (first_point points (edge_at edges e)) t (last_point points (edge_at edges e))) (corners_are points) p) e (below_n e h)));
  }

  -- ---- which is its one face

  abbrev rings : List (List ℕ)
  rings = whole n ∷ []

  only : (f : ℕ) → f < 1 → f ≡ 0
  only f h = omega (arith, h)

  the_ring : (f : ℕ) → f < 1 → ring_at rings f ≡ whole n
  the_ring f h = ap (λ k. ring_at rings k) (only f h)

  belongs : (e : ℕ) → e < n → Belongs rings e (next n e)
  belongs e h = (0, lit< tt, goes_whole n e h)

  not_back : (e : ℕ) → e < n → Belongs rings (next n e) e → ⊥
  not_back e h (f, l, g) = next_back n e enough h (sym (goes_next n (next n e) e (subst (λ r. Goes r (next n e) e) (the_ring f l) g)).1)

  -- an outer directed edge is an edge turned round
  outer_is : (u v : ℕ) → IsOuter edges rings u v → (v < n) × (u ≡ next n v)
  outer_is u v o = by (some_joins edges u v o.edge) where
    by : (e : ℕ) × (e < length edges) × IsTrue (joins u v (edge_at edges e)) → (v < n) × (u ≡ next n v)
    by (e, h, t) = elim (joins_is (step e) u v (subst (λ k. IsTrue (joins u v k)) (edge_is e h) t)) [
      | inl p ↦ absurd (o.none (subst (λ x. Belongs rings x v) p.0 (subst (λ y. Belongs rings e y) p.1 (belongs e (below_n e h)))))
      | inr p ↦ (subst (λ m. m < n) p.0 (below_n e h), sym p.1 ∙ ap (next n) p.0)
    ]

  leaves : (u v w : ℕ) → IsOuter edges rings u v → IsOuter edges rings u w → v ≡ w
  leaves u v w a b = let p = outer_is u v a in let q = outer_is u w b in next_once n v w p.0 q.0 (sym p.1 ∙ q.1)

  outer_sweeps : (u v : ℕ) → IsOuter edges rings u v → sweep points (point_at points 0) u v ≤ℤ pos 0
  outer_sweeps u v o =
      let p = outer_is u v o in
      let e = turned_round (point_at points v) (point_at points (next n v)) (point_at points 0) in
      let l = ring.left v 0 p.0 (omega (arith, enough)) in
      subst (λ x. sweep points (point_at points 0) x v ≤ℤ pos 0) (sym p.1) (let z : sweep points (point_at points 0) (next n v) v ≤ℤ pos 0 = omega (arith, linear) in z)

  no_hole : (walk : List ℕ) → IsOuterWalk edges rings walk → area points walk ≤ℤ pos 0
  no_hole walk w = no_area points (point_at points 0) walk (λ i h. outer_sweeps (corner walk i) (after walk i) (w.steps i h))

  module _ (marks : List Mark) (marked : length marks ≡ n) (border : (e : ℕ) → e < n → mark_at marks e ≡ B) where
    fit : (e : ℕ) → e < length edges → FitsMark rings (edge_at edges e) (mark_at marks e)
    fit e h = subst (λ k. FitsMark rings k (mark_at marks e)) (sym (edge_is e h)) (subst (λ m. FitsMark rings (step e) m) (sym (border e (below_n e h))) (inl (belongs e (below_n e h), not_back e (below_n e h))))

    -- Its rings are the one of all vertices.
    pub plain_rings : AreRings points edges (Some marks) (whole (length points) ∷ [])
    plain_rings = record {
      each = λ f h. subst (λ r. IsRing points edges r) (sym (the_ring f h)) whole_ring;
      one = λ f g u v h l a b. only f h ∙ sym (only g l);
      fit = fit;
      chained = λ f g h l. ([], only f h ∙ sym (only g l));
      leaves = leaves;
      no_hole = no_hole;
      least = λ f i h. subst (λ r. i < length r → corner r 0 ≤ corner r i) (sym (the_ring f h)) (λ l. subst (λ k. k ≤ corner (whole n) i) (sym (corner_is n 0 (omega (arith, enough)))) (omega arith));
      sorted = λ f g h l. absurd (omega (arith, h, l));
    }

    module _ (sides : List EdgeSides) (sided : length sides ≡ n) (inward : (e : ℕ) → e < n → sides_at sides e ≡ record { left = Some 0; right = None }) where
      sides_are : (e : ℕ) → e < length edges → AreSides rings (edge_at edges e) (sides_at sides e)
      sides_are e h = subst (λ k. AreSides rings k (sides_at sides e)) (sym (edge_is e h)) (subst (λ s. AreSides rings (step e) s) (sym (inward e (below_n e h))) (record { left = (lit< tt, goes_whole n e (below_n e h)); right = not_back e (below_n e h) }))

      -- Face 0 lies left of each edge, and nothing right of it.
      pub plain_faces : AreFaces points edges (Some marks) (whole (length points) ∷ []) sides marks
      plain_faces = record {
        rings_are = plain_rings;
        as_many_sides = sided ∙ sym cycle.as_many;
        sides_are = sides_are;
        as_many_marks = marked ∙ sym cycle.as_many;
        marks_are = λ e h. refl;
      }

      same_product : (z : ℤ) → z ≡ (pos 1 *ℤ pos 1) *ℤ z
      same_product z = sym (one-*ℤ z)

      same_shape : (p q r : Pt) → KeepsShape (pos 1) true p q r p q r
      same_shape p q r = record { dots = same_product _; crosses = same_product _ }

      same_ring : (up : Bool) (r : List Pt) → up ≡ true → RingKeepsShape (pos 1) up r r
      same_ring up r e i j k a b c = subst (λ b. KeepsShape (pos 1) b (point_at r i) (point_at r j) (point_at r k) (point_at r i) (point_at r j) (point_at r k)) (sym e) (same_shape (point_at r i) (point_at r j) (point_at r k))

      no_right : (e f g : ℕ) → e < length sides → (sides_at sides e).left ≡ Some f → (sides_at sides e).right ≡ Some g → FitFlags (mark_at marks e) (is_up (true ∷ []) f) (is_up (true ∷ []) g)
      no_right e f g h a b = absurd (none_is g (sym (ap (λ s. s.right) (inward e (subst (λ m. e < m) sided h))) ∙ b)) where
        none_is : (g : ℕ) → None ≡ Some g → ⊥
        none_is g e = cc

      scaled_once : (p : Pt) → p ≡ scaled (pos 1) p
      scaled_once p = points_are p.x p.y _ _ (sym (one-*ℤ p.x)) (sym (one-*ℤ p.y)) where
        points_are : (a b c d : ℤ) → a ≡ c → b ≡ d → ◌≡◌ {A = Pt} (record { x = a; y = b }) (record { x = c; y = d })
        points_are a b c d e f = ap (λ x. record { x = x; y = b }) e ∙ ap (λ y. record { x = c; y = y }) f

      -- It lies as it was drawn.
      pub plain_folding : IsFolding points (whole (length points) ∷ []) sides marks (pos 1) points (true ∷ [])
      plain_folding = record {
        positive = omega (arith, ints);
        as_many_points = refl;
        as_many_flags = refl;
        first_up = refl;
        first_stays = λ i h. scaled_once _;
        shapes = λ f h. same_ring (is_up (true ∷ []) f) (corners points (ring_at rings f)) (ap (λ k. is_up (true ∷ []) k) (only f h));
        flags = no_right;
        least = least_one points;
      }

-- That small lists of rings are the faces of a drawing, by computing. Only for convex sheets that have the origin on or
-- inside their border, whose outer edges all sweep clockwise round the origin.
use Rattle.std.proofs.Common.{◌≡◌, ℕ, zero, suc, ◌+◌, ◌<◌, ◌==◌, ◌⊎◌, inl, inr, ℤ, pos, ◌*ℤ◌, ◌<ℤ◌, ◌≤ℤ◌, Bool, true, false, not, ◌&&◌, ◌||◌, List, [], ◌∷◌, length, refl, sym, ◌∙◌, ap, subst, Some, None, Option, arith, IsTrue, nat_lt, nat_le}
use Rattle.std.specs.Prelude.{◌+ℤ◌, if◌then◌else◌}
use Rattle.std.proofs.lemmas.Int.{ints}
use Rattle.std.proofs.lemmas.Bool.{false≢true, eqb-true, ltb-true, lt-ltb, le-ltb, leb-true}
use Rattle.ff_basics.proofs.Numbers.{same_number}
use Rattle.ff_basics.proofs.Tests.{both_of, either_of}
use Rattle.ff_whole.specs.declared.points.Pt.{Pt}
use Rattle.ff_whole.specs.Points.{cross}
use Rattle.ff_whole.specs.Convex.{next, point_at, left_of}
use Rattle.ff_whole.proofs.Signs.{nonneg-mul_nonpos, linear}
use Rattle.ff_types.specs.declared.patterns.EdgeEnds.{EdgeEnds}
use Rattle.ff_types.specs.declared.patterns.Mark.{Mark}
use Rattle.ff_types.specs.declared.patterns.Mark.TheVariants.{B, M, V, F, U}
use Rattle.ff_types.specs.declared.faces.EdgeSides.{EdgeSides}
use Rattle.ff_types.specs.Patterns.{edge_at}
use Rattle.ff_types.specs.Drawings.{joined, joins, first_point, last_point}
use Rattle.ff_types.specs.Rings.{corner, after, corners, Goes, IsRing}
use Rattle.ff_types.specs.Areas.{area, area_from}
use Rattle.ff_types.specs.Faces.{ring_at, mark_at, Belongs, Share, AreChained, IsOuter, IsOuterWalk, FitsMark, AreRings, list_before}
use Rattle.ff_types.specs.Sides.{sides_at, IsFaceOf, AreFaces}
use Rattle.ff_types.proofs.Computing.{all_below, any_below, below, below_two, some_below, is_nonpos, nonpos, is_convex, convex}

-- ---- which rings go along a directed edge

abbrev pub goes : List ℕ → ℕ → ℕ → Bool
goes ring u v = any_below (length ring) (λ i. corner ring i == u && after ring i == v)

pub goes_so : (ring : List ℕ) (u v : ℕ) → IsTrue (goes ring u v) → Goes ring u v
goes_so ring u v t =
    let r = some_below (length ring) (λ i. corner ring i == u && after ring i == v) t in
    let b = both_of (corner ring r.0 == u) (after ring r.0 == v) r.2 in record { place = r.0; inside = r.1; from = eqb-true _ _ b.0; to = eqb-true _ _ b.1 }

any_at : (n : ℕ) (p : ℕ → Bool) (i : ℕ) → i < n → IsTrue (p i) → IsTrue (any_below n p)
any_at zero p i h t = absurd (omega (arith, h))
any_at (suc n) p i h t = by (p n) refl (λ (l : i < n). any_at n p i l t) where
  by : (b : Bool) → p n ≡ b → (i < n → IsTrue (any_below n p)) → IsTrue (b || any_below n p)
  by true e f = refl
  by false e f = f (less (λ d. false≢true (sym e ∙ subst (λ k. p k ≡ true) d t))) where
    less : (i ≡ n → ⊥) → i < n
    less d = grind (arith, h, d)

pub so_goes : (ring : List ℕ) (u v : ℕ) → Goes ring u v → IsTrue (goes ring u v)
so_goes ring u v g = any_at (length ring) (λ i. corner ring i == u && after ring i == v) g.place g.inside (there (corner ring g.place) (after ring g.place) g.from g.to) where
  there : (a b : ℕ) → a ≡ u → b ≡ v → IsTrue (a == u && b == v)
  there a b e f = rw (e, f, same_number u, same_number v) refl

abbrev pub belongs : List (List ℕ) → ℕ → ℕ → Bool
belongs rings u v = any_below (length rings) (λ f. goes (ring_at rings f) u v)

pub belongs_so : (rings : List (List ℕ)) (u v : ℕ) → IsTrue (belongs rings u v) → Belongs rings u v
belongs_so rings u v t = let r = some_below (length rings) (λ f. goes (ring_at rings f) u v) t in (r.0, r.1, goes_so (ring_at rings r.0) u v r.2)

pub so_belongs : (rings : List (List ℕ)) (u v : ℕ) → Belongs rings u v → IsTrue (belongs rings u v)
so_belongs rings u v b = any_at (length rings) (λ f. goes (ring_at rings f) u v) b.0 b.1 (so_goes (ring_at rings b.0) u v b.2)

pub not_belongs : (rings : List (List ℕ)) (u v : ℕ) → IsTrue (not (belongs rings u v)) → Belongs rings u v → ⊥
not_belongs rings u v t b = false≢true (subst (λ x. IsTrue (not x)) (so_belongs rings u v b) t)

-- ---- one ring

abbrev pub is_ring : List Pt → List EdgeEnds → List ℕ → Bool
is_ring points edges ring = nat_lt 2 (length ring) && (all_below (length ring) (λ i. nat_lt (corner ring i) (length points) && joined edges (corner ring i) (after ring i))
    && (all_below (length ring) (λ i. all_below (length ring) (λ j. not (corner ring i == corner ring j) || (i == j))) && (is_convex (corners points ring)
    && (all_below (length points) (λ v. any_below (length (corners points ring)) (λ i. is_nonpos (left_of (corners points ring) i (point_at points v))))
    && all_below (length edges) (λ e. any_below (length (corners points ring)) (λ i. is_nonpos (left_of (corners points ring) i (first_point points (edge_at edges e))) && is_nonpos (left_of (corners points ring) i (last_point points (edge_at edges e)))))))))

not_in : (z : ℤ) → z ≤ℤ pos 0 → pos 0 <ℤ z → ⊥
not_in z h k = omega (arith, linear)

mixed_out : (s t : ℕ) (x y : ℤ) → x ≤ℤ pos 0 → y ≤ℤ pos 0 → pos 0 <ℤ ((pos s *ℤ x) +ℤ (pos t *ℤ y)) → ⊥
mixed_out s t x y h k l =
    let a = nonneg-mul_nonpos (pos s) x (omega (arith, ints)) h in
    let b = nonneg-mul_nonpos (pos t) y (omega (arith, ints)) k in omega (arith, linear)

pub ring : (points : List Pt) (edges : List EdgeEnds) (r : List ℕ) → IsTrue (is_ring points edges r) → IsRing points edges r
ring points edges r t =
    let a = both_of _ _ t in
    let b = both_of _ _ a.1 in
    let c = both_of _ _ b.1 in
    let d = both_of _ _ c.1 in
    let e = both_of _ _ d.1 in
    let there = λ (i : ℕ) (h : i < length r). both_of (nat_lt (corner r i) (length points)) (joined edges (corner r i) (after r i)) (below (length r) (λ i. nat_lt (corner r i) (length points) && joined edges (corner r i) (after r i)) b.0 i h) in
    record {
      three = let h : 2 < length r = ltb-true 2 (length r) a.0 in omega arith;
      there = λ i h. ltb-true (corner r i) (length points) (there i h).0;
      differ = λ i j h l x. elim (either_of (not (corner r i == corner r j)) (i == j) (below_two (length r) (length r) (λ i j. not (corner r i == corner r j) || (i == j)) c.0 i j h l)) [
        | inl n ↦ absurd (false≢true (subst (λ z. IsTrue (not z)) (same _ _ x) n))
        | inr y ↦ eqb-true i j y
      ];
      joins = λ i h. (there i h).1;
      convex = convex (corners points r) d.0;
      no_vertex = λ v h s. let q = some_below (length (corners points r)) (λ i. is_nonpos (left_of (corners points r) i (point_at points v))) (below (length points) (λ v. any_below (length (corners points r)) (λ i. is_nonpos (left_of (corners points r) i (point_at points v)))) e.0 v h) in
          not_in _ (nonpos (left_of (corners points r) q.0 (point_at points v)) q.2) (s q.0 q.1);
      no_point = λ k s t h some m.
          let q = some_below (length (corners points r)) (λ i. is_nonpos (left_of (corners points r) i (first_point points (edge_at edges k))) && is_nonpos (left_of (corners points r) i (last_point points (edge_at edges k)))) (below (length edges) (λ e. any_below (length (corners points r)) (λ i. is_nonpos (left_of (corners points r) i (first_point points (edge_at edges e))) && is_nonpos (left_of (corners points r) i (last_point points (edge_at edges e))))) e.1 k h) in
          let x = both_of (is_nonpos (left_of (corners points r) q.0 (first_point points (edge_at edges k)))) (is_nonpos (left_of (corners points r) q.0 (last_point points (edge_at edges k)))) q.2 in
          mixed_out s t (left_of (corners points r) q.0 (first_point points (edge_at edges k))) (left_of (corners points r) q.0 (last_point points (edge_at edges k))) (nonpos _ x.0) (nonpos _ x.1) (m q.0 q.1);
    } where
      same : (a b : ℕ) → a ≡ b → (a == b) ≡ true
      same a b e = rw e (same_number b)

-- ---- what holds along each edge, in both_of directions

abbrev pub both_ways : (ℕ → ℕ → Bool) → List EdgeEnds → Bool
both_ways p [] = true
both_ways p (e ∷ edges) = (p e.a e.b && p e.b e.a) && both_ways p edges

pub joins_is : (e : EdgeEnds) (u v : ℕ) → IsTrue (joins u v e) → ((e.a ≡ u) × (e.b ≡ v)) ⊎ ((e.a ≡ v) × (e.b ≡ u))
joins_is e u v t = elim (either_of (e.a == u && e.b == v) (e.a == v && e.b == u) t) [
  | inl h ↦ let b = both_of (e.a == u) (e.b == v) h in inl (eqb-true _ _ b.0, eqb-true _ _ b.1)
  | inr h ↦ let b = both_of (e.a == v) (e.b == u) h in inr (eqb-true _ _ b.0, eqb-true _ _ b.1)
]

at_ends : (p : ℕ → ℕ → Bool) (a b u v : ℕ) → a ≡ u → b ≡ v → IsTrue (p a b) → IsTrue (p u v)
at_ends p a b u v e f t = subst (λ x. IsTrue (p x v)) e (subst (λ y. IsTrue (p a y)) f t)

pub along : (p : ℕ → ℕ → Bool) (edges : List EdgeEnds) (u v : ℕ) → IsTrue (both_ways p edges) → IsTrue (joined edges u v) → IsTrue (p u v)
along p [] u v t j = absurd (false≢true j)
along p (e ∷ edges) u v t j =
    let b = both_of (p e.a e.b && p e.b e.a) (both_ways p edges) t in
    let c = both_of (p e.a e.b) (p e.b e.a) b.0 in
    elim (either_of (joins u v e) (joined edges u v) j) [
      | inl h ↦ elim (joins_is e u v h) [ inl x ↦ at_ends p e.a e.b u v x.0 x.1 c.0 | inr x ↦ at_ends p e.b e.a u v x.1 x.0 c.1 ]
      | inr h ↦ along p edges u v b.1 h
    ]

-- ---- chains

abbrev pub shares : List (List ℕ) → ℕ → ℕ → Bool
shares rings f g = any_below (length (ring_at rings f)) (λ i. goes (ring_at rings g) (after (ring_at rings f) i) (corner (ring_at rings f) i))

share : (rings : List (List ℕ)) (f g : ℕ) → IsTrue (shares rings f g) → Share rings f g
share rings f g t = let r = some_below (length (ring_at rings f)) (λ i. goes (ring_at rings g) (after (ring_at rings f) i) (corner (ring_at rings f) i)) t in
    (corner (ring_at rings f) r.0, after (ring_at rings f) r.0, record { place = r.0; inside = r.1; from = refl; to = refl }, goes_so (ring_at rings g) _ _ r.2)

-- in at most so many steps
abbrev pub reaches : ℕ → List (List ℕ) → ℕ → ℕ → Bool
reaches zero rings f g = f == g
reaches (suc n) rings f g = (f == g) || any_below (length rings) (λ h. shares rings f h && reaches n rings h g)

reached : (n : ℕ) (rings : List (List ℕ)) (f g : ℕ) → IsTrue (reaches n rings f g) → AreChained rings f g
reached zero rings f g t = ([], eqb-true f g t)
reached (suc n) rings f g t = elim (either_of (f == g) (any_below (length rings) (λ h. shares rings f h && reaches n rings h g)) t) [
  | inl e ↦ ([], eqb-true f g e)
  | inr s ↦ let r = some_below (length rings) (λ h. shares rings f h && reaches n rings h g) s in
      let b = both_of (shares rings f r.0) (reaches n rings r.0 g) r.2 in
      let rest = reached n rings r.0 g b.1 in (r.0 ∷ rest.0, (r.1, share rings f r.0 b.0, rest.1))
]

-- ---- the outside

abbrev pub leaves_once : List (List ℕ) → List EdgeEnds → Bool
leaves_once rings edges = both_ways (λ u v. belongs rings u v || both_ways (λ w x. belongs rings w x || (not (u == w) || (v == x))) edges) edges

leaves : (rings : List (List ℕ)) (edges : List EdgeEnds) → IsTrue (leaves_once rings edges) → (u v w : ℕ) → IsOuter edges rings u v → IsOuter edges rings u w → v ≡ w
leaves rings edges t u v w a b =
    elim (either_of (belongs rings u v) (both_ways (λ y x. belongs rings y x || (not (u == y) || (v == x))) edges) (along (λ u v. belongs rings u v || both_ways (λ w x. belongs rings w x || (not (u == w) || (v == x))) edges) edges u v t a.edge)) [
      | inl h ↦ absurd (a.none (belongs_so rings u v h))
      | inr h ↦ elim (either_of (belongs rings u w) (not (u == u) || (v == w)) (along (λ y x. belongs rings y x || (not (u == y) || (v == x))) edges u w h b.edge)) [
        | inl k ↦ absurd (b.none (belongs_so rings u w k))
        | inr k ↦ elim (either_of (not (u == u)) (v == w) k) [ inl n ↦ absurd (false≢true (subst (λ z. IsTrue (not z)) (same_number u) n)) | inr e ↦ eqb-true v w e ]
      ]
    ]

abbrev sweep : List Pt → ℕ → ℕ → ℤ
sweep points u v = cross (point_at points u) (point_at points v)

abbrev pub sweeps_back : List Pt → List (List ℕ) → List EdgeEnds → Bool
sweeps_back points rings edges = both_ways (λ u v. belongs rings u v || is_nonpos (cross (point_at points u) (point_at points v))) edges

outer_sweeps : (points : List Pt) (rings : List (List ℕ)) (edges : List EdgeEnds) → IsTrue (sweeps_back points rings edges) → (u v : ℕ) → IsOuter edges rings u v → sweep points u v ≤ℤ pos 0
outer_sweeps points rings edges t u v o = elim (either_of (belongs rings u v) _ (along (λ u v. belongs rings u v || is_nonpos (cross (point_at points u) (point_at points v))) edges u v t o.edge)) [
  | inl h ↦ absurd (o.none (belongs_so rings u v h))
  | inr h ↦ nonpos _ h
]

sum_nonpos : (a b : ℤ) → a ≤ℤ pos 0 → b ≤ℤ pos 0 → (a +ℤ b) ≤ℤ pos 0
sum_nonpos a b h l = omega (arith, linear)

area_sweeps : (points : List Pt) (first u : ℕ) (rest : List ℕ) → ((i : ℕ) → i + 1 < length (u ∷ rest) → sweep points (corner (u ∷ rest) i) (corner (u ∷ rest) (i + 1)) ≤ℤ pos 0)
    → sweep points (corner (u ∷ rest) (length rest)) first ≤ℤ pos 0 → area_from points first (u ∷ rest) ≤ℤ pos 0
area_sweeps points first u [] steps last = last
area_sweeps points first u (v ∷ rest) steps last = sum_nonpos (sweep points u v) (area_from points first (v ∷ rest)) (steps 0 (omega arith))
    (area_sweeps points first v rest (λ i h. subst (λ k. sweep points (corner (v ∷ rest) i) (corner (u ∷ v ∷ rest) k) ≤ℤ pos 0) (shift i) (steps (suc i) (omega (arith, h)))) last) where
      shift : (i : ℕ) → suc i + 1 ≡ suc (i + 1)
      shift i = omega arith

pub next_inner : (n i : ℕ) → i + 1 < n → next n i ≡ i + 1
next_inner n i h = ap (λ b. if b then i + 1 else 0) (lt-ltb (i + 1) n h)

pub next_last : (n : ℕ) → next (suc n) n ≡ 0
next_last n = ap (λ b. if b then n + 1 else 0) (le-ltb (n + 1) (suc n) (omega arith))

-- a closed walk along edges that sweep clockwise has no positive area
pub no_hole : (points : List Pt) (rings : List (List ℕ)) (edges : List EdgeEnds) → ((u v : ℕ) → IsOuter edges rings u v → sweep points u v ≤ℤ pos 0) → (walk : List ℕ) → IsOuterWalk edges rings walk → area points walk ≤ℤ pos 0
no_hole points rings edges o [] w = absurd (omega (arith, w.some))
no_hole points rings edges o (u ∷ rest) w = area_sweeps points u u rest
    (λ i h. subst (λ k. sweep points (corner (u ∷ rest) i) (corner (u ∷ rest) k) ≤ℤ pos 0) (next_inner (length (u ∷ rest)) i h) (o _ _ (w.steps i (omega (arith, h)))))
    (subst (λ k. sweep points (corner (u ∷ rest) (length rest)) (corner (u ∷ rest) k) ≤ℤ pos 0) (next_last (length rest)) (o _ _ (w.steps (length rest) (omega arith))))

-- ---- marks and sides

abbrev pub fits_mark : List (List ℕ) → EdgeEnds → Mark → Bool
fits_mark rings e B = (belongs rings e.a e.b && not (belongs rings e.b e.a)) || (not (belongs rings e.a e.b) && belongs rings e.b e.a)
fits_mark rings e _ = belongs rings e.a e.b && belongs rings e.b e.a

both_sides : (rings : List (List ℕ)) (e : EdgeEnds) → IsTrue (belongs rings e.a e.b && belongs rings e.b e.a) → Belongs rings e.a e.b × Belongs rings e.b e.a
both_sides rings e t = let b = both_of (belongs rings e.a e.b) (belongs rings e.b e.a) t in (belongs_so rings e.a e.b b.0, belongs_so rings e.b e.a b.1)

fit : (rings : List (List ℕ)) (e : EdgeEnds) (m : Mark) → IsTrue (fits_mark rings e m) → FitsMark rings e m
fit rings e B t = elim (either_of (belongs rings e.a e.b && not (belongs rings e.b e.a)) (not (belongs rings e.a e.b) && belongs rings e.b e.a) t) [
  | inl h ↦ let b = both_of (belongs rings e.a e.b) (not (belongs rings e.b e.a)) h in inl (belongs_so rings e.a e.b b.0, not_belongs rings e.b e.a b.1)
  | inr h ↦ let b = both_of (not (belongs rings e.a e.b)) (belongs rings e.b e.a) h in inr (not_belongs rings e.a e.b b.0, belongs_so rings e.b e.a b.1)
]
fit rings e M t = both_sides rings e t
fit rings e V t = both_sides rings e t
fit rings e F t = both_sides rings e t
fit rings e U t = both_sides rings e t

abbrev pub is_face_of : List (List ℕ) → ℕ → ℕ → Option ℕ → Bool
is_face_of rings u v (Some f) = nat_lt f (length rings) && goes (ring_at rings f) u v
is_face_of rings u v None = not (belongs rings u v)

face_of : (rings : List (List ℕ)) (u v : ℕ) (f : Option ℕ) → IsTrue (is_face_of rings u v f) → IsFaceOf rings u v f
face_of rings u v (Some f) t = let b = both_of (nat_lt f (length rings)) (goes (ring_at rings f) u v) t in (ltb-true _ _ b.0, goes_so (ring_at rings f) u v b.1)
face_of rings u v None t = not_belongs rings u v t

-- ---- all together

abbrev pub are_rings : List Pt → List EdgeEnds → List Mark → List (List ℕ) → Bool
are_rings points edges marks rings = all_below (length rings) (λ f. is_ring points edges (ring_at rings f))
    && (all_below (length rings) (λ f. all_below (length rings) (λ g. (f == g) || all_below (length (ring_at rings f)) (λ i. not (goes (ring_at rings g) (corner (ring_at rings f) i) (after (ring_at rings f) i)))))
    && (all_below (length edges) (λ e. fits_mark rings (edge_at edges e) (mark_at marks e))
    && (all_below (length rings) (λ f. all_below (length rings) (λ g. reaches (length rings) rings f g))
    && (leaves_once rings edges && (sweeps_back points rings edges
    && (all_below (length rings) (λ f. all_below (length (ring_at rings f)) (λ i. nat_le (corner (ring_at rings f) 0) (corner (ring_at rings f) i)))
    && all_below (length rings) (λ g. all_below g (λ f. list_before (ring_at rings f) (ring_at rings g)))))))))

one : (rings : List (List ℕ)) (f g u v : ℕ) → IsTrue ((f == g) || all_below (length (ring_at rings f)) (λ i. not (goes (ring_at rings g) (corner (ring_at rings f) i) (after (ring_at rings f) i)))) → Goes (ring_at rings f) u v → Goes (ring_at rings g) u v → f ≡ g
one rings f g u v t a b = elim (either_of (f == g) (all_below (length (ring_at rings f)) (λ i. not (goes (ring_at rings g) (corner (ring_at rings f) i) (after (ring_at rings f) i)))) t) [
  | inl e ↦ eqb-true f g e
  | inr h ↦ absurd (false≢true (subst (λ z. IsTrue (not z)) (so_goes (ring_at rings g) _ _ there) (below (length (ring_at rings f)) (λ i. not (goes (ring_at rings g) (corner (ring_at rings f) i) (after (ring_at rings f) i))) h a.place a.inside)))
] where
  there : Goes (ring_at rings g) (corner (ring_at rings f) a.place) (after (ring_at rings f) a.place)
  there = record { place = b.place; inside = b.inside; from = b.from ∙ sym a.from; to = b.to ∙ sym a.to }

pub rings_are : (points : List Pt) (edges : List EdgeEnds) (marks : List Mark) (rings : List (List ℕ)) → IsTrue (are_rings points edges marks rings) → AreRings points edges (Some marks) rings
rings_are points edges marks rings t =
    let a = both_of _ _ t in
    let b = both_of _ _ a.1 in
    let c = both_of _ _ b.1 in
    let d = both_of _ _ c.1 in
    let e = both_of _ _ d.1 in
    let f = both_of _ _ e.1 in
    let g = both_of _ _ f.1 in
    record {
      each = λ k h. ring points edges (ring_at rings k) (below (length rings) (λ f. is_ring points edges (ring_at rings f)) a.0 k h);
      one = λ k l u v h m x y. one rings k l u v (below_two (length rings) (length rings) (λ f g. (f == g) || all_below (length (ring_at rings f)) (λ i. not (goes (ring_at rings g) (corner (ring_at rings f) i) (after (ring_at rings f) i)))) b.0 k l h m) x y;
      fit = λ k h. fit rings (edge_at edges k) (mark_at marks k) (below (length edges) (λ e. fits_mark rings (edge_at edges e) (mark_at marks e)) c.0 k h);
      chained = λ k l h m. reached (length rings) rings k l (below_two (length rings) (length rings) (λ f g. reaches (length rings) rings f g) d.0 k l h m);
      leaves = leaves rings edges e.0;
      no_hole = no_hole points rings edges (outer_sweeps points rings edges f.0);
      least = λ k i h l. leb-true (corner (ring_at rings k) 0) (corner (ring_at rings k) i) (below (length (ring_at rings k)) (λ i. nat_le (corner (ring_at rings k) 0) (corner (ring_at rings k) i)) (below (length rings) (λ f. all_below (length (ring_at rings f)) (λ i. nat_le (corner (ring_at rings f) 0) (corner (ring_at rings f) i))) g.0 k h) i l);
      sorted = λ k l h m. below l (λ f. list_before (ring_at rings f) (ring_at rings l)) (below (length rings) (λ g. all_below g (λ f. list_before (ring_at rings f) (ring_at rings g))) g.1 l m) k h;
    }

abbrev pub are_faces : List Pt → List EdgeEnds → List Mark → List (List ℕ) → List EdgeSides → Bool
are_faces points edges marks rings sides = are_rings points edges marks rings && ((length sides == length edges) && ((length marks == length edges)
    && all_below (length edges) (λ e. is_face_of rings (edge_at edges e).a (edge_at edges e).b (sides_at sides e).left && is_face_of rings (edge_at edges e).b (edge_at edges e).a (sides_at sides e).right)))

pub faces_are : (points : List Pt) (edges : List EdgeEnds) (marks : List Mark) (rings : List (List ℕ)) (sides : List EdgeSides) → IsTrue (are_faces points edges marks rings sides) → AreFaces points edges (Some marks) rings sides marks
faces_are points edges marks rings sides t =
    let a = both_of _ _ t in
    let b = both_of _ _ a.1 in
    let c = both_of _ _ b.1 in
    record {
      rings_are = rings_are points edges marks rings a.0;
      as_many_sides = eqb-true _ _ b.0;
      sides_are = λ k h. let x = both_of (is_face_of rings (edge_at edges k).a (edge_at edges k).b (sides_at sides k).left) (is_face_of rings (edge_at edges k).b (edge_at edges k).a (sides_at sides k).right) (below (length edges) (λ e. is_face_of rings (edge_at edges e).a (edge_at edges e).b (sides_at sides e).left && is_face_of rings (edge_at edges e).b (edge_at edges e).a (sides_at sides e).right) c.1 k h) in
          record { left = face_of rings _ _ (sides_at sides k).left x.0; right = face_of rings _ _ (sides_at sides k).right x.1 };
      as_many_marks = eqb-true _ _ c.0;
      marks_are = λ k h. refl;
    }

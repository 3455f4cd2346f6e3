-- The walks met so far: what lies left of their darts, and the rings among them in order.
use Rattle.std.proofs.Common.{◌≡◌, ◌≢◌, ◌⊎◌, inl, inr, ℕ, zero, suc, ◌+◌, ◌<◌, ◌≤◌, List, [], ◌∷◌, ◌++◌, length, slice_index, IsTrue, arith, refl, sym, ap, ◌∙◌, subst, pos, ◌<ℤ◌, ◌≤ℤ◌}
use Rattle.std.proofs.lemmas.Bool.Decides.{nat_tests}
use Rattle.std.proofs.lemmas.List.{get_or_append_left, get_or_push, length_push}
use Rattle.ff_basics.proofs.Numbers.{last_or, same_or}
use Rattle.ff_whole.proofs.ClosedLists.{walk, walk-below, walk-to, next-below}
use Rattle.ff_whole.proofs.Signs.{linear}
use Rattle.ff_whole.proofs.Searches.{search}
use Rattle.ff_whole.specs.declared.points.Pt.{Pt}
use Rattle.ff_whole.specs.Convex.{next}
use Rattle.ff_types.specs.declared.patterns.EdgeEnds.{EdgeEnds}
use Rattle.ff_types.specs.Drawings.{joined}
use Rattle.ff_types.specs.Rings.{corner, after, Goes}
use Rattle.ff_types.specs.Areas.{area}
use Rattle.ff_types.specs.Faces.{ring_at, list_before}
use Rattle.ff_types.specs.Walks.{IsWalk, IsRingWalk}
use Rattle.ff_types.proofs.CreaseFaces.{before_first, before_second}
use Rattle.ff_drawn.specs.declared.darts.Dart.{Dart}
use Rattle.ff_planar.specs.declared.traces.Side.{Side}
use Rattle.ff_planar.specs.declared.traces.Side.TheVariants.{Unmet, Outside, Face}
use Rattle.ff_drawn.specs.Drawn.{IsDrawnBy}
use Rattle.ff_drawn.specs.Darts.{dart_at, ComesBefore}
use Rattle.ff_planar.specs.Orbits.{AreNexts, IsOrbit, tails}
use Rattle.ff_planar.specs.Traces.{side_at, IsSideOf, AreTraced, Fills}
use Rattle.ff_planar.proofs.Neighbours.{there}
use Rattle.ff_drawn.proofs.TwoDarts.{tails_rise}
use Rattle.ff_planar.proofs.SameWalks.{one_area}
use Rattle.ff_planar.proofs.OrbitWalks.{orbit_step, dart_below, head_at, tail_at, tails_length, orbit_walk, orbit_goes}

-- where a ring begins: along a dart before d
pub record Begins (darts : List Dart) (ring : List ℕ) (d : ℕ) : Type 0 where
  pub dart : ℕ
  pub before : dart < d
  pub two : 1 < length ring
  pub first : corner ring 0 ≡ (dart_at darts dart).tail
  pub second : corner ring 1 ≡ (dart_at darts dart).head

-- what is left of the way from u to v, where it has been met
abbrev pub MetSide : List Pt → List EdgeEnds → List (List ℕ) → ℕ → ℕ → Side → Type 0
MetSide points edges rings u v Unmet = Unit {0}
MetSide points edges rings u v side = IsSideOf points edges rings u v side

pub record IsTraced (points : List Pt) (edges : List EdgeEnds) (darts : List Dart) (nexts : List ℕ) (d : ℕ) (rings : List (List ℕ)) (sides : List Side) : Type 0 where
  pub as_many : length sides ≡ length darts
  pub few : length rings ≤ d
  pub met : (k : ℕ) → k < d → side_at sides k ≢ Unmet
  pub closed : (k : ℕ) → k < length darts → side_at sides k ≢ Unmet → side_at sides (slice_index nexts k) ≢ Unmet
  pub sides_are : (k : ℕ) → k < length darts → MetSide points edges rings (dart_at darts k).tail (dart_at darts k).head (side_at sides k)
  pub each : (f : ℕ) → f < length rings → IsRingWalk points edges (ring_at rings f)
  pub least : (f i : ℕ) → f < length rings → i < length (ring_at rings f) → corner (ring_at rings f) 0 ≤ corner (ring_at rings f) i
  pub sorted : (f g : ℕ) → f < g → g < length rings → IsTrue (list_before (ring_at rings f) (ring_at rings g))
  pub begins : (f : ℕ) → f < length rings → Begins darts (ring_at rings f) d

outside_met : Outside ≡ Unmet → ⊥
outside_met e = cc

face_met : (f : ℕ) → Face f ≡ Unmet → ⊥
face_met f e = cc

pub unmet_or : (s : Side) → (s ≡ Unmet) ⊎ (s ≢ Unmet)
unmet_or Unmet = inl refl
unmet_or Outside = inr outside_met
unmet_or (Face f) = inr (face_met f)

pub unmet_from : (s : Side) → (s ≢ Unmet → ⊥) → s ≡ Unmet
unmet_from s h = elim (unmet_or s) [ inl e ↦ e | inr n ↦ absurd (h n) ]

-- ---- nothing has been met

pub trace_none : (points : List Pt) (edges : List EdgeEnds) (darts : List Dart) (nexts : List ℕ) (sides : List Side) → length sides ≡ length darts → ((k : ℕ) → side_at sides k ≡ Unmet)
    → IsTraced points edges darts nexts 0 [] sides
trace_none points edges darts nexts sides n h = record {
  as_many = n;
  few = omega arith;
  met = λ k l. absurd (omega (arith, l));
  closed = λ k l m. absurd (m (h k));
  sides_are = λ k l. subst (MetSide points edges [] (dart_at darts k).tail (dart_at darts k).head) (sym (h k)) tt;
  each = λ f l. absurd (omega (arith, l));
  least = λ f i l. absurd (omega (arith, l));
  sorted = λ f g l m. absurd (omega (arith, m));
  begins = λ f l. absurd (omega (arith, l));
}

-- ---- a dart that has been met

pub trace_skip : (points : List Pt) (edges : List EdgeEnds) (darts : List Dart) (nexts : List ℕ) (d : ℕ) (rings : List (List ℕ)) (sides : List Side)
    → IsTraced points edges darts nexts d rings sides → side_at sides d ≢ Unmet → IsTraced points edges darts nexts (d + 1) rings sides
trace_skip points edges darts nexts d rings sides t n = record {
  as_many = t.as_many;
  few = (let few = t.few in omega arith);
  met = λ k l. elim (last_or k d l) [ inl m ↦ t.met k m | inr e ↦ subst (λ j. side_at sides j ≢ Unmet) (sym e) n ];
  closed = t.closed;
  sides_are = t.sides_are;
  each = t.each;
  least = t.least;
  sorted = t.sorted;
  begins = λ f l. let b = t.begins f l in record { dart = b.dart; before = (let o = b.before in omega arith); two = b.two; first = b.first; second = b.second };
}

-- ---- the walk of a dart that hasn't been met

module _ (points : List Pt) (edges : List EdgeEnds) (darts : List Dart) (nexts : List ℕ) (dr : IsDrawnBy points edges darts) (ne : AreNexts points edges darts nexts)
    (d : ℕ) (rings : List (List ℕ)) (sides : List Side) (t : IsTraced points edges darts nexts d rings sides) (unmet : side_at sides d ≡ Unmet)
    (orbit : List ℕ) (o : IsOrbit nexts d orbit) where
  abbrev ring : List ℕ
  ring = tails darts orbit

  below : (i : ℕ) → i < length orbit → slice_index orbit i < length darts
  below = dart_below points edges darts nexts dr ne d orbit o

  met_on : (i k : ℕ) → i < length orbit → side_at sides (slice_index orbit i) ≢ Unmet → side_at sides (slice_index orbit (walk (length orbit) i k)) ≢ Unmet
  met_on i zero l m = m
  met_on i (suc k) l m =
      let j = walk (length orbit) i k in
      let w = walk-below (length orbit) i k l in
      subst (λ c. side_at sides c ≢ Unmet) (sym (orbit_step nexts d orbit o j w)) (t.closed (slice_index orbit j) (below j w) (met_on i k l m))

  -- none of its darts has been met
  none_met : (i : ℕ) → i < length orbit → side_at sides (slice_index orbit i) ≡ Unmet
  none_met i l = elim (unmet_or (side_at sides (slice_index orbit i))) [
    | inl e ↦ e
    | inr n ↦ let k = walk-to (length orbit) i 0 l o.some in absurd (met_on i k.0 l n (ap (λ j. side_at sides (slice_index orbit j)) k.2 ∙ ap (side_at sides) o.first ∙ unmet))
  ]

  none_before : (i : ℕ) → i < length orbit → d ≤ slice_index orbit i
  none_before i l = elim (below_or (slice_index orbit i) d) [ inl m ↦ absurd (t.met (slice_index orbit i) m (none_met i l)) | inr m ↦ m ] where
    below_or : (i n : ℕ) → (i < n) ⊎ (n ≤ i)
    below_or i n = grind arith

  d_below : d < length darts
  d_below = subst (λ k. k < length darts) o.first (below 0 o.some)

  first_is : corner ring 0 ≡ (dart_at darts d).tail
  first_is = tail_at darts orbit 0 o.some ∙ ap (λ k. (dart_at darts k).tail) o.first

  is_least : (i : ℕ) → i < length ring → corner ring 0 ≤ corner ring i
  is_least i l =
      let n = tails_length darts orbit in
      let m : i < length orbit = omega (arith, l, n) in
      let e = tail_at darts orbit i m in
      let f = first_is in
      elim (le_or d (slice_index orbit i) (none_before i m)) [
        | inl s ↦ let r = tails_rise _ _ (dr.darts_are.sorted.rises d (slice_index orbit i) s (below i m)) in omega (arith, e, f, r)
        | inr s ↦ let g = ap (λ k. (dart_at darts k).tail) s in omega (arith, e, f, g)
      ]
    where
      le_or : (i j : ℕ) → i ≤ j → (i < j) ⊎ (i ≡ j)
      le_or i j h = grind arith

  walk_is : IsWalk points edges ring
  walk_is = orbit_walk points edges darts nexts dr ne d orbit o

  -- a dart is one of the walk or not
  on_or_off : (k : ℕ) → ((i : ℕ) × (i < length orbit) × (slice_index orbit i ≡ k)) ⊎ ((i : ℕ) → i < length orbit → slice_index orbit i ≡ k → ⊥)
  on_or_off k = search (length orbit) (λ i. slice_index orbit i ≡ k) (λ i. slice_index orbit i ≡ k → ⊥) (λ i l. elim (same_or (slice_index orbit i) k) [ inl n ↦ inr n | inr e ↦ inl e ])

  module _ (side : Side) (new : List Side) (fills : Fills sides orbit side new) (known : side ≢ Unmet) where
    met_after : (k : ℕ) → k < d + 1 → side_at new k ≢ Unmet
    met_after k l = elim (on_or_off k) [
      | inl r ↦ λ e. known (sym (fills.on r.0 r.1) ∙ ap (side_at new) r.2 ∙ e)
      | inr n ↦ elim (last_or k d l) [
        | inl m ↦ λ e. t.met k m (sym (fills.off k n) ∙ e)
        | inr s ↦ absurd (n 0 o.some (o.first ∙ sym s))
      ]
    ]

    closed_after : (k : ℕ) → k < length darts → side_at new k ≢ Unmet → side_at new (slice_index nexts k) ≢ Unmet
    closed_after k l m = elim (on_or_off (slice_index nexts k)) [
      | inl r ↦ λ e. known (sym (fills.on r.0 r.1) ∙ ap (side_at new) r.2 ∙ e)
      | inr n ↦ elim (on_or_off k) [
        | inl r ↦ absurd (n (next (length orbit) r.0) (next-below (length orbit) r.0 r.1) (orbit_step nexts d orbit o r.0 r.1 ∙ ap (slice_index nexts) r.2))
        | inr x ↦ λ e. t.closed k l (λ f. m (fills.off k x ∙ f)) (sym (fills.off (slice_index nexts k) n) ∙ e)
      ]
    ]

  -- an outer walk
  pub trace_outer : (new : List Side) → Fills sides orbit Outside new → area points ring ≤ℤ pos 0 → IsTraced points edges darts nexts (d + 1) rings new
  trace_outer new fills a = record {
    as_many = fills.as_many ∙ t.as_many;
    few = (let few = t.few in omega arith);
    met = met_after Outside new fills outside_met;
    closed = closed_after Outside new fills outside_met;
    sides_are = λ k l. elim (on_or_off k) [
      | inl r ↦ subst (λ j. MetSide points edges rings (dart_at darts j).tail (dart_at darts j).head (side_at new j)) r.2 (subst (MetSide points edges rings (dart_at darts (slice_index orbit r.0)).tail (dart_at darts (slice_index orbit r.0)).head) (sym (fills.on r.0 r.1))
          (record { walk = ring; walk_is = walk_is; outer = a; side = orbit_goes points edges darts nexts dr ne d orbit o r.0 r.1 }))
      | inr n ↦ subst (MetSide points edges rings (dart_at darts k).tail (dart_at darts k).head) (sym (fills.off k n)) (t.sides_are k l)
    ];
    each = t.each;
    least = t.least;
    sorted = t.sorted;
    begins = λ f l. let b = t.begins f l in record { dart = b.dart; before = (let o = b.before in omega arith); two = b.two; first = b.first; second = b.second };
  }

  -- ---- a ring

  abbrev more : List (List ℕ)
  more = rings ++ ring ∷ []

  at_old : (f : ℕ) → f < length rings → ring_at more f ≡ ring_at rings f
  at_old f l = get_or_append_left rings (ring ∷ []) [] f l

  at_new : (f : ℕ) → f ≡ length rings → ring_at more f ≡ ring
  at_new f e = get_or_push rings ring [] f (sym e)

  long : length more ≡ length rings + 1
  long = length_push rings ring

  old_or : (f : ℕ) → f < length more → (f < length rings) ⊎ (f ≡ length rings)
  old_or f l = let n = long in last_or f (length rings) (omega arith)

  kept : (u v : ℕ) (side : Side) → MetSide points edges rings u v side → MetSide points edges more u v side
  kept u v Unmet m = m
  kept u v Outside m = m
  kept u v (Face f) m = (let l = m.0 in let n = long in omega arith, subst (λ r. Goes r u v) (sym (at_old f m.0)) m.1)

  -- it has two vertices at least
  has_two : 1 < length ring
  has_two = elim (one_or (length ring) walk_is.some) [
    | inr l ↦ l
    | inl e ↦ let g = walk_is.goes 0 walk_is.some in absurd ((there points edges dr.drawing (corner ring 0) (after ring 0) g.along).2 (sym (ap (corner ring) (alone (length ring) e))))
  ]
    where
      one_or : (n : ℕ) → 0 < n → (n ≡ 1) ⊎ (1 < n)
      one_or n l = grind arith

      alone : (n : ℕ) → n ≡ 1 → next n 0 ≡ 0
      alone n e = grind (arith, nat_tests, e)

  second_is : corner ring 1 ≡ (dart_at darts d).head
  second_is = sym (ap (corner ring) (step (length ring) has_two)) ∙ head_at points edges darts nexts dr ne d orbit o 0 o.some ∙ ap (λ k. (dart_at darts k).head) o.first where
    step : (n : ℕ) → 1 < n → next n 0 ≡ 1
    step n l = grind (arith, nat_tests, l)

  after_old : (f : ℕ) → f < length rings → IsTrue (list_before (ring_at rings f) ring)
  after_old f l = let b = t.begins f l in by b (dr.darts_are.sorted.rises b.dart d b.before d_below) where
    by : (b : Begins darts (ring_at rings f) d) → ComesBefore (dart_at darts b.dart) (dart_at darts d) → IsTrue (list_before (ring_at rings f) ring)
    by b (inl m) = let x = b.first in let y = first_is in let two = b.two in before_first (ring_at rings f) ring (omega arith) walk_is.some (omega (arith, m, x, y))
    by b (inr m) = let x = b.second in let y = second_is in let less = m.1 in before_second (ring_at rings f) ring b.two has_two (b.first ∙ m.0 ∙ sym first_is) (omega (arith, less, x, y))

  pub trace_ring : (new : List Side) → Fills sides orbit (Face (length rings)) new → pos 0 <ℤ area points ring → IsTraced points edges darts nexts (d + 1) more new
  trace_ring new fills a = record {
    as_many = fills.as_many ∙ t.as_many;
    few = (let few = t.few in let n = long in omega arith);
    met = met_after (Face (length rings)) new fills (face_met (length rings));
    closed = closed_after (Face (length rings)) new fills (face_met (length rings));
    sides_are = λ k l. elim (on_or_off k) [
      | inl r ↦ subst (λ j. MetSide points edges more (dart_at darts j).tail (dart_at darts j).head (side_at new j)) r.2 (subst (MetSide points edges more (dart_at darts (slice_index orbit r.0)).tail (dart_at darts (slice_index orbit r.0)).head) (sym (fills.on r.0 r.1))
          (let n = long in (omega arith, subst (λ x. Goes x (dart_at darts (slice_index orbit r.0)).tail (dart_at darts (slice_index orbit r.0)).head) (sym (at_new (length rings) refl)) (orbit_goes points edges darts nexts dr ne d orbit o r.0 r.1))))
      | inr n ↦ subst (MetSide points edges more (dart_at darts k).tail (dart_at darts k).head) (sym (fills.off k n)) (kept _ _ (side_at sides k) (t.sides_are k l))
    ];
    each = λ f l. elim (old_or f l) [
      | inl m ↦ subst (IsRingWalk points edges) (sym (at_old f m)) (t.each f m)
      | inr e ↦ subst (IsRingWalk points edges) (sym (at_new f e)) (record { walk_is = walk_is; round = a })
    ];
    least = λ f i l. elim (old_or f l) [
      | inl m ↦ subst (λ r. i < length r → corner r 0 ≤ corner r i) (sym (at_old f m)) (t.least f i m)
      | inr e ↦ subst (λ r. i < length r → corner r 0 ≤ corner r i) (sym (at_new f e)) (is_least i)
    ];
    sorted = λ f g l m. elim (old_or g m) [
      | inl s ↦ subst (λ r. IsTrue (list_before r (ring_at more g))) (sym (at_old f (omega (arith, l, s)))) (subst (λ r. IsTrue (list_before (ring_at rings f) r)) (sym (at_old g s)) (t.sorted f g l s))
      | inr e ↦ subst (λ r. IsTrue (list_before r (ring_at more g))) (sym (at_old f (omega (arith, l, e)))) (subst (λ r. IsTrue (list_before (ring_at rings f) r)) (sym (at_new g e)) (after_old f (omega (arith, l, e))))
    ];
    begins = λ f l. elim (old_or f l) [
      | inl m ↦ subst (λ r. Begins darts r (d + 1)) (sym (at_old f m)) (let b = t.begins f m in record { dart = b.dart; before = (let o = b.before in omega arith); two = b.two; first = b.first; second = b.second })
      | inr e ↦ subst (λ r. Begins darts r (d + 1)) (sym (at_new f e)) (record { dart = d; before = omega arith; two = has_two; first = first_is; second = second_is })
    ];
  }

-- ---- all walks

module _ (points : List Pt) (edges : List EdgeEnds) (darts : List Dart) (nexts : List ℕ) (dr : IsDrawnBy points edges darts) (d : ℕ) (rings : List (List ℕ)) (sides : List Side)
    (t : IsTraced points edges darts nexts d rings sides) (end : length darts ≤ d) (within : d ≤ length darts) where
  met_side : (k : ℕ) → k < length darts → (s : Side) → s ≢ Unmet → MetSide points edges rings (dart_at darts k).tail (dart_at darts k).head s → IsSideOf points edges rings (dart_at darts k).tail (dart_at darts k).head s
  met_side k l Unmet n m = absurd (n refl)
  met_side k l Outside n m = m
  met_side k l (Face f) n m = m

  -- a ring goes along the dart, since its side isn't outside
  ring_of : (W : List ℕ) (u v : ℕ) → IsRingWalk points edges W → Goes W u v → (s : Side) → IsSideOf points edges rings u v s → (f : ℕ) × (f < length rings) × Goes (ring_at rings f) u v
  ring_of W u v w g Unmet h = absurd h
  ring_of W u v w g Outside h = let e = one_area points edges dr.drawing W h.walk w.walk_is h.walk_is u v g h.side in let a = w.round in let b = h.outer in absurd (omega (arith, linear))
  ring_of W u v w g (Face f) h = (f, h.0, h.1)

  pub all_traced : AreTraced points edges darts rings sides
  all_traced = record {
    rings_are = record {
      each = t.each;
      least = t.least;
      sorted = t.sorted;
      all = λ W u v w g. all W u v w g (joined_by W u v w g);
    };
    few = (let few = t.few in omega (arith, few, within));
    as_many = t.as_many;
    sides_are = side_of;
  }
    where
      side_of : (k : ℕ) → k < length darts → IsSideOf points edges rings (dart_at darts k).tail (dart_at darts k).head (side_at sides k)
      side_of k l = met_side k l (side_at sides k) (t.met k (omega (arith, l, end))) (t.sides_are k l)

      joined_by : (W : List ℕ) (u v : ℕ) → IsRingWalk points edges W → Goes W u v → IsTrue (joined edges u v)
      joined_by W u v w g = let a = (w.walk_is.goes g.place g.inside).along in subst (λ x. IsTrue (joined edges x v)) g.from (subst (λ x. IsTrue (joined edges (corner W g.place) x)) g.to a)

      all : (W : List ℕ) (u v : ℕ) → IsRingWalk points edges W → Goes W u v → IsTrue (joined edges u v) → (f : ℕ) × (f < length rings) × Goes (ring_at rings f) u v
      all W u v w g j =
          let r = dr.darts_are.all u v j in
          ring_of W u v w g (side_at sides r.0) (subst (λ (x : Dart). IsSideOf points edges rings x.tail x.head (side_at sides r.0)) r.2 (side_of r.0 r.1))

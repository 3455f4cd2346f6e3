-- A walk of positive area at which no vertex is reflex and which has none inside is a face's ring.
use Rattle.std.proofs.Common.{◌≡◌, ◌≢◌, ◌⊎◌, inl, inr, ℕ, suc, ◌<◌, ◌≤◌, List, length, arith, sym, ap, subst, pos, ◌+ℤ◌, ◌*ℤ◌, ◌<ℤ◌, ◌≤ℤ◌}
use Rattle.std.proofs.lemmas.Int.{by_lt_z}
use Rattle.std.proofs.lemmas.Bool.Decides.{nat_tests}
use Rattle.ff_basics.proofs.Numbers.{same_or}
use Rattle.ff_whole.proofs.Signs.{linear}
use Rattle.ff_whole.proofs.Areas.{wide_from_area}
use Rattle.ff_whole.proofs.Images.{distance_positive}
use Rattle.ff_whole.proofs.ConvexBorders.{IsConvexRing}
use Rattle.ff_whole.proofs.ClosedLists.{walk, walk-below, walk-full}
use Rattle.ff_whole.specs.declared.points.Pt.{Pt}
use Rattle.ff_whole.specs.Points.{minus, dot, cross, turn}
use Rattle.ff_whole.specs.Convex.{next, point_at, left_of, IsConvex}
use Rattle.ff_types.specs.declared.patterns.EdgeEnds.{EdgeEnds}
use Rattle.ff_types.specs.Patterns.{edge_at}
use Rattle.ff_types.specs.Drawings.{IsDrawing}
use Rattle.ff_types.specs.Rings.{corner, after, corners, IsStrictlyIn, IsRing}
use Rattle.ff_types.specs.Walks.{IsRingWalk}
use Rattle.ff_types.proofs.SubRings.{corner_point}
use Rattle.ff_planar.specs.Reflex.{left_of_step, IsReflex, IsInside}
use Rattle.ff_planar.proofs.CyclicSums.{sum_same, sweep_at, area_sum, walk_start}
use Rattle.ff_planar.proofs.FoundDarts.{along_edge}
use Rattle.ff_planar.proofs.Neighbours.{there}
use Rattle.ff_planar.proofs.RingTests.{corners_length, left_is, walk_there}
use Rattle.ff_planar.proofs.InnerEdges.{none_inside}

module _ (points : List Pt) (edges : List EdgeEnds) (d : IsDrawing points edges) (ring : List ℕ) (w : IsRingWalk points edges ring)
    (no_reflex : (i : ℕ) → i < length ring → IsReflex points ring i → ⊥) (no_inside : (u : ℕ) → u < length points → IsInside points ring u → ⊥) where
  abbrev n : ℕ
  n = length ring

  abbrev at : ℕ → Pt
  at i = point_at points (corner ring i)

  -- three at least: a walk doesn't turn back
  has_three : 3 ≤ n
  has_three = elim (or_three n w.walk_is.some) [
    | inr l ↦ l
    | inl e ↦ let g = w.walk_is.goes 0 w.walk_is.some in absurd (g.not_back (ap (corner ring) (short n w.walk_is.some e)))
  ]
    where
      or_three : (n : ℕ) → 0 < n → (n ≤ 2) ⊎ (3 ≤ n)
      or_three n l = grind arith

      short : (n : ℕ) → 0 < n → n ≤ 2 → next n (next n 0) ≡ 0
      short n l m = grind (arith, nat_tests)

  differ : (i j : ℕ) → i < n → j < n → corner ring i ≡ corner ring j → i ≡ j
  differ i j l m e = elim (same_or i j) [ inl x ↦ absurd (no_reflex i l (j, m, inl (x, sym e))) | inr x ↦ x ]

  not_right : (i j : ℕ) → i < n → j < n → pos 0 ≤ℤ left_of_step points ring i (corner ring j)
  not_right i j l m = by_lt_z (left_of_step points ring i (corner ring j)) (pos 0) (λ h. absurd (no_reflex j m (i, l, inr h))) (λ h. h)

  -- the points in turn, for ever
  abbrev round : ℕ → Pt
  round k = at (walk n 0 k)

  long : (k : ℕ) → k < n → pos 0 <ℤ dot (minus (at (next n k)) (at k)) (minus (at (next n k)) (at k))
  long k l = let t = there points edges d (corner ring k) (after ring k) (w.walk_is.goes k l).along in
      distance_positive (at k) (at (next n k)) (λ e. t.2 (d.apart.differ (corner ring k) (after ring k) t.0 t.1 e))

  is_wide : (k : ℕ) → k < n → (j : ℕ) × (j < n) × (pos 0 <ℤ left_of_step points ring k (corner ring j))
  is_wide k l =
      let s = w.walk_is.some in
      let a = w.round in
      let b = area_sum points ring in
      let c = sum_same n (λ i. cross (round i) (round (suc i))) (sweep_at points ring) (λ i m. swept i m) in
      let e = walk_start n k l in
      let r = wide_from_area n round (ap at (walk-full n 0 s)) (omega (arith, linear)) (λ j. (walk n 0 j, walk-below n 0 j s, ap at (sym (walk_start n (walk n 0 j) (walk-below n 0 j s))))) k
      (subst (λ j. pos 0 <ℤ dot (minus (at (next n j)) (at j)) (minus (at (next n j)) (at j))) (sym e) (long k l))
      (λ i m. subst (λ j. pos 0 ≤ℤ turn (round k) (round (suc k)) (at j)) (sym (walk_start n i m)) (subst (λ j. pos 0 ≤ℤ turn (at j) (at (next n j)) (at i)) (sym e) (not_right k i l m))) in
      (r.0, r.1, subst (λ j. pos 0 <ℤ turn (at j) (at (next n j)) (at r.0)) e (subst (λ j. pos 0 <ℤ turn (round k) (round (suc k)) (at j)) (walk_start n r.0 r.1) r.2))
    where
      swept : (i : ℕ) → i < n → cross (round i) (round (suc i)) ≡ sweep_at points ring i
      swept i m = ap (λ j. cross (at j) (at (next n j))) (walk_start n i m)

  pub convex_ring : IsConvexRing n at
  convex_ring = record { left = not_right; wide = is_wide }

  -- what the definition says of the ring of points
  in_list : (i : ℕ) → i < length (corners points ring) → i < n
  in_list i l = let e = corners_length points ring in omega arith

  points_convex : IsConvex (corners points ring)
  points_convex = record {
    some = (let e = corners_length points ring in let s = w.walk_is.some in omega arith);
    left = λ i j l m. let li = in_list i l in let lj = in_list j m in
        subst (λ p. pos 0 ≤ℤ left_of (corners points ring) i p) (sym (corner_point points ring j lj)) (subst (λ z. pos 0 ≤ℤ z) (sym (left_is points ring i (corner ring j) li)) (not_right i j li lj));
    wide = λ i l. let li = in_list i l in let r = is_wide i li in
        (r.0, (let e = corners_length points ring in let m = r.1 in omega arith), subst (λ p. pos 0 <ℤ left_of (corners points ring) i p) (sym (corner_point points ring r.0 r.1)) (subst (λ z. pos 0 <ℤ z) (sym (left_is points ring i (corner ring r.0) li)) r.2));
  }

  inside_from : (u : ℕ) → IsStrictlyIn (corners points ring) (point_at points u) → IsInside points ring u
  inside_from u h j l = subst (λ z. pos 0 <ℤ z) (left_is points ring j u l) (h j (let e = corners_length points ring in omega (arith, l, e)))

  pub ring_from : IsRing points edges ring
  ring_from = record {
    three = has_three;
    there = walk_there points edges d ring w.walk_is;
    differ = differ;
    joins = λ i l. (w.walk_is.goes i l).along;
    convex = points_convex;
    no_vertex = λ u l h. no_inside u l (inside_from u h);
    no_point = λ e s t l some h. none_inside points edges d ring w.walk_is convex_ring (λ u m i. no_inside u m i) (edge_at edges e).a (edge_at edges e).b (along_edge edges e l) s t
        (λ i m. subst (λ z. pos 0 <ℤ (pos s *ℤ z +ℤ pos t *ℤ left_of_step points ring i (edge_at edges e).b)) (left_is points ring i (edge_at edges e).a m)
        (subst (λ z. pos 0 <ℤ (pos s *ℤ left_of (corners points ring) i (point_at points (edge_at edges e).a) +ℤ pos t *ℤ z)) (left_is points ring i (edge_at edges e).b m) (h i (let c = corners_length points ring in omega (arith, m, c)))));
  }

-- The faces of a drawing are its walks of positive area, and where it has faces hardly a refusal comes.
use Rattle.std.proofs.Common.{◌≡◌, ◌⊎◌, inl, inr, ℕ, suc, ◌<◌, Bool, true, false, List, length, arith, refl, sym, ap, ◌∙◌, subst, pos, ◌<ℤ◌, ◌≤ℤ◌, Option}
use Rattle.std.proofs.lemmas.Bool.{false≢true}
use Rattle.ff_whole.proofs.Signs.{linear}
use Rattle.ff_whole.proofs.Areas.{area_positive}
use Rattle.ff_whole.proofs.Turns.{height-through}
use Rattle.ff_whole.proofs.ClosedLists.{walk, walk-full}
use Rattle.ff_whole.specs.declared.points.Pt.{Pt}
use Rattle.ff_whole.specs.Points.{cross, turn}
use Rattle.ff_whole.specs.Places.{place_of}
use Rattle.ff_whole.specs.Convex.{next, point_at, left_of}
use Rattle.ff_types.specs.declared.patterns.EdgeEnds.{EdgeEnds}
use Rattle.ff_types.specs.declared.patterns.Mark.{Mark}
use Rattle.ff_types.specs.Drawings.{IsDrawing}
use Rattle.ff_types.specs.Rings.{corner, after, corners, Goes, IsRing}
use Rattle.ff_types.specs.Areas.{area}
use Rattle.ff_types.specs.Faces.{ring_at, Belongs, IsOuter, AreRings}
use Rattle.ff_types.specs.Walks.{IsWalk, IsRingWalk, IsOuterSide, AreRingWalks}
use Rattle.ff_types.specs.FaceRefusals.{PinchAt, ReflexAt, EnclosedAt}
use Rattle.ff_types.proofs.ComputedFaces.{belongs, belongs_so, so_belongs}
use Rattle.ff_planar.specs.Reflex.{left_of_step, IsReflex}
use Rattle.ff_planar.proofs.CyclicSums.{sum_same, sweep_at, area_sum, walk_start}
use Rattle.ff_planar.proofs.SameWalks.{one_area, one_walk}
use Rattle.ff_planar.proofs.OuterDarts.{outer_along}
use Rattle.ff_planar.proofs.RingTests.{corners_length, left_is, goes_at, from_reflex, from_enclosed}
use Rattle.ff_planar.proofs.RingWalks.{ring_walk, not_right, is_wide}

-- ---- the area of a convex ring is positive

module _ (points : List Pt) (edges : List EdgeEnds) (d : IsDrawing points edges) (ring : List ℕ) (r : IsRing points edges ring) where
  abbrev at : ℕ → Pt
  at i = point_at points (corner ring i)

  abbrev round : ℕ → Pt
  round k = at (walk (length ring) 0 k)

  some : 0 < length ring
  some = let t = r.three in omega arith

  pub area_pos : pos 0 <ℤ area points ring
  area_pos =
      let n = length ring in
      let y = is_wide points edges d ring r 0 some in
      let q = at y.0 in
      let a = area_sum points ring in
      let c = sum_same n (λ i. cross (round i) (round (suc i))) (sweep_at points ring) (λ i m. ap (λ j. cross (at j) (at (next n j))) (walk_start n i m)) in
      let p = area_positive n round (place_of q) (ap at (walk-full n 0 some)) (omega (arith, linear))
      (λ i m. subst (λ z. pos 0 ≤ℤ z) (sym (height-through (round i) (round (suc i)) q)) (subst (λ j. pos 0 ≤ℤ turn (at j) (at (next n j)) q) (sym (walk_start n i m)) (not_right points edges d ring r i y.0 m y.1)))
      0 some (subst (λ z. pos 0 <ℤ z) (sym (height-through (round 0) (round 1) q)) y.2) in
      omega (arith, linear)

module _ (points : List Pt) (edges : List EdgeEnds) (d : IsDrawing points edges) (marks : Option (List Mark)) (rings : List (List ℕ)) (a : AreRings points edges marks rings) where
  pub ring_walk_at : (f : ℕ) → f < length rings → IsRingWalk points edges (ring_at rings f)
  ring_walk_at f l = record { walk_is = ring_walk points edges d (ring_at rings f) (a.each f l); round = area_pos points edges d (ring_at rings f) (a.each f l) }

  belongs_or : (u v : ℕ) → Belongs rings u v ⊎ (Belongs rings u v → ⊥)
  belongs_or u v = by (belongs rings u v) refl where
    by : (b : Bool) → belongs rings u v ≡ b → Belongs rings u v ⊎ (Belongs rings u v → ⊥)
    by true e = inl (belongs_so rings u v e)
    by false e = inr (λ h. false≢true (sym e ∙ so_belongs rings u v h))

  -- a walk with an edge in no ring has none in a ring, and its area isn't positive
  not_round : (W : List ℕ) → IsWalk points edges W → (u v : ℕ) → Goes W u v → (Belongs rings u v → ⊥) → area points W ≤ℤ pos 0
  not_round W w u v g n = a.no_hole W (record {
    some = w.some;
    steps = λ i l. record {
      edge = (w.goes i l).along;
      none = λ b. n (b.0, b.1, one_walk points edges d W (ring_at rings b.0) w (ring_walk_at b.0 b.1).walk_is (corner W i) (after W i) (goes_at W i l) b.2 u v g);
    };
  })

  -- a side in a ring isn't outside
  pub not_outside : (u v : ℕ) → Belongs rings u v → IsOuterSide points edges u v → ⊥
  not_outside u v b o =
      let w = ring_walk_at b.0 b.1 in
      let e = one_area points edges d (ring_at rings b.0) o.walk w.walk_is o.walk_is u v b.2 o.side in
      let p = w.round in
      let q = o.outer in
      omega (arith, linear)

  pub outer_from : (u v : ℕ) → IsOuterSide points edges u v → IsOuter edges rings u v
  outer_from u v o = record { edge = outer_along points edges u v o; none = λ b. not_outside u v b o }

  -- the edges of a walk of positive area are those of a ring
  pub round_belongs : (W : List ℕ) → IsRingWalk points edges W → (u v : ℕ) → Goes W u v → Belongs rings u v
  round_belongs W w u v g = elim (belongs_or u v) [ inl b ↦ b | inr n ↦ let z = not_round W w.walk_is u v g n in let p = w.round in absurd (omega (arith, linear)) ]

  -- the faces are the rings among the walks
  pub ring_walks : AreRingWalks points edges rings
  ring_walks = record { each = ring_walk_at; least = a.least; sorted = a.sorted; all = λ W u v w g. round_belongs W w u v g }

  -- ---- refusals that don't come

  pub no_pinch : (v : ℕ) → PinchAt points edges v → ⊥
  no_pinch v h = let p = h.1 in p.2 (a.leaves v p.0 p.1 (outer_from v p.0 p.3) (outer_from v p.1 p.4))

  pub no_reflex : (v : ℕ) → ReflexAt points edges v → ⊥
  no_reflex v h =
      let s = from_reflex points edges d rings ring_walks v h in
      by s.0 s.1 s.2.0 s.2.1 s.2.3
    where
      by : (f : ℕ) → f < length rings → (i : ℕ) → i < length (ring_at rings f) → IsReflex points (ring_at rings f) i → ⊥
      by f l i m (j, o, inl b) = b.0 ((a.each f l).differ i j m o (sym b.1))
      by f l i m (j, o, inr b) = let n = not_right points edges d (ring_at rings f) (a.each f l) j i o m in omega (arith, linear)

  pub no_enclosed : (v : ℕ) → EnclosedAt points edges v → ⊥
  no_enclosed v h =
      let s = from_enclosed points edges d rings ring_walks v h in
      (a.each s.0 s.1).no_vertex v h.0 (λ j m. let n = corners_length points (ring_at rings s.0) in strictly s.0 s.2 j (omega (arith, m, n)))
    where
      strictly : (f : ℕ) → ((j : ℕ) → j < length (ring_at rings f) → pos 0 <ℤ left_of_step points (ring_at rings f) j v) → (j : ℕ) → j < length (ring_at rings f) → pos 0 <ℤ left_of (corners points (ring_at rings f)) j (point_at points v)
      strictly f s j m = subst (λ z. pos 0 <ℤ z) (sym (left_is points (ring_at rings f) j v m)) (s j m)

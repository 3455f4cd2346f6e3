-- The tests of reflex and of enclosed vertices on the listed rings are the conditions on all walks with positive area.
use Rattle.std.proofs.Common.{◌≡◌, ◌≢◌, ◌⊎◌, inl, inr, ℕ, ◌<◌, List, [], ◌∷◌, length, arith, refl, sym, ap, ◌∙◌, subst, pos, ◌<ℤ◌, suc}
use Rattle.ff_whole.specs.declared.points.Pt.{Pt}
use Rattle.ff_whole.specs.Points.{turn}
use Rattle.ff_whole.specs.Convex.{next, point_at, left_of}
use Rattle.ff_whole.proofs.ClosedLists.{next-below}
use Rattle.ff_types.specs.declared.patterns.EdgeEnds.{EdgeEnds}
use Rattle.ff_types.specs.Drawings.{IsDrawing}
use Rattle.ff_types.specs.Rings.{corner, after, corners, Goes, IsStrictlyIn}
use Rattle.ff_types.specs.Faces.{ring_at}
use Rattle.ff_types.specs.Walks.{IsWalk, IsRingWalk, AreRingWalks}
use Rattle.ff_types.specs.FaceRefusals.{ReflexAt, EnclosedAt}
use Rattle.ff_types.proofs.SubRings.{corner_point}
use Rattle.ff_planar.specs.Reflex.{left_of_step, SomeReflex, SomeInside, AreThere}
use Rattle.ff_planar.proofs.Neighbours.{there}
use Rattle.ff_planar.proofs.SameWalks.{one_walk}

pub corners_length : (points : List Pt) (ring : List ℕ) → length (corners points ring) ≡ length ring
corners_length points [] = refl
corners_length points (v ∷ ring) = ap suc (corners_length points ring)

-- how far left of an edge of the ring of points is how far left of the step
pub left_is : (points : List Pt) (ring : List ℕ) (j v : ℕ) → j < length ring → left_of (corners points ring) j (point_at points v) ≡ left_of_step points ring j v
left_is points ring j v l =
    let n = corners_length points ring in
    let here = corner_point points ring j l in
    let on = ap (λ k. point_at (corners points ring) (next k j)) n ∙ corner_point points ring (next (length ring) j) (next-below (length ring) j l) in
    ap (λ p. turn p (point_at (corners points ring) (next (length (corners points ring)) j)) (point_at points v)) here ∙ ap (λ p. turn (point_at points (corner ring j)) p (point_at points v)) on

pub goes_at : (ring : List ℕ) (i : ℕ) → i < length ring → Goes ring (corner ring i) (after ring i)
goes_at ring i l = record { place = i; inside = l; from = refl; to = refl }

-- the same where the list goes from u to v
left_along : (points : List Pt) (ring : List ℕ) (u w v : ℕ) (g : Goes ring u w) → left_of_step points ring g.place v ≡ turn (point_at points u) (point_at points w) (point_at points v)
left_along points ring u w v g =
    ap (λ x. turn (point_at points x) (point_at points (after ring g.place)) (point_at points v)) g.from ∙ ap (λ x. turn (point_at points u) (point_at points x) (point_at points v)) g.to

-- the vertices of a walk are there
pub walk_there : (points : List Pt) (edges : List EdgeEnds) → IsDrawing points edges → (walk : List ℕ) → IsWalk points edges walk → (i : ℕ) → i < length walk → corner walk i < length points
walk_there points edges d walk w i l = (there points edges d (corner walk i) (after walk i) (w.goes i l).along).0

module _ (points : List Pt) (edges : List EdgeEnds) (d : IsDrawing points edges) (rings : List (List ℕ)) (r : AreRingWalks points edges rings) where
  pub rings_there : AreThere points rings
  rings_there f i l m = walk_there points edges d (ring_at rings f) (r.each f l).walk_is i m

  pub reflex_from : (v : ℕ) → v < length points → SomeReflex points rings v → ReflexAt points edges v
  reflex_from v l s = let h = s.2 in let bad = h.3.2 in (
    l,
    (
      ring_at rings s.0,
      r.each s.0 s.1,
      (
        h.0,
        h.1,
        h.2,
        elim bad [
          | inl b ↦ inl (h.3.0, h.3.1, b.0, b.1 ∙ h.2)
          | inr b ↦ inr (h.3.0, h.3.1, subst (λ z. z <ℤ pos 0) (sym (left_is points (ring_at rings s.0) h.3.0 v h.3.1)) (subst (λ x. left_of_step points (ring_at rings s.0) h.3.0 x <ℤ pos 0) h.2 b))
        ],
      ),
    ),
  )

  module _ (walk : List ℕ) (w : IsRingWalk points edges walk) (i : ℕ) (l : i < length walk) where
    abbrev same : (f : ℕ) × (f < length rings) × Goes (ring_at rings f) (corner walk i) (after walk i)
    same = r.all walk (corner walk i) (after walk i) w (goes_at walk i l)

    carried : (u v : ℕ) → Goes walk u v → Goes (ring_at rings same.0) u v
    carried u v g = one_walk points edges d walk (ring_at rings same.0) w.walk_is (r.each same.0 same.1).walk_is (corner walk i) (after walk i) (goes_at walk i l) same.2 u v g

    carried_back : (u v : ℕ) → Goes (ring_at rings same.0) u v → Goes walk u v
    carried_back u v g = one_walk points edges d (ring_at rings same.0) walk (r.each same.0 same.1).walk_is w.walk_is (corner walk i) (after walk i) same.2 (goes_at walk i l) u v g

    reflex_of : (v : ℕ) → corner walk i ≡ v
        → ((j : ℕ) × (j < length walk) × (i ≢ j) × (corner walk j ≡ v)) ⊎ ((j : ℕ) × (j < length walk) × (left_of (corners points walk) j (point_at points v) <ℤ pos 0)) → SomeReflex points rings v
    reflex_of v e (inl b) =
        let p = same.2 in
        let q = carried (corner walk b.0) (after walk b.0) (goes_at walk b.0 b.1) in
        let differ : p.place ≡ q.place → ⊥ = λ s. b.2 (w.walk_is.once i b.0 l b.1 (e ∙ sym b.3) (sym p.to ∙ ap (after (ring_at rings same.0)) s ∙ q.to)) in
        (same.0, same.1, (p.place, p.inside, p.from ∙ e, (q.place, q.inside, inl (differ, q.from ∙ b.3 ∙ sym (p.from ∙ e)))))
    reflex_of v e (inr b) =
        let p = same.2 in
        let q = carried (corner walk b.0) (after walk b.0) (goes_at walk b.0 b.1) in
        let a = left_along points (ring_at rings same.0) (corner walk b.0) (after walk b.0) v q in
        let c = left_is points walk b.0 v b.1 in
        (same.0, same.1, (p.place, p.inside, p.from ∙ e, (q.place, q.inside, inr (subst (λ x. left_of_step points (ring_at rings same.0) q.place x <ℤ pos 0) (sym (p.from ∙ e)) (subst (λ z. z <ℤ pos 0) (c ∙ sym a) b.2)))))

    inside_of : (v : ℕ) → IsStrictlyIn (corners points walk) (point_at points v) → SomeInside points rings v
    inside_of v h = (same.0, same.1, λ j m. each j m)
      where
        each : (j : ℕ) → j < length (ring_at rings same.0) → pos 0 <ℤ left_of_step points (ring_at rings same.0) j v
        each j m =
            let g = carried_back (corner (ring_at rings same.0) j) (after (ring_at rings same.0) j) (goes_at (ring_at rings same.0) j m) in
            let a = left_along points walk (corner (ring_at rings same.0) j) (after (ring_at rings same.0) j) v g in
            let b = left_is points walk g.place v g.inside in
            let n = corners_length points walk in
            let inside = g.inside in
            subst (λ z. pos 0 <ℤ z) (b ∙ a) (h g.place (omega (arith, inside, n)))

  pub from_reflex : (v : ℕ) → ReflexAt points edges v → SomeReflex points rings v
  from_reflex v h = let w = h.1 in reflex_of w.0 w.1 w.2.0 w.2.1 v w.2.2 w.2.3

  pub enclosed_from : (v : ℕ) → v < length points → SomeInside points rings v → EnclosedAt points edges v
  enclosed_from v l s = (l, (ring_at rings s.0, r.each s.0 s.1, λ j m. let n = corners_length points (ring_at rings s.0) in inside j (omega (arith, m, n))))
    where
      inside : (j : ℕ) → j < length (ring_at rings s.0) → pos 0 <ℤ left_of (corners points (ring_at rings s.0)) j (point_at points v)
      inside j m = subst (λ z. pos 0 <ℤ z) (sym (left_is points (ring_at rings s.0) j v m)) (s.2 j m)

  pub from_enclosed : (v : ℕ) → EnclosedAt points edges v → SomeInside points rings v
  from_enclosed v h = let w = h.1 in inside_of w.0 w.1 0 w.1.walk_is.some v w.2

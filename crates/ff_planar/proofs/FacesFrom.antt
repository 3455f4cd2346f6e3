-- Where no refusal comes, the rings are the faces of the drawing.
use Rattle.std.proofs.Common.{◌≡◌, ◌≢◌, ◌⊎◌, inl, inr, ℕ, ◌<◌, IsTrue, List, length, arith, refl, sym, subst, pos, ◌≤ℤ◌, Option, Some, None}
use Rattle.ff_basics.proofs.Numbers.{same_or, which}
use Rattle.ff_whole.specs.declared.points.Pt.{Pt}
use Rattle.ff_whole.specs.Convex.{next}
use Rattle.ff_whole.proofs.ClosedLists.{next-below}
use Rattle.ff_types.specs.declared.patterns.EdgeEnds.{EdgeEnds}
use Rattle.ff_types.specs.declared.patterns.Mark.{Mark}
use Rattle.ff_types.specs.declared.patterns.Mark.TheVariants.{B, M, V, F, U}
use Rattle.ff_types.specs.declared.faces.EdgeSides.{EdgeSides}
use Rattle.ff_types.specs.Patterns.{edge_at}
use Rattle.ff_types.specs.Drawings.{IsDrawing, joined}
use Rattle.ff_types.specs.Rings.{corner, after, Goes, IsRing}
use Rattle.ff_types.specs.Areas.{area}
use Rattle.ff_types.specs.Faces.{ring_at, mark_at, list_before, Belongs, AreChained, IsOuter, IsOuterWalk, FitsMark, FitMarks, AreRings}
use Rattle.ff_types.specs.Sides.{sides_at}
use Rattle.ff_types.specs.Walks.{IsWalk, IsOuterSide}
use Rattle.ff_types.specs.FaceRefusals.{RimAt, PinchAt, ReflexAt, EnclosedAt, Never}
use Rattle.ff_drawn.specs.declared.darts.Dart.{Dart}
use Rattle.ff_planar.specs.declared.traces.Side.{Side}
use Rattle.ff_planar.specs.declared.traces.Side.TheVariants.{Unmet, Outside, Face}
use Rattle.ff_drawn.specs.Drawn.{IsDrawnBy}
use Rattle.ff_planar.specs.Traces.{side_at, IsSideOf, AreTraced}
use Rattle.ff_planar.specs.Seen.{IsSeenOf, AreAllSeen, IsUnfit, given_mark}
use Rattle.ff_planar.proofs.Neighbours.{there}
use Rattle.ff_planar.proofs.SameWalks.{beyond, area_round, walks_alike, walk_once}
use Rattle.ff_planar.proofs.SameRings.{BeginsLeast, one_list, not_before_itself}
use Rattle.ff_planar.proofs.Chains.{chained_on, chained_back}
use Rattle.ff_planar.proofs.Rims.{ring_side, rim_from}
use Rattle.ff_planar.proofs.RingTests.{reflex_from, enclosed_from, walk_there}
use Rattle.ff_planar.proofs.RingsFrom.{ring_from}

module _ (points : List Pt) (edges : List EdgeEnds) (darts : List Dart) (dr : IsDrawnBy points edges darts) (rings : List (List ℕ)) (sides : List Side) (t : AreTraced points edges darts rings sides)
    (no_pinch : Never (PinchAt points edges)) (no_reflex : Never (ReflexAt points edges)) (no_enclosed : Never (EnclosedAt points edges)) where
  abbrev d : IsDrawing points edges
  d = dr.drawing

  -- ---- each ring

  pub each_ring : (f : ℕ) → f < length rings → IsRing points edges (ring_at rings f)
  each_ring f l =
      let w = t.rings_are.each f l in
      ring_from points edges d (ring_at rings f) w
      (λ i m h. let v = corner (ring_at rings f) i in no_reflex v (reflex_from points edges d rings t.rings_are v (walk_there points edges d (ring_at rings f) w.walk_is i m) (f, l, (i, m, refl, h))))
      (λ u m h. no_enclosed u (enclosed_from points edges d rings t.rings_are u m (f, l, h)))

  begins_least : (f : ℕ) → f < length rings → BeginsLeast (ring_at rings f)
  begins_least f l = record { least = λ i m. t.rings_are.least f i l m; differ = (each_ring f l).differ }

  pub one_ring : (f g u v : ℕ) → f < length rings → g < length rings → Goes (ring_at rings f) u v → Goes (ring_at rings g) u v → f ≡ g
  one_ring f g u v l m a b = elim (which f g) [
    | inl o ↦ absurd (not_before_itself (ring_at rings g) (subst (λ r. IsTrue (list_before r (ring_at rings g))) same (t.rings_are.sorted f g o m)))
    | inr (inl o) ↦ absurd (not_before_itself (ring_at rings g) (subst (λ r. IsTrue (list_before (ring_at rings g) r)) same (t.rings_are.sorted g f o l)))
    | inr (inr o) ↦ o
  ]
    where
      same : ring_at rings f ≡ ring_at rings g
      same =
          let X = ring_at rings f in
          let W = ring_at rings g in
          let v' = (t.rings_are.each f l).walk_is in
          let w' = (t.rings_are.each g m).walk_is in
          one_list X W (walks_alike points edges d X W v' w') (walks_alike points edges d W X w' v') (walk_once points edges d X v') (walk_once points edges d W w') (begins_least f l) (begins_least g m) u v a b

  -- ---- outer sides

  outer_side : (u v : ℕ) → IsOuter edges rings u v → IsOuterSide points edges u v
  outer_side u v o =
      let r = dr.darts_are.all u v o.edge in
      by (side_at sides r.0) (subst (λ (x : Dart). IsSideOf points edges rings x.tail x.head (side_at sides r.0)) r.2 (t.sides_are r.0 r.1))
    where
      by : (s : Side) → IsSideOf points edges rings u v s → IsOuterSide points edges u v
      by Unmet h = absurd h
      by Outside h = h
      by (Face f) h = absurd (o.none (f, h.0, h.1))

  -- outer sides don't leave a vertex twice
  one_leaves : (u v w : ℕ) → IsOuterSide points edges u v → IsOuterSide points edges u w → v ≡ w
  one_leaves u v w o p = elim (same_or v w) [
    | inr e ↦ e
    | inl n ↦ absurd (no_pinch u ((there points edges d u v (along u v o)).0, (v, w, n, o, p)))
  ]
    where
      along : (u v : ℕ) → IsOuterSide points edges u v → IsTrue (joined edges u v)
      along u v o = let a = (o.walk_is.goes o.side.place o.side.inside).along in subst (λ x. IsTrue (joined edges x v)) o.side.from (subst (λ x. IsTrue (joined edges (corner o.walk o.side.place) x)) o.side.to a)

  -- a closed list of outer sides goes round an outer walk
  no_hole : (W : List ℕ) → IsOuterWalk edges rings W → area points W ≤ℤ pos 0
  no_hole W o =
      let first = outer_side (corner W 0) (after W 0) (o.steps 0 o.some) in
      let X = first.walk in
      let side = first.side in
      area_round points X W (record { on = alike X first.walk_is first.outer }) (walk_once points edges d X first.walk_is) side.place 0 side.inside o.some (record { here = side.from; there = side.to }) first.outer
    where
      alike : (X : List ℕ) → IsWalk points edges X → area points X ≤ℤ pos 0 → (i j : ℕ) → i < length X → j < length W → corner X i ≡ corner W j → after X i ≡ after W j → beyond X i ≡ beyond W j
      alike X w a i j l m e f =
          let i' = next (length X) i in
          let li = next-below (length X) i l in
          let j' = next (length W) j in
          let lj = next-below (length W) j m in
          let mine : IsOuterSide points edges (after X i) (beyond X i) = record { walk = X; walk_is = w; outer = a; side = record { place = i'; inside = li; from = refl; to = refl } } in
          let other : IsOuterSide points edges (after W j) (beyond W j) = outer_side (after W j) (beyond W j) (o.steps j' lj) in
          one_leaves (after X i) (beyond X i) (beyond W j) mine (subst (λ x. IsOuterSide points edges x (beyond W j)) (sym f) other)

  -- ---- marks

  module _ (seen : List EdgeSides) (s : AreAllSeen points edges rings seen) (marks : Option (List Mark)) (no_rim : Never (RimAt points edges marks)) where
    belongs : (u v f : ℕ) → IsSeenOf points edges rings u v (Some f) → Belongs rings u v
    belongs u v f h = (f, h.0, h.1)

    no_belongs : (u v : ℕ) → IsSeenOf points edges rings u v None → Belongs rings u v → ⊥
    no_belongs u v o b = ring_side points edges d rings t.rings_are u v b.0 (b.1, b.2) o

    fits : (e : EdgeEnds) (m : Mark) (left right : Option ℕ) → IsSeenOf points edges rings e.a e.b left → IsSeenOf points edges rings e.b e.a right → (IsUnfit (Some m) left right → ⊥) → FitsMark rings e m
    fits e m None None h k n = absurd (n tt)
    fits e B (Some f) (Some g) h k n = absurd (n tt)
    fits e B (Some f) None h k n = inl (belongs e.a e.b f h, no_belongs e.b e.a k)
    fits e B None (Some g) h k n = inr (no_belongs e.a e.b h, belongs e.b e.a g k)
    fits e M (Some f) (Some g) h k n = (belongs e.a e.b f h, belongs e.b e.a g k)
    fits e V (Some f) (Some g) h k n = (belongs e.a e.b f h, belongs e.b e.a g k)
    fits e F (Some f) (Some g) h k n = (belongs e.a e.b f h, belongs e.b e.a g k)
    fits e U (Some f) (Some g) h k n = (belongs e.a e.b f h, belongs e.b e.a g k)
    fits e M (Some f) None h k n = absurd (n tt)
    fits e V (Some f) None h k n = absurd (n tt)
    fits e F (Some f) None h k n = absurd (n tt)
    fits e U (Some f) None h k n = absurd (n tt)
    fits e M None (Some g) h k n = absurd (n tt)
    fits e V None (Some g) h k n = absurd (n tt)
    fits e F None (Some g) h k n = absurd (n tt)
    fits e U None (Some g) h k n = absurd (n tt)

    fits_none : (e : EdgeEnds) (left right : Option ℕ) → IsSeenOf points edges rings e.a e.b left → IsSeenOf points edges rings e.b e.a right → (IsUnfit None left right → ⊥) → Belongs rings e.a e.b ⊎ Belongs rings e.b e.a
    fits_none e None None h k n = absurd (n tt)
    fits_none e (Some f) right h k n = inl (belongs e.a e.b f h)
    fits_none e None (Some g) h k n = inr (belongs e.b e.a g k)

    not_unfit : (e : ℕ) → e < length edges → IsUnfit (given_mark marks e) (sides_at seen e).left (sides_at seen e).right → ⊥
    not_unfit e l h = no_rim e (rim_from points edges d rings t.rings_are seen s marks e l h)

    fit_marks : (m : Option (List Mark)) → ((e : ℕ) → e < length edges → IsUnfit (given_mark m e) (sides_at seen e).left (sides_at seen e).right → ⊥) → FitMarks edges rings m
    fit_marks (Some ms) n = λ e l. fits (edge_at edges e) (mark_at ms e) (sides_at seen e).left (sides_at seen e).right (s.each e l).left (s.each e l).right (n e l)
    fit_marks None n = λ e l. fits_none (edge_at edges e) (sides_at seen e).left (sides_at seen e).right (s.each e l).left (s.each e l).right (n e l)

    -- the rings are the faces
    pub rings_from : ((f : ℕ) → f < length rings → AreChained rings 0 f) → AreRings points edges marks rings
    rings_from chained = record {
      each = each_ring;
      one = one_ring;
      fit = fit_marks marks not_unfit;
      chained = λ f g l m. chained_on rings f 0 g (chained_back rings 0 f (omega (arith, l)) (chained f l)) (chained g m);
      leaves = λ u v w o p. one_leaves u v w (outer_side u v o) (outer_side u w p);
      no_hole = no_hole;
      least = t.rings_are.least;
      sorted = t.rings_are.sorted;
    }

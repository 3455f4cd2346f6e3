-- It can't be that a pattern has no faces and yet nothing is refused.
use Rattle.std.proofs.Common.{◌≡◌, ◌⊎◌, inl, inr, ℕ, zero, suc, ◌<◌, ◌≤◌, List, length, Option, Some, None, IsTrue, arith, refl, sym, subst}
use Rattle.ff_basics.proofs.Numbers.{below_or_last}
use Rattle.ff_whole.specs.declared.points.Pt.{Pt}
use Rattle.ff_types.specs.declared.limits.TheConstants.{MOST_FACES}
use Rattle.ff_types.specs.declared.patterns.EdgeEnds.{EdgeEnds}
use Rattle.ff_types.specs.declared.patterns.Mark.{Mark}
use Rattle.ff_types.specs.declared.patterns.Mark.TheVariants.{B}
use Rattle.ff_types.specs.declared.faces.EdgeSides.{EdgeSides}
use Rattle.ff_types.specs.declared.faces.Faces.{Faces}
use Rattle.ff_types.specs.declared.refusals.Refusal.{Refusal}
use Rattle.ff_types.specs.declared.refusals.Refusal.TheVariants.{TooMany}
use Rattle.ff_types.specs.declared.refusals.What.TheVariants as what
use Rattle.ff_types.specs.Patterns.{IsPattern, edge_at}
use Rattle.ff_types.specs.Drawings.{HasTwoEdges, IsDrawing, joined}
use Rattle.ff_types.specs.Faces.{mark_at, AreChained}
use Rattle.ff_types.specs.Sides.{sides_at, filled, IsMarkOf}
use Rattle.ff_types.specs.FaceRefusals.{SamePointAt, RimAt, PinchAt, ReflexAt, EnclosedAt, Never, NoCrossing, IsDrawn, IsClear, RefusesFaces}
use Rattle.ff_drawn.specs.declared.darts.Dart.{Dart}
use Rattle.ff_planar.specs.declared.traces.Side.{Side}
use Rattle.ff_planar.specs.declared.traces.Side.TheVariants.{Unmet, Outside, Face}
use Rattle.ff_drawn.specs.Graphs.{IsGraph}
use Rattle.ff_drawn.specs.Drawn.{IsDrawnBy}
use Rattle.ff_drawn.specs.Darts.{AreDarts}
use Rattle.ff_planar.specs.Traces.{side_at, IsSideOf, AreTraced}
use Rattle.ff_planar.specs.Seen.{IsSeenOf, AreSeen, AreAllSeen}
use Rattle.ff_planar.specs.Given.{AreGiven, IsFound, AreFilled}
use Rattle.ff_planar.proofs.Neighbours.{joined_back}
use Rattle.ff_planar.proofs.FoundDarts.{along_edge}
use Rattle.ff_drawn.proofs.WholeDrawings.{drawing_from}
use Rattle.ff_planar.proofs.FacesFrom.{rings_from}
use Rattle.ff_planar.proofs.GivenFaces.{faces_from}
use Rattle.ff_planar.proofs.Stages.{Reason, IsPast, past_none, past_more, IsFirstReason, refusal, graph_of}
use Rattle.ff_drawn.proofs.DartLists.{some_darts}
use Rattle.ff_planar.proofs.SomeTraces.{choose, some_trace}

-- what doesn't fail below n doesn't fail for all below n
none_fails : (P : ℕ → Type 0) (n : ℕ) → ((k : ℕ) → k < n → (P k → ⊥) → ⊥) → (((k : ℕ) → k < n → P k) → ⊥) → ⊥
none_fails P zero h no_all = no_all (λ k l. absurd (omega (arith, l)))
none_fails P (suc n) h no_all = h n (omega arith) (λ p. none_fails P n (λ k l. h k (omega (arith, l)))
    (λ all. no_all (λ k l. elim (below_or_last n k l) [ inl m ↦ all k m | inr e ↦ subst P (sym e) p ])))

-- ---- where nothing is refused there is no reason

module _ (points : List Pt) (edges : List EdgeEnds) (marks : Option (List Mark)) where
  abbrev At : ℕ → ℕ → ℕ → Type 0
  At = Reason points edges marks

  abbrev Past : ℕ → Type 0
  Past = IsPast points edges marks

  abbrev First : ℕ → ℕ → ℕ → Type 0
  First = IsFirstReason points edges marks

  no_reason : (n : ℕ) → Past n → ((a b : ℕ) → First n a b → ⊥) → (a b : ℕ) → At n a b → ⊥
  no_reason n past h a b = below (suc a) a b (omega arith) where
    at : (a : ℕ) → ((c d : ℕ) → c < a → At n c d → ⊥) → (b d : ℕ) → d < b → At n a d → ⊥
    at a less zero d l = absurd (omega (arith, l))
    at a less (suc b) d l = elim (below_or_last b d l) [
      | inl m ↦ at a less b d m
      | inr e ↦ λ x. h a d (record { there = x; past = past; least = less; least_second = λ c m. at a less b c (omega (arith, m, e)) })
    ]

    below : (a c d : ℕ) → c < a → At n c d → ⊥
    below zero c d l = absurd (omega (arith, l))
    below (suc a) c d l = elim (below_or_last a c l) [ inl m ↦ below a c d m | inr e ↦ subst (λ c. At n c d → ⊥) (sym e) (at a (below a) (suc d) d (omega arith)) ]

  none_same : Past 1 → Never (SamePointAt points)
  none_same p v h = p.none 0 v 0 (omega arith) (h, refl)

  none_cross : Past 2 → NoCrossing points edges
  none_cross p e k h = p.none 1 e k (omega arith) h

  drawn : Past 3 → IsDrawn points edges
  drawn p = record { none_same = λ v h. p.none 0 v 0 (omega arith) (h, refl); none_cross = λ e k h. p.none 1 e k (omega arith) h; none_loose = λ v h. p.none 2 v 0 (omega arith) (h, refl) }

  up_to : (n m : ℕ) → n ≤ m → Past m → Past n
  up_to n m l p = record { none = λ k a b i. p.none k a b (omega (arith, l, i)) }

  none_rim : Past 4 → Never (RimAt points edges marks)
  none_rim p e h = p.none 3 e 0 (omega arith) (h, refl)

  none_pinch : Past 5 → Never (PinchAt points edges)
  none_pinch p v h = p.none 4 v 0 (omega arith) (h, refl)

  none_reflex : Past 6 → Never (ReflexAt points edges)
  none_reflex p v h = p.none 5 v 0 (omega arith) (h, refl)

  none_enclosed : Past 7 → Never (EnclosedAt points edges)
  none_enclosed p v h = p.none 6 v 0 (omega arith) (h, refl)

  clear : Past 8 → IsClear points edges marks
  clear p = record {
    drawn = drawn (up_to 3 8 (omega arith) p);
    none_rim = none_rim (up_to 4 8 (omega arith) p);
    none_pinch = none_pinch (up_to 5 8 (omega arith) p);
    none_reflex = none_reflex (up_to 6 8 (omega arith) p);
    none_enclosed = none_enclosed (up_to 7 8 (omega arith) p);
    none_apart = λ f h. p.none 7 f 0 (omega arith) (h, refl);
  }

  module _ (none : (r : Refusal) → RefusesFaces points edges marks r → ⊥) where
    past_of : (n : ℕ) → Past n → ((a b : ℕ) → First n a b → RefusesFaces points edges marks (refusal n a b)) → Past (suc n)
    past_of n p refuses = past_more points edges marks n p (no_reason n p (λ a b f. none (refusal n a b) (refuses a b f)))

    past_all : Past 9
    past_all = past8 where
      past0 : Past 1
      past0 = past_of 0 (past_none points edges marks) (λ v k f. let t = f.there in (t.0, λ w l h. f.least w 0 l (h, refl)))

      past1 : Past 2
      past1 = past_of 1 past0 (λ e k f. (none_same past0, record { crosses = f.there; least_first = f.least; least_second = f.least_second }))

      past2 : Past 3
      past2 = past_of 2 past1 (λ v k f. let t = f.there in (none_same (up_to 1 2 (omega arith) past1), none_cross past1, (t.0, λ w l h. f.least w 0 l (h, refl))))

      past3 : Past 4
      past3 = past_of 3 past2 (λ v k f. let t = f.there in (drawn past2, (t.0, λ w l h. f.least w 0 l (h, refl))))

      past4 : Past 5
      past4 = past_of 4 past3 (λ v k f. let t = f.there in (drawn past2, none_rim past3, (t.0, λ w l h. f.least w 0 l (h, refl))))

      past5 : Past 6
      past5 = past_of 5 past4 (λ v k f. let t = f.there in (drawn past2, none_rim past3, none_pinch past4, (t.0, λ w l h. f.least w 0 l (h, refl))))

      past6 : Past 7
      past6 = past_of 6 past5 (λ v k f. let t = f.there in (drawn past2, none_rim past3, none_pinch past4, none_reflex past5, (t.0, λ w l h. f.least w 0 l (h, refl))))

      past7 : Past 8
      past7 = past_of 7 past6 (λ v k f. let t = f.there in (drawn past2, none_rim past3, none_pinch past4, none_reflex past5, none_enclosed past6, (t.0, λ w l h. f.least w 0 l (h, refl))))

      past8 : Past 9
      past8 = past_of 8 past7 (λ l k f. let t = f.there in (clear past7, t.0))

-- ---- a drawing's sides and marks

mark_of : (marks : Option (List Mark)) (e : ℕ) (sides : EdgeSides) → (m : Mark) × IsMarkOf marks e sides m
mark_of (Some ms) e sides = (mark_at ms e, refl)
mark_of None e sides = (filled sides.left sides.right, refl)

some_marks : (marks : Option (List Mark)) (seen : List EdgeSides) → (filled_in : List Mark) × AreFilled marks seen filled_in
some_marks marks seen = let c = choose B (λ e m. IsMarkOf marks e (sides_at seen e) m) (length seen) (λ e l. mark_of marks e (sides_at seen e)) in (c.0, record { as_many = c.1.as_many; each = c.1.each })

module _ (points : List Pt) (edges : List EdgeEnds) (darts : List Dart) (dr : IsDrawnBy points edges darts) (rings : List (List ℕ)) (sides : List Side) (t : AreTraced points edges darts rings sides) where
  seen_from : (u v : ℕ) (s : Side) → IsSideOf points edges rings u v s → (o : Option ℕ) × IsSeenOf points edges rings u v o
  seen_from u v Unmet h = absurd h
  seen_from u v Outside h = (None, h)
  seen_from u v (Face f) h = (Some f, h)

  seen_along : (u v : ℕ) → IsTrue (joined edges u v) → (o : Option ℕ) × IsSeenOf points edges rings u v o
  seen_along u v j = let r = dr.darts_are.all u v j in seen_from u v (side_at sides r.0) (subst (λ (x : Dart). IsSideOf points edges rings x.tail x.head (side_at sides r.0)) r.2 (t.sides_are r.0 r.1))

  seen_of : (e : ℕ) → e < length edges → (s : EdgeSides) × AreSeen points edges rings (edge_at edges e) s
  seen_of e l =
      let j = along_edge edges e l in
      let a = seen_along _ _ j in
      let b = seen_along _ _ (joined_back edges _ _ j) in
      (record { left = a.0; right = b.0 }, record { left = a.1; right = b.1 })

  some_seen : (seen : List EdgeSides) × AreAllSeen points edges rings seen
  some_seen = let c = choose (record { left = None; right = None }) (λ e s. AreSeen points edges rings (edge_at edges e) s) (length edges) seen_of in (c.0, record { as_many = c.1.as_many; each = c.1.each })

-- ---- faces or a refusal

module _ (points : List Pt) (edges : List EdgeEnds) (marks : Option (List Mark)) (pattern : IsPattern points edges marks)
    (no_faces : (faces : Faces) → AreGiven points edges marks faces → ⊥) (no_refusal : (r : Refusal) → RefusesFaces points edges marks r → ⊥) where
  graph : IsGraph points edges
  graph = graph_of points edges marks pattern

  is_clear : IsClear points edges marks
  is_clear = clear points edges marks (up_to points edges marks 8 9 (omega arith) (past_all points edges marks no_refusal))

  few_or : (n : ℕ) → (n ≤ 2048) ⊎ (MOST_FACES < n)
  few_or n = grind arith

  -- no list of rings is that of the faces
  no_rings : (rings : List (List ℕ)) (seen : List EdgeSides) → IsFound points edges marks rings seen → ⊥
  no_rings rings seen f = elim (few_or (length rings)) [
    | inr l ↦ no_refusal (TooMany what.Faces MOST_FACES) (is_clear, (refl, (rings, f.found.rings_are, l)))
    | inl l ↦ let m = some_marks marks seen in
        no_faces (record { rings = rings; sides = seen; marks = m.0 }) (record { drawing = f.drawing; faces_are = faces_from points edges marks rings seen f m.0 m.1; few = l })
  ]

  not_drawing : IsDrawing points edges → ⊥
  not_drawing d = by (some_darts edges) where
    from_trace : (darts : List Dart) → IsDrawnBy points edges darts → (rings : List (List ℕ)) × (sides : List Side) × AreTraced points edges darts rings sides → ⊥
    from_trace darts dr (rings, sides, t) =
        let s = some_seen points edges darts dr rings sides t in
        none_fails (AreChained rings 0) (length rings) (λ f l n. is_clear.none_apart f (rings, t.rings_are, l, n))
        (λ chained. no_rings rings s.0 (record {
          drawing = d;
          found = record { clear = is_clear; rings_are = rings_from points edges darts dr rings sides t is_clear.none_pinch is_clear.none_reflex is_clear.none_enclosed s.0 s.1 marks is_clear.none_rim chained };
          seen_are = s.1;
        }))

    by : (darts : List Dart) × AreDarts edges darts → ⊥
    by (darts, a) = let dr : IsDrawnBy points edges darts = record { drawing = d; darts_are = a } in from_trace darts dr (some_trace points edges darts graph dr)

  -- one of the two comes
  pub not_neither : ⊥
  not_neither = none_fails (HasTwoEdges edges) (length points) (λ v l n. is_clear.drawn.none_loose v (l, n))
      (λ two. not_drawing (drawing_from points edges graph is_clear.drawn.none_same is_clear.drawn.none_cross two))

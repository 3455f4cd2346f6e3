-- A drawing has at most one list of faces, and where it has one, no rim edge and no face apart.
use Rattle.std.proofs.Common.{◌≡◌, ◌⊎◌, inl, inr, ℕ, ◌<◌, IsTrue, List, length, arith, sym, ap, ◌∙◌, subst, Option, Some, None}
use Rattle.ff_whole.specs.declared.points.Pt.{Pt}
use Rattle.ff_types.specs.declared.patterns.EdgeEnds.{EdgeEnds}
use Rattle.ff_types.specs.declared.patterns.Mark.{Mark}
use Rattle.ff_types.specs.declared.patterns.Mark.TheVariants.{B, M, V, F, U}
use Rattle.ff_types.specs.Patterns.{edge_at}
use Rattle.ff_types.specs.Drawings.{IsDrawing, joined}
use Rattle.ff_types.specs.Rings.{corner, after, Goes, IsRing}
use Rattle.ff_types.specs.Faces.{ring_at, mark_at, Belongs, FitsMark, FitMarks, AreRings}
use Rattle.ff_types.specs.Walks.{IsWalk, IsOuterSide, AreRingWalks}
use Rattle.ff_types.specs.FaceRefusals.{BothOut, NoneOut, OneOut, MarkOut, RimAt, ApartAt}
use Rattle.ff_drawn.specs.declared.darts.Dart.{Dart}
use Rattle.ff_planar.specs.declared.traces.Side.{Side}
use Rattle.ff_planar.specs.declared.traces.Side.TheVariants.{Unmet, Outside, Face}
use Rattle.ff_drawn.specs.Drawn.{IsDrawnBy}
use Rattle.ff_planar.specs.Traces.{side_at, IsSideOf, AreTraced}
use Rattle.ff_planar.proofs.Neighbours.{joined_back}
use Rattle.ff_planar.proofs.SameWalks.{one_walk, walks_alike, walk_once}
use Rattle.ff_planar.proofs.SameRings.{one_list}
use Rattle.ff_planar.proofs.SortedRings.{AreAmong, one_sorted}
use Rattle.ff_planar.proofs.RingTests.{goes_at}
use Rattle.ff_planar.proofs.FoundDarts.{along_edge}
use Rattle.ff_planar.proofs.FacesWalks.{ring_walks, not_outside}

module _ (points : List Pt) (edges : List EdgeEnds) (d : IsDrawing points edges) where
  -- a walk with a directed edge of a ring comes to no vertex twice
  differ_carried : (X W : List ℕ) → IsRing points edges X → IsWalk points edges X → IsWalk points edges W → (u v : ℕ) → Goes X u v → Goes W u v
      → (i j : ℕ) → i < length W → j < length W → corner W i ≡ corner W j → i ≡ j
  differ_carried X W r x w u v a b i j l m e =
      let p = one_walk points edges d W X w x u v b a (corner W i) (after W i) (goes_at W i l) in
      let q = one_walk points edges d W X w x u v b a (corner W j) (after W j) (goes_at W j m) in
      let same = r.differ p.place q.place p.inside q.inside (p.from ∙ e ∙ sym q.from) in
      w.once i j l m e (sym p.to ∙ ap (after X) same ∙ q.to)

  -- walks that are faces' rings, all of them and in order, are the one list of rings
  module _ (rings : List (List ℕ)) (r : AreRingWalks points edges rings) (each : (f : ℕ) → f < length rings → IsRing points edges (ring_at rings f)) (others : List (List ℕ)) (o : AreRingWalks points edges others) where
    same_ring : (f g u v : ℕ) → f < length rings → g < length others → Goes (ring_at rings f) u v → Goes (ring_at others g) u v → ring_at rings f ≡ ring_at others g
    same_ring f g u v l m x y =
        let X = ring_at rings f in
        let W = ring_at others g in
        let xw = (r.each f l).walk_is in
        let w = (o.each g m).walk_is in
        one_list X W (walks_alike points edges d X W xw w) (walks_alike points edges d W X w xw) (walk_once points edges d X xw) (walk_once points edges d W w)
        (record { least = λ i n. r.least f i l n; differ = (each f l).differ })
        (record { least = λ i n. o.least g i m n; differ = differ_carried X W (each f l) xw w u v x y }) u v x y

    among : AreAmong rings others
    among = record {
      among = λ f l.
          let w = r.each f l in
          let x = goes_at (ring_at rings f) 0 w.walk_is.some in
          let g = o.all (ring_at rings f) (corner (ring_at rings f) 0) (after (ring_at rings f) 0) w x in
          (g.0, g.1, same_ring f g.0 _ _ l g.1 x g.2);
    }

    among_back : AreAmong others rings
    among_back = record {
      among = λ g m.
          let w = o.each g m in
          let y = goes_at (ring_at others g) 0 w.walk_is.some in
          let f = r.all (ring_at others g) (corner (ring_at others g) 0) (after (ring_at others g) 0) w y in
          (f.0, f.1, sym (same_ring f.0 g _ _ f.1 m f.2 y));
    }

    pub one_rings : rings ≡ others
    one_rings = one_sorted rings others (record { sorted = r.sorted }) (record { sorted = o.sorted }) among among_back

  -- the faces are the one list of rings
  pub one_walks : (marks : Option (List Mark)) (rings : List (List ℕ)) → AreRings points edges marks rings → (others : List (List ℕ)) → AreRingWalks points edges others → rings ≡ others
  one_walks marks rings a others o = one_rings rings (ring_walks points edges d marks rings a) a.each others o

  -- a drawing has at most one list of faces
  pub faces_once : (marks : Option (List Mark)) (rings others : List (List ℕ)) → AreRings points edges marks rings → AreRings points edges marks others → rings ≡ others
  faces_once marks rings others a b = one_walks marks rings a others (ring_walks points edges d marks others b)

  pub no_apart : (marks : Option (List Mark)) (rings : List (List ℕ)) → AreRings points edges marks rings → (f : ℕ) → ApartAt points edges f → ⊥
  no_apart marks rings a f h =
      let e = one_walks marks rings a h.0 h.1 in
      let b = subst (AreRings points edges marks) e a in
      h.3 (b.chained 0 f (let l = h.2 in omega arith) h.2)

-- ---- no rim edge

module _ (points : List Pt) (edges : List EdgeEnds) (darts : List Dart) (dr : IsDrawnBy points edges darts) (marks : Option (List Mark)) (rings : List (List ℕ)) (sides : List Side)
    (t : AreTraced points edges darts rings sides) (a : AreRings points edges marks rings) where
  in_ring : (u v : ℕ) → Belongs rings u v → IsOuterSide points edges u v → ⊥
  in_ring = not_outside points edges dr.drawing marks rings a

  outside : (u v : ℕ) → IsTrue (joined edges u v) → (Belongs rings u v → ⊥) → IsOuterSide points edges u v
  outside u v j n =
      let r = dr.darts_are.all u v j in
      by (side_at sides r.0) (subst (λ (x : Dart). IsSideOf points edges rings x.tail x.head (side_at sides r.0)) r.2 (t.sides_are r.0 r.1))
    where
      by : (s : Side) → IsSideOf points edges rings u v s → IsOuterSide points edges u v
      by Unmet h = absurd h
      by Outside h = h
      by (Face f) h = absurd (n (f, h.0, h.1))

  both_in : (e : EdgeEnds) → Belongs rings e.a e.b × Belongs rings e.b e.a → BothOut points edges e ⊎ OneOut points edges e → ⊥
  both_in e b (inl o) = in_ring e.a e.b b.0 o.0
  both_in e b (inr (inl o)) = in_ring e.a e.b b.0 o.0
  both_in e b (inr (inr o)) = in_ring e.b e.a b.1 o.1

  one_in : (e : EdgeEnds) → IsTrue (joined edges e.a e.b) → FitsMark rings e B → BothOut points edges e ⊎ NoneOut points edges e → ⊥
  one_in e j (inl f) (inl o) = in_ring e.a e.b f.0 o.0
  one_in e j (inr f) (inl o) = in_ring e.b e.a f.1 o.1
  one_in e j (inl f) (inr o) = o.1 (outside e.b e.a (joined_back edges e.a e.b j) f.1)
  one_in e j (inr f) (inr o) = o.0 (outside e.a e.b j f.0)

  fitting : (e : EdgeEnds) (m : Mark) → IsTrue (joined edges e.a e.b) → FitsMark rings e m → BothOut points edges e ⊎ MarkOut points edges e m → ⊥
  fitting e B j f o = one_in e j f o
  fitting e M j f o = both_in e f o
  fitting e V j f o = both_in e f o
  fitting e F j f o = both_in e f o
  fitting e U j f o = both_in e f o

  no_rim_of : (m : Option (List Mark)) → FitMarks edges rings m → (e : ℕ) → RimAt points edges m e → ⊥
  no_rim_of (Some ms) f e (l, o) = fitting (edge_at edges e) (mark_at ms e) (along_edge edges e l) (f e l) o
  no_rim_of None f e (l, inr o) = absurd o
  no_rim_of None f e (l, inl o) = elim (f e l) [ inl b ↦ in_ring _ _ b o.0 | inr b ↦ in_ring _ _ b o.1 ]

  pub no_rim : (e : ℕ) → RimAt points edges marks e → ⊥
  no_rim = no_rim_of marks a.fit

-- Outer walks leave a vertex more than once where two darts that leave it have the outside on their left.
use Rattle.std.proofs.Common.{◌≡◌, ◌≢◌, ◌⊎◌, inl, inr, ℕ, ◌+◌, ◌<◌, ◌≤◌, IsTrue, List, length, arith, refl, sym, ap, ◌∙◌, subst, Option, Some, None}
use Rattle.std.proofs.lemmas.Option.{same_Some}
use Rattle.ff_basics.proofs.Numbers.{last_or}
use Rattle.ff_whole.proofs.Signs.{linear}
use Rattle.ff_whole.specs.declared.points.Pt.{Pt}
use Rattle.ff_types.specs.declared.patterns.EdgeEnds.{EdgeEnds}
use Rattle.ff_types.specs.Drawings.{IsDrawing, joined}
use Rattle.ff_types.specs.Rings.{corner, Goes}
use Rattle.ff_types.specs.Faces.{ring_at}
use Rattle.ff_types.specs.Walks.{IsOuterSide, AreRingWalks}
use Rattle.ff_types.specs.FaceRefusals.{PinchAt}
use Rattle.ff_drawn.specs.declared.darts.Dart.{Dart}
use Rattle.ff_planar.specs.declared.traces.Side.{Side}
use Rattle.ff_planar.specs.declared.traces.Side.TheVariants.{Unmet, Outside, Face}
use Rattle.ff_drawn.specs.Drawn.{IsDrawnBy}
use Rattle.ff_drawn.specs.Darts.{dart_at, ComesBefore, AreInOrder}
use Rattle.ff_planar.specs.Traces.{side_at, IsSideOf, AreTraced}
use Rattle.ff_planar.specs.Outlines.{IsOut, TwoOut}
use Rattle.ff_planar.proofs.NextDarts.{ends_there}
use Rattle.ff_drawn.proofs.Starts.{not_before_itself}
use Rattle.ff_drawn.proofs.TwoDarts.{tails_rise}
use Rattle.ff_planar.proofs.SameWalks.{one_area}

-- a ring has no outer side
pub not_outer : (points : List Pt) (edges : List EdgeEnds) → IsDrawing points edges → (rings : List (List ℕ)) → AreRingWalks points edges rings → (f u v : ℕ) → f < length rings → Goes (ring_at rings f) u v → IsOuterSide points edges u v → ⊥
not_outer points edges d rings r f u v l g o =
    let w = r.each f l in
    let e = one_area points edges d (ring_at rings f) o.walk w.walk_is o.walk_is u v g o.side in
    let a = w.round in
    let b = o.outer in
    omega (arith, linear)

pub outer_along : (points : List Pt) (edges : List EdgeEnds) (u v : ℕ) → IsOuterSide points edges u v → IsTrue (joined edges u v)
outer_along points edges u v o = let a = (o.walk_is.goes o.side.place o.side.inside).along in
    subst (λ x. IsTrue (joined edges x v)) o.side.from (subst (λ x. IsTrue (joined edges (corner o.walk o.side.place) x)) o.side.to a)

module _ (points : List Pt) (edges : List EdgeEnds) (darts : List Dart) (dr : IsDrawnBy points edges darts) (rings : List (List ℕ)) (sides : List Side) (t : AreTraced points edges darts rings sides) where
  side_is : (u v : ℕ) → IsOuterSide points edges u v → (s : Side) → IsSideOf points edges rings u v s → s ≡ Outside
  side_is u v o Unmet h = absurd h
  side_is u v o Outside h = refl
  side_is u v o (Face f) h = absurd (not_outer points edges dr.drawing rings t.rings_are f u v h.0 h.1 o)

  -- the dart of an outer side
  out_of : (u v : ℕ) → IsOuterSide points edges u v → (d : ℕ) × IsOut darts sides u d × ((dart_at darts d).head ≡ v)
  out_of u v o =
      let r = dr.darts_are.all u v (outer_along points edges u v o) in
      let s = subst (λ (x : Dart). IsSideOf points edges rings x.tail x.head (side_at sides r.0)) r.2 (t.sides_are r.0 r.1) in
      (r.0, record { within = r.1; side = side_is u v o (side_at sides r.0) s; tail = ap (λ (x : Dart). x.tail) r.2 }, ap (λ (x : Dart). x.head) r.2)

  outer_of : (v d : ℕ) → IsOut darts sides v d → IsOuterSide points edges v (dart_at darts d).head
  outer_of v d o = subst (λ x. IsOuterSide points edges x (dart_at darts d).head) o.tail (subst (IsSideOf points edges rings (dart_at darts d).tail (dart_at darts d).head) o.side (t.sides_are d o.within))

  pub pinch_from : (v : ℕ) → TwoOut darts sides v → PinchAt points edges v
  pinch_from v h =
      let a = h.3 in
      let b = h.4 in
      (subst (λ x. x < length points) a.tail (ends_there points edges darts dr h.0 a.within).0, ((dart_at darts h.0).head, (dart_at darts h.1).head, differ, outer_of v h.0 a, outer_of v h.1 b))
    where
      differ : (dart_at darts h.0).head ≢ (dart_at darts h.1).head
      differ e = not_before_itself (dart_at darts h.1) (subst (λ (x : Dart). ComesBefore x (dart_at darts h.1)) (λ i. record { tail = (h.3.tail ∙ sym h.4.tail) i; head = e i }) (dr.darts_are.sorted.rises h.0 h.1 h.2 h.4.within))

  pub from_pinch : (v : ℕ) → PinchAt points edges v → TwoOut darts sides v
  from_pinch v h =
      let p = h.1 in
      let a = out_of v p.0 p.3 in
      let b = out_of v p.1 p.4 in
      order a.0 b.0 a.1 b.1 (which a.0 b.0 (λ e. p.2 (sym a.2 ∙ ap (λ d. (dart_at darts d).head) e ∙ b.2)))
    where
      which : (d c : ℕ) → (d ≡ c → ⊥) → (d < c) ⊎ (c < d)
      which d c n = grind (arith, n)

      order : (d c : ℕ) → IsOut darts sides v d → IsOut darts sides v c → (d < c) ⊎ (c < d) → TwoOut darts sides v
      order d c a b (inl l) = (d, c, l, a, b)
      order d c a b (inr l) = (c, d, l, b, a)

-- ---- the darts in turn: the vertex that the last one with the outside on its left leaves

pub record IsLastOut (darts : List Dart) (sides : List Side) (d : ℕ) (last : Option ℕ) : Type 0 where
  pub none : last ≡ None → (k : ℕ) → k < d → side_at sides k ≡ Outside → ⊥
  pub some : (v : ℕ) → last ≡ Some v → (k : ℕ) × (k < d) × IsOut darts sides v k
  pub low : (v : ℕ) → last ≡ Some v → (k : ℕ) → k < d → side_at sides k ≡ Outside → (dart_at darts k).tail ≤ v
  pub single : (i j v : ℕ) → i < j → j < d → IsOut darts sides v i → IsOut darts sides v j → ⊥

none_not : (v : ℕ) → Some v ≡ None → ⊥
none_not v e = cc

pub out_skip : (darts : List Dart) (sides : List Side) (d : ℕ) (last : Option ℕ) → IsLastOut darts sides d last → (side_at sides d ≡ Outside → ⊥) → IsLastOut darts sides (d + 1) last
out_skip darts sides d last h n = record {
  none = λ e k l s. elim (last_or k d l) [ inl m ↦ h.none e k m s | inr f ↦ n (subst (λ j. side_at sides j ≡ Outside) f s) ];
  some = λ v e. let r = h.some v e in (r.0, (let l = r.1 in omega arith), r.2);
  low = λ v e k l s. elim (last_or k d l) [ inl m ↦ h.low v e k m s | inr f ↦ absurd (n (subst (λ j. side_at sides j ≡ Outside) f s)) ];
  single = λ i j v l m a b. elim (last_or j d m) [ inl o ↦ h.single i j v l o a b | inr f ↦ n (subst (λ k. side_at sides k ≡ Outside) f b.side) ];
}

module _ (darts : List Dart) (rises : AreInOrder darts) (sides : List Side) (d : ℕ) (last : Option ℕ) (l : d < length darts) (h : IsLastOut darts sides d last) (out : side_at sides d ≡ Outside) where
  up : (k : ℕ) → k < d → (dart_at darts k).tail ≤ (dart_at darts d).tail
  up k m = tails_rise _ _ (rises.rises k d m l)

  pub out_more : (last ≡ Some (dart_at darts d).tail → ⊥) → IsLastOut darts sides (d + 1) (Some (dart_at darts d).tail)
  out_more n = record {
    none = λ e. absurd (none_not _ e);
    some = λ v e. (d, omega arith, record { within = l; side = out; tail = same_Some _ _ e });
    low = λ v e k m s. let f = same_Some _ _ e in elim (last_or k d m) [ inl o ↦ let u = up k o in omega (arith, u, f) | inr o ↦ let g = ap (λ j. (dart_at darts j).tail) o in omega (arith, f, g) ];
    single = λ i j v m o a b. elim (last_or j d o) [
      | inl p ↦ h.single i j v m p a b
      | inr p ↦ again i v (omega (arith, m, p)) a (b.tail ∙ refl) (ap (λ k. (dart_at darts k).tail) p) last refl
    ];
  }
    where
      again : (i v : ℕ) → i < d → IsOut darts sides v i → {w : ℕ} → w ≡ v → w ≡ (dart_at darts d).tail → (o : Option ℕ) → last ≡ o → ⊥
      again i v m a e f None g = h.none g i m a.side
      again i v m a e f (Some w) g =
          let r = h.some w g in
          let low = h.low w g i m a.side in
          let high = up r.0 r.1 in
          let t = r.2.tail in
          let s = a.tail in
          let same : w ≡ (dart_at darts d).tail = omega (arith, low, high, t, s, e, f) in
          n (g ∙ ap Some same)

  pub out_twice : last ≡ Some (dart_at darts d).tail → TwoOut darts sides (dart_at darts d).tail
  out_twice e = let r = h.some (dart_at darts d).tail e in (r.0, d, r.1, r.2, record { within = l; side = out; tail = refl })

  pub out_first : (u : ℕ) → u < (dart_at darts d).tail → TwoOut darts sides u → ⊥
  out_first u m t = let a = t.4 in elim (below_or t.1 d) [
    | inl o ↦ h.single t.0 t.1 u t.2 o t.3 t.4
    | inr o ↦ elim (le_or d t.1 o) [
      | inl p ↦ let r = tails_rise _ _ (rises.rises d t.1 p a.within) in let s = a.tail in omega (arith, m, r, s)
      | inr p ↦ let s = a.tail in let g = ap (λ j. (dart_at darts j).tail) p in omega (arith, m, s, g)
    ]
  ]
    where
      below_or : (i n : ℕ) → (i < n) ⊎ (n ≤ i)
      below_or i n = grind arith

      le_or : (i j : ℕ) → i ≤ j → (i < j) ⊎ (i ≡ j)
      le_or i j h = grind arith

pub out_never : (darts : List Dart) (sides : List Side) (d : ℕ) (last : Option ℕ) → IsLastOut darts sides d last → length darts ≤ d → (u : ℕ) → TwoOut darts sides u → ⊥
out_never darts sides d last h l u t = let w = t.4.within in h.single t.0 t.1 u t.2 (omega arith) t.3 t.4

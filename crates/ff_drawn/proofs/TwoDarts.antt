-- A vertex has two edges where the second dart from its first on leaves it too.
use Rattle.std.proofs.Common.{◌≡◌, ◌⊎◌, inl, inr, ℕ, ◌+◌, ◌<◌, ◌≤◌, ◌==◌, ◌&&◌, ◌||◌, Bool, true, false, IsTrue, List, length, arith, refl, sym, ap, ◌∙◌, subst}
use Rattle.std.proofs.lemmas.Bool.{eqb-true}
use Rattle.ff_basics.proofs.Numbers.{same_number}
use Rattle.ff_basics.proofs.Tests.{either_of}
use Rattle.ff_whole.specs.declared.points.Pt.{Pt}
use Rattle.ff_types.specs.declared.patterns.EdgeEnds.{EdgeEnds}
use Rattle.ff_types.specs.Patterns.{edge_at, Joins}
use Rattle.ff_types.specs.Drawings.{has_end, joins, joined, HasTwoEdges}
use Rattle.ff_types.proofs.ComputedFaces.{joins_is}
use Rattle.ff_types.proofs.PlainSheets.{some_joins, joined_at}
use Rattle.ff_drawn.specs.Graphs.{IsGraph}
use Rattle.ff_drawn.specs.declared.darts.Dart.{Dart}
use Rattle.ff_drawn.specs.Darts.{dart_at, ComesBefore, AreDarts, IsStart}
use Rattle.ff_drawn.proofs.Starts.{not_before_itself}

-- ---- the ends of an edge

pub joins_so : (e : EdgeEnds) (u v : ℕ) → ((e.a ≡ u) × (e.b ≡ v)) ⊎ ((e.a ≡ v) × (e.b ≡ u)) → IsTrue (joins u v e)
joins_so e u v (inl h) = rw (h.0, h.1, same_number u, same_number v) refl
joins_so e u v (inr h) = rw (h.0, h.1, same_number v, same_number u) (last_true ((v == u) && (u == v))) where
  last_true : (b : Bool) → IsTrue (b || true)
  last_true true = refl
  last_true false = refl

pub joins_back : (e : EdgeEnds) (u v : ℕ) → IsTrue (joins u v e) → IsTrue (joins v u e)
joins_back e u v h = joins_so e v u (elim (joins_is e u v h) [ inl x ↦ inr x | inr x ↦ inl x ])

ends_so : (e : EdgeEnds) (u v : ℕ) → IsTrue (joins u v e) → IsTrue (has_end e u)
ends_so e u v h = elim (joins_is e u v h) [
  | inl x ↦ rw (x.0, same_number u) refl
  | inr x ↦ rw (x.1, same_number u) (last_true (e.a == u))
]
  where
    last_true : (b : Bool) → IsTrue (b || true)
    last_true true = refl
    last_true false = refl

other_end : (e : EdgeEnds) (v : ℕ) → IsTrue (has_end e v) → (w : ℕ) × IsTrue (joins v w e)
other_end e v h = elim (either_of _ _ h) [
  | inl x ↦ (e.b, joins_so e v e.b (inl (eqb-true _ _ x, refl)))
  | inr x ↦ (e.a, joins_so e v e.a (inr (refl, eqb-true _ _ x)))
]

-- one edge joins a vertex to one other
one_other : (n : ℕ) (e : EdgeEnds) (v w z : ℕ) → Joins n e → IsTrue (joins v w e) → IsTrue (joins v z e) → w ≡ z
one_other n e v w z j h k = elim (joins_is e v w h) [
  | inl x ↦ elim (joins_is e v z k) [ inl y ↦ sym x.1 ∙ y.1 | inr y ↦ absurd (j.differ (x.0 ∙ sym y.1)) ]
  | inr x ↦ elim (joins_is e v z k) [ inl y ↦ absurd (j.differ (y.0 ∙ sym x.1)) | inr y ↦ sym x.0 ∙ y.0 ]
]

-- two edges don't join the same two
pub one_edge : (points : List Pt) (edges : List EdgeEnds) → IsGraph points edges → (e k u v : ℕ) → e < length edges → k < length edges
    → IsTrue (joins u v (edge_at edges e)) → IsTrue (joins u v (edge_at edges k)) → e ≡ k
one_edge points edges g e k u v l m h i = elim (joins_is (edge_at edges e) u v h) [
  | inl x ↦ elim (joins_is (edge_at edges k) u v i) [
    | inl y ↦ g.once e k l m (x.0 ∙ sym y.0) (x.1 ∙ sym y.1)
    | inr y ↦ absurd (g.once_back e k l m (x.0 ∙ sym y.1) (x.1 ∙ sym y.0))
  ]
  | inr x ↦ elim (joins_is (edge_at edges k) u v i) [
    | inl y ↦ absurd (g.once_back e k l m (x.0 ∙ sym y.1) (x.1 ∙ sym y.0))
    | inr y ↦ g.once e k l m (x.0 ∙ sym y.0) (x.1 ∙ sym y.1)
  ]
]

pub apart_or : (e k : ℕ) → (e ≡ k → ⊥) → (e < k) ⊎ (k < e)
apart_or e k h = grind (arith, h)

two_of : (edges : List EdgeEnds) (v e k : ℕ) → e < length edges → k < length edges → IsTrue (has_end (edge_at edges e) v) → IsTrue (has_end (edge_at edges k) v) → (e < k) ⊎ (k < e) → HasTwoEdges edges v
two_of edges v e k l m h i (inl o) = (e, k, o, m, h, i)
two_of edges v e k l m h i (inr o) = (k, e, o, l, i, h)

-- ---- the darts of a vertex stand together

pub not_before_first : (v : ℕ) (d : Dart) → (ComesBefore d (record { tail = v; head = 0 }) → ⊥) → v ≤ d.tail
not_before_first v d h = elim (below_or d.tail v) [ inl l ↦ absurd (h (inl l)) | inr l ↦ l ] where
  below_or : (i n : ℕ) → (i < n) ⊎ (n ≤ i)
  below_or i n = grind arith

pub tails_rise : (p q : Dart) → ComesBefore p q → p.tail ≤ q.tail
tails_rise p q (inl l) = omega (arith, l)
tails_rise p q (inr h) = let e = h.0 in omega arith

pub leaves_not_before : (v w : ℕ) (d : Dart) → d ≡ record { tail = v; head = w } → ComesBefore d (record { tail = v; head = 0 }) → ⊥
leaves_not_before v w d e (inl l) = let f = ap (λ (x : Dart). x.tail) e in omega (arith, l)
leaves_not_before v w d e (inr h) = let l = h.1 in omega arith

module _ (points : List Pt) (edges : List EdgeEnds) (darts : List Dart) (g : IsGraph points edges) (a : AreDarts edges darts) (v s : ℕ) (i : IsStart darts (record { tail = v; head = 0 }) s) where
  -- two darts of the vertex, so two edges
  pub two_from_darts : s + 1 < length darts → (dart_at darts (s + 1)).tail ≡ v → HasTwoEdges edges v
  two_from_darts l e =
      let b = a.sorted.rises s (s + 1) (omega arith) l in
      let low = not_before_first v (dart_at darts s) (i.after s (omega arith) (omega (arith, l))) in
      let up = tails_rise _ _ b in
      let same : (dart_at darts s).tail ≡ v = omega (arith, low, up, e) in
      let x = some_joins edges _ _ (a.along s (omega (arith, l))) in
      let y = some_joins edges _ _ (a.along (s + 1) l) in
      let jx : IsTrue (joins v (dart_at darts s).head (edge_at edges x.0)) = subst (λ t. IsTrue (joins t (dart_at darts s).head (edge_at edges x.0))) same x.2 in
      let jy : IsTrue (joins v (dart_at darts (s + 1)).head (edge_at edges y.0)) = subst (λ t. IsTrue (joins t (dart_at darts (s + 1)).head (edge_at edges y.0))) e y.2 in
      two_of edges v x.0 y.0 x.1 y.1 (ends_so _ v _ jx) (ends_so _ v _ jy) (apart_or x.0 y.0 (λ z. not_before_itself (dart_at darts s)
      (subst (ComesBefore (dart_at darts s)) (sym (λ k. record { tail = (same ∙ sym e) k; head = one_other (length points) (edge_at edges y.0) v _ _ (g.joins y.0 y.1) (subst (λ t. IsTrue (joins v (dart_at darts s).head (edge_at edges t))) z jx) jy k })) b)))

  pub place_of : (w : ℕ) → IsTrue (joined edges v w) → (d : ℕ) × (s ≤ d) × (d < length darts) × (dart_at darts d ≡ record { tail = v; head = w })
  place_of w j = let r = a.all v w j in (r.0, at_least r.0 r.2, r.1, r.2) where
    below_or : (i n : ℕ) → (i < n) ⊎ (n ≤ i)
    below_or i n = grind arith

    at_least : (d : ℕ) → dart_at darts d ≡ record { tail = v; head = w } → s ≤ d
    at_least d e = elim (below_or d s) [ inl l ↦ absurd (leaves_not_before v w (dart_at darts d) e (i.before d l)) | inr l ↦ l ]

  -- what stands up to a dart of the vertex from its first on is its dart
  of_vertex : (c d w : ℕ) → s ≤ c → c ≤ d → d < length darts → dart_at darts d ≡ record { tail = v; head = w } → (dart_at darts c).tail ≡ v
  of_vertex c d w l m n e = let low = not_before_first v (dart_at darts c) (i.after c l (omega (arith, m, n))) in let f = ap (λ (x : Dart). x.tail) e in elim (le_or c d m) [
    | inl o ↦ let up = tails_rise _ _ (a.sorted.rises c d o n) in omega (arith, low, up, f)
    | inr o ↦ ap (λ k. (dart_at darts k).tail) o ∙ f
  ]
    where
      le_or : (i j : ℕ) → i ≤ j → (i < j) ⊎ (i ≡ j)
      le_or i j h = grind arith

  -- two edges, so two darts
  pub darts_from_two : HasTwoEdges edges v → (s + 1 < length darts) × ((dart_at darts (s + 1)).tail ≡ v)
  darts_from_two h =
      let less = h.2 in
      let l : h.0 < length edges = omega (arith, h.3) in
      let x = other_end (edge_at edges h.0) v h.4 in
      let y = other_end (edge_at edges h.1) v h.5 in
      let d = place_of x.0 (joined_at edges h.0 v x.0 l x.1) in
      let c = place_of y.0 (joined_at edges h.1 v y.0 h.3 y.1) in
      let d1 = d.1 in let d2 = d.2 in let c1 = c.1 in let c2 = c.2 in
      let same : x.0 ≡ y.0 → ⊥ = λ z. let o = one_edge points edges g h.0 h.1 v y.0 l h.3 (subst (λ t. IsTrue (joins v t (edge_at edges h.0))) z x.1) y.1 in omega (arith, less, o) in
      let differ : d.0 ≡ c.0 → ⊥ = λ z. same (ap (λ (t : Dart). t.head) (sym d.3 ∙ ap (dart_at darts) z ∙ c.3)) in
      elim (apart_or d.0 c.0 differ) [
        | inl o ↦ (omega (arith, o, d1, c2), of_vertex (s + 1) c.0 y.0 (omega arith) (omega (arith, o, d1)) c2 c.3)
        | inr o ↦ (omega (arith, o, c1, d2), of_vertex (s + 1) d.0 x.0 (omega arith) (omega (arith, o, c1)) d2 d.3)
      ]

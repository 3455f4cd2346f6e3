-- The directions from a vertex of a drawing to those that it is joined to: no two are one, and each way in has one way on.
use Rattle.std.proofs.Common.{◌≡◌, ◌≢◌, ◌⊎◌, inl, inr, ℕ, ◌<◌, ◌&&◌, ◌||◌, Bool, true, false, IsTrue, List, length, arith, refl, sym, ap, ◌∙◌, subst, ℤ, pos, ◌+ℤ◌, ◌*ℤ◌, ◌<ℤ◌}
use Rattle.std.specs.Prelude.{int_lt}
use borrow.Author.Differences.{true_is_lt}
use Rattle.std.proofs.lemmas.Int.{ints}
use Rattle.std.proofs.lemmas.Bool.{false≢true}
use Rattle.ff_basics.proofs.Tests.{both_of, either_of, lt_from, of_first, of_second, to_lt}
use Rattle.ff_whole.proofs.Signs.{linear, by_sign}
use Rattle.ff_whole.proofs.Images.{distance_positive}
use Rattle.ff_whole.proofs.ThreeTerms.{parallel-product}
use Rattle.ff_whole.proofs.CyclicOrder.{IsTurned, AreDifferent, turned_next, turned_once}
use Rattle.ff_whole.proofs.SegmentPoints.{IsWithin}
use Rattle.ff_whole.proofs.SharedPoints.{IsMixed, mixed_from_crossing, one_direction}
use Rattle.ff_whole.specs.declared.points.Pt.{Pt}
use Rattle.ff_whole.specs.Points.{mix, dot}
use Rattle.ff_whole.specs.Convex.{point_at}
use Rattle.ff_types.specs.declared.patterns.EdgeEnds.{EdgeEnds}
use Rattle.ff_types.specs.Patterns.{edge_at}
use Rattle.ff_types.specs.Drawings.{IsEnd, joins, joined, IsDrawing}
use Rattle.ff_types.specs.Walks.{in_turn, direction, GoesOn}
use Rattle.ff_types.proofs.ComputedFaces.{joins_is}
use Rattle.ff_types.proofs.PlainSheets.{some_joins, joined_at}
use Rattle.ff_drawn.proofs.EdgeCrossings.{end_not_within}
use Rattle.ff_drawn.proofs.TwoDarts.{joins_back}

-- ---- the test of three directions

two_so : (x y : ℤ) → IsTrue (int_lt (pos 0) x && int_lt (pos 0) y) → (pos 0 <ℤ x) × (pos 0 <ℤ y)
two_so x y h = let b = both_of _ _ h in (lt_from x b.0, lt_from y b.1)

so_two : (x y : ℤ) → (pos 0 <ℤ x) × (pos 0 <ℤ y) → IsTrue (int_lt (pos 0) x && int_lt (pos 0) y)
so_two x y h = rw (to_lt x h.0) (to_lt y h.1)

pub turned_from : (a b c : Pt) → IsTrue (in_turn a b c) → IsTurned a b c
turned_from a b c h = elim (either_of _ _ h) [
  | inl x ↦ inl (two_so _ _ x)
  | inr x ↦ elim (either_of _ _ x) [ inl y ↦ inr (inl (two_so _ _ y)) | inr y ↦ inr (inr (two_so _ _ y)) ]
]

pub from_turned : (a b c : Pt) → IsTurned a b c → IsTrue (in_turn a b c)
from_turned a b c (inl x) = of_first _ _ (so_two _ _ x)
from_turned a b c (inr (inl x)) = of_second _ _ (of_first _ _ (so_two _ _ x))
from_turned a b c (inr (inr x)) = of_second _ _ (of_second _ _ (so_two _ _ x))

-- ---- joined vertices

pub joined_back : (edges : List EdgeEnds) (u v : ℕ) → IsTrue (joined edges u v) → IsTrue (joined edges v u)
joined_back edges u v h = let r = some_joins edges u v h in joined_at edges r.0 v u r.1 (joins_back (edge_at edges r.0) u v r.2)

mix-swap : (s t : ℕ) (p q : Pt) → mix s p t q ≡ mix t q s p
mix-swap s t p q =
    let x : pos s *ℤ p.x +ℤ pos t *ℤ q.x ≡ pos t *ℤ q.x +ℤ pos s *ℤ p.x = omega (arith, linear) in
    let y : pos s *ℤ p.y +ℤ pos t *ℤ q.y ≡ pos t *ℤ q.y +ℤ pos s *ℤ p.y = omega (arith, linear) in
    λ i. record { x = x i; y = y i }

end_swap : (s t : ℕ) → IsEnd s t → IsEnd t s
end_swap s t (inl e) = inr e
end_swap s t (inr e) = inl e

module _ (points : List Pt) (edges : List EdgeEnds) (d : IsDrawing points edges) where
  -- both_of edges as they are written
  meet_at : (e k : ℕ) → e < length edges → k < length edges → e ≢ k → (u v w z : ℕ) → (s t x y : ℕ)
      → IsTrue (joins u v (edge_at edges e)) → IsTrue (joins w z (edge_at edges k))
      → IsMixed (point_at points u) (point_at points v) (point_at points w) (point_at points z) s t x y → IsEnd s t × IsEnd x y
  meet_at e k l m n u v w z s t x y h i c = elim (joins_is (edge_at edges e) u v h) [
    | inl f ↦ elim (joins_is (edge_at edges k) w z i) [
      | inl g ↦ d.meet e k l m n s t x y (record { some = c.some; sums = c.sums; same = ends s t (edge_at edges e) u v f ∙ c.same ∙ sym (ends x y (edge_at edges k) w z g) })
      | inr g ↦ let r = d.meet e k l m n s t y x (record { some = c.some; sums = (let o = c.sums in omega arith); same = ends s t (edge_at edges e) u v f ∙ c.same ∙ mix-swap x y _ _ ∙ sym (ends y x (edge_at edges k) z w g) }) in (r.0, end_swap y x r.1)
    ]
    | inr f ↦ elim (joins_is (edge_at edges k) w z i) [
      | inl g ↦ let r = d.meet e k l m n t s x y (record { some = (let o = c.some in omega arith); sums = (let o = c.sums in omega arith); same = ends t s (edge_at edges e) v u f ∙ mix-swap t s _ _ ∙ c.same ∙ sym (ends x y (edge_at edges k) w z g) }) in (end_swap t s r.0, r.1)
      | inr g ↦ let r = d.meet e k l m n t s y x (record { some = (let o = c.some in omega arith); sums = (let o = c.sums in omega arith); same = ends t s (edge_at edges e) v u f ∙ mix-swap t s _ _ ∙ c.same ∙ mix-swap x y _ _ ∙ sym (ends y x (edge_at edges k) z w g) }) in (end_swap t s r.0, end_swap y x r.1)
    ]
  ]
    where
      ends : (s t : ℕ) (e : EdgeEnds) (u v : ℕ) → (e.a ≡ u) × (e.b ≡ v) → mix s (point_at points e.a) t (point_at points e.b) ≡ mix s (point_at points u) t (point_at points v)
      ends s t e u v f = ap (λ a. mix s (point_at points a) t (point_at points e.b)) f.0 ∙ ap (λ b. mix s (point_at points u) t (point_at points b)) f.1

  -- edges that join different pairs meet at ends alone
  pub meet_joined : (u v w z : ℕ) (s t x y : ℕ) → IsTrue (joined edges u v) → IsTrue (joined edges w z)
      → (((w ≡ u) × (z ≡ v)) ⊎ ((w ≡ v) × (z ≡ u)) → ⊥)
      → IsMixed (point_at points u) (point_at points v) (point_at points w) (point_at points z) s t x y → IsEnd s t × IsEnd x y
  meet_joined u v w z s t x y h i n c =
      let e = some_joins edges u v h in
      let k = some_joins edges w z i in
      meet_at e.0 k.0 e.1 k.1 (λ o. n (same_pair (joins_is (edge_at edges e.0) u v e.2) (joins_is (edge_at edges e.0) w z (subst (λ j. IsTrue (joins w z (edge_at edges j))) (sym o) k.2)))) u v w z s t x y e.2 k.2 c
    where
      same_pair : {a b : ℕ} → ((a ≡ u) × (b ≡ v)) ⊎ ((a ≡ v) × (b ≡ u)) → ((a ≡ w) × (b ≡ z)) ⊎ ((a ≡ z) × (b ≡ w)) → ((w ≡ u) × (z ≡ v)) ⊎ ((w ≡ v) × (z ≡ u))
      same_pair (inl f) (inl g) = inl (sym g.0 ∙ f.0, sym g.1 ∙ f.1)
      same_pair (inl f) (inr g) = inr (sym g.1 ∙ f.1, sym g.0 ∙ f.0)
      same_pair (inr f) (inl g) = inr (sym g.0 ∙ f.0, sym g.1 ∙ f.1)
      same_pair (inr f) (inr g) = inl (sym g.1 ∙ f.1, sym g.0 ∙ f.0)

  pub there : (u v : ℕ) → IsTrue (joined edges u v) → (u < length points) × (v < length points) × (u ≢ v)
  there u v h = let e = some_joins edges u v h in let j = d.edges_join e.0 e.1 in elim (joins_is (edge_at edges e.0) u v e.2) [
    | inl f ↦ (subst (λ n. n < length points) f.0 j.first, subst (λ n. n < length points) f.1 j.second, λ s. j.differ (f.0 ∙ s ∙ sym f.1))
    | inr f ↦ (subst (λ n. n < length points) f.1 j.second, subst (λ n. n < length points) f.0 j.first, λ s. j.differ (f.0 ∙ sym s ∙ sym f.1))
  ]

  -- a direction to a neighbour isn't 0
  pub direction_long : (v u : ℕ) → IsTrue (joined edges v u) → pos 0 <ℤ dot (direction points v u) (direction points v u)
  direction_long v u h = let t = there v u h in distance_positive (point_at points v) (point_at points u) (λ e. t.2 (d.apart.differ v u t.0 t.1 e))

  not_on_way : (v u w : ℕ) → IsTrue (joined edges v u) → IsTrue (joined edges v w) → u ≢ w → IsWithin (point_at points v) (point_at points u) (point_at points w) → ⊥
  not_on_way v u w h i n within =
      let m = mixed_from_crossing (point_at points v) (point_at points u) (point_at points v) (point_at points w) (inr (inr (inl within))) in
      let r = meet_joined v u v w m.s m.t m.u m.v h i (λ o. elim o [ inl s ↦ n (sym s.1) | inr s ↦ (there v u h).2 s.0 ]) m.point in
      elim m.no_end [ inl o ↦ end_not_within m.s m.t r.0 o.0 o.1 | inr o ↦ end_not_within m.u m.v r.1 o.0 o.1 ]

  -- no two neighbours of a vertex are in one direction
  pub directions_differ : (v u w : ℕ) → IsTrue (joined edges v u) → IsTrue (joined edges v w) → u ≢ w → AreDifferent (direction points v u) (direction points v w)
  directions_differ v u w h i n par =
      let a = direction points v u in
      let b = direction points v w in
      by_sign (dot a b)
      (λ l. l)
      (λ z. absurd (parallel-product a b (direction_long v u h) (direction_long v w i) par z))
      (λ l. absurd (elim (one_direction (point_at points v) (point_at points u) (point_at points w) (λ e. n (let t = there v u h in let s = there v w i in d.apart.differ u w t.1 s.1 e)) par l) [
        | inl x ↦ not_on_way v u w h i n x
        | inr x ↦ not_on_way v w u i h (λ e. n (sym e)) x
      ]))

  -- ---- the way on

  same_or : (w z : ℕ) → (w ≡ z → ⊥) ⊎ (w ≡ z)
  same_or w z = elim (which w z) [ inl l ↦ inl (λ e. omega (arith, l, e)) | inr o ↦ elim o [ inl l ↦ inl (λ e. omega (arith, l, e)) | inr e ↦ inr e ] ] where
    which : (i j : ℕ) → (i < j) ⊎ ((j < i) ⊎ (i ≡ j))
    which i j = grind arith

  -- of three vertices, the middle one comes in turn
  in_turn_of : (u v z w : ℕ) → GoesOn points edges u v w → IsTrue (joined edges v z) → z ≢ u → z ≢ w → IsTurned (direction points v u) (direction points v z) (direction points v w)
  in_turn_of u v z w g j n m = turned_from (direction points v u) (direction points v z) (direction points v w) (g.next z j n m)

  -- there is one
  pub on_once : (u v w z : ℕ) → GoesOn points edges u v w → GoesOn points edges u v z → w ≡ z
  on_once u v w z g h = elim (same_or w z) [
    | inr e ↦ e
    | inl n ↦ absurd (turned_once (direction points v u) (direction points v z) (direction points v w)
        (in_turn_of u v z w g h.on h.not_back (λ e. n (sym e))) (in_turn_of u v w z h g.on g.not_back n))
  ]

  -- and one way in
  pub in_once : (u t v w : ℕ) → GoesOn points edges u v w → GoesOn points edges t v w → u ≡ t
  in_once u t v w g h = elim (same_or u t) [
    | inr e ↦ e
    | inl n ↦ absurd (turned_once (direction points v u) (direction points v t) (direction points v w)
        (in_turn_of u v t w g (joined_back edges t v h.along) (λ e. n (sym e)) (λ e. h.not_back (sym e)))
        (turned_next (direction points v t) (direction points v u) (direction points v w) (in_turn_of t v u w h (joined_back edges u v g.along) n (λ e. g.not_back (sym e)))))
  ]

-- When two edges of a pattern cross: by the signs of their ends, and what tells at once that they don't.
use Rattle.std.proofs.Common.{◌≡◌, ◌⊎◌, inl, inr, ℕ, zero, suc, ◌+◌, ◌<◌, arith, refl, sym, ap, List, length, ℤ, pos, ◌+ℤ◌, ◌*ℤ◌, ◌<ℤ◌, ◌≤ℤ◌}
use Rattle.std.proofs.lemmas.Int.{ints, by_lt_z}
use Rattle.ff_whole.proofs.Laws.{*ℤ-distrib_left, *ℤ-distrib_right}
use Rattle.ff_whole.proofs.Signs.{linear, le-mul_left}
use Rattle.ff_whole.proofs.ThreeTerms.{cross-none}
use Rattle.ff_whole.proofs.SegmentPoints.{AreCrossing}
use Rattle.ff_whole.proofs.SegmentSigns.{HaveSameEnds}
use Rattle.ff_whole.proofs.SharedPoints.{IsMixed, IsNoEnd, crossing_from_mixed, mixed_from_crossing}
use Rattle.ff_whole.specs.declared.points.Pt.{Pt}
use Rattle.ff_whole.specs.Points.{minus, cross, turn}
use Rattle.ff_whole.specs.Convex.{AreApart}
use Rattle.ff_types.proofs.ConvexEdges.{turn_mixed, turn-last}
use Rattle.ff_types.specs.declared.patterns.EdgeEnds.{EdgeEnds}
use Rattle.ff_types.specs.Patterns.{edge_at}
use Rattle.ff_types.specs.Drawings.{Common, IsEnd, first_point, last_point}
use Rattle.ff_drawn.specs.Graphs.{IsGraph}
use Rattle.ff_drawn.specs.Beside.{AreBelow, AreBoxedApart, IsBeside}
use Rattle.ff_drawn.specs.Drawn.{Cross}

-- the signs of the ends of two edges
abbrev pub HaveSigns : List Pt → EdgeEnds → EdgeEnds → Type 0
HaveSigns points e k = AreCrossing (first_point points e) (last_point points e) (first_point points k) (last_point points k)

-- ---- weights of an end

pub end_or_within : (s t : ℕ) → 0 < s + t → IsEnd s t ⊎ (0 < s) × (0 < t)
end_or_within zero t h = inl (inl refl)
end_or_within (suc s) zero h = inl (inr refl)
end_or_within (suc s) (suc t) h = inr (omega arith, omega arith)

not_both : (s t u v : ℕ) → 0 < s + t → s + t ≡ u + v → (IsEnd s t × IsEnd u v → ⊥) → IsNoEnd s t u v
not_both s t u v some sums h = elim (end_or_within s t some) [
  | inr w ↦ inl w
  | inl e ↦ elim (end_or_within u v (omega (arith, some, sums))) [ inr w ↦ inr w | inl f ↦ absurd (h (e, f)) ]
]

pub end_not_within : (s t : ℕ) → IsEnd s t → 0 < s → 0 < t → ⊥
end_not_within s t (inl e) f g = omega (arith, e, f)
end_not_within s t (inr e) f g = omega (arith, e, g)

no_ends : (s t u v : ℕ) → IsNoEnd s t u v → IsEnd s t × IsEnd u v → ⊥
no_ends s t u v (inl w) h = end_not_within s t h.0 w.0 w.1
no_ends s t u v (inr w) h = end_not_within u v h.1 w.0 w.1

-- ---- the signs

mixed_of : (points : List Pt) (e k : EdgeEnds) (s t u v : ℕ) → Common points e k s t u v
    → IsMixed (first_point points e) (last_point points e) (first_point points k) (last_point points k) s t u v
mixed_of points e k s t u v c = record { some = c.some; sums = c.sums; same = c.same }

-- edges whose signs say so cross
pub cross_from_signs : (points : List Pt) (e k : EdgeEnds) → HaveSigns points e k → Cross points e k
cross_from_signs points e k h =
    let m = mixed_from_crossing (first_point points e) (last_point points e) (first_point points k) (last_point points k) h in
    (m.s, m.t, m.u, m.v, record { some = m.point.some; sums = m.point.sums; same = m.point.same }, no_ends m.s m.t m.u m.v m.no_end)

module _ (points : List Pt) (edges : List EdgeEnds) (graph : IsGraph points edges) (apart : AreApart points) where
  ends_differ : (e : ℕ) → e < length edges → first_point points (edge_at edges e) ≡ last_point points (edge_at edges e) → ⊥
  ends_differ e l same = let j = graph.joins e l in j.differ (apart.differ (edge_at edges e).a (edge_at edges e).b j.first j.second same)

  same_ends : (e k : ℕ) → e < k → k < length edges
      → HaveSameEnds (first_point points (edge_at edges e)) (last_point points (edge_at edges e)) (first_point points (edge_at edges k)) (last_point points (edge_at edges k)) → ⊥
  same_ends e k l m h =
      let i = graph.joins e (omega (arith, l, m)) in
      let j = graph.joins k m in
      elim h [
        | inl s ↦ let o = graph.once e k (omega (arith, l, m)) m (apart.differ _ _ i.first j.first (sym s.0)) (apart.differ _ _ i.second j.second (sym s.1)) in omega (arith, o, l)
        | inr s ↦ graph.once_back e k (omega (arith, l, m)) m (apart.differ _ _ i.first j.second (sym s.1)) (apart.differ _ _ i.second j.first (sym s.0))
      ]

  -- and only those
  pub signs_from_cross : (e k : ℕ) → e < k → k < length edges → Cross points (edge_at edges e) (edge_at edges k) → HaveSigns points (edge_at edges e) (edge_at edges k)
  signs_from_cross e k l m h =
      let c = h.4 in
      crossing_from_mixed _ _ _ _ h.0 h.1 h.2 h.3 (ends_differ e (omega (arith, l, m))) (ends_differ k m) (same_ends e k l m) (mixed_of points (edge_at edges e) (edge_at edges k) h.0 h.1 h.2 h.3 c) (not_both h.0 h.1 h.2 h.3 c.some c.sums h.5)

-- ---- what tells at once

-- weights of one sum don't bring numbers up to m and numbers above m to one number
apart_by : (m a b c d : ℤ) (s t u v : ℕ) → 0 < s + t → s + t ≡ u + v → a ≤ℤ m → b ≤ℤ m → m <ℤ c → m <ℤ d
    → pos s *ℤ a +ℤ pos t *ℤ b ≡ pos u *ℤ c +ℤ pos v *ℤ d → ⊥
apart_by m a b c d s t u v some sums ha hb hc hd e =
    let hs : pos 0 ≤ℤ pos s = omega (arith, ints) in
    let ht : pos 0 ≤ℤ pos t = omega (arith, ints) in
    let hu : pos 0 ≤ℤ pos u = omega (arith, ints) in
    let hv : pos 0 ≤ℤ pos v = omega (arith, ints) in
    let x = le-mul_left (pos s) a m hs ha in
    let y = le-mul_left (pos t) b m ht hb in
    let z = le-mul_left (pos u) (m +ℤ pos 1) c hu (omega (arith, ints)) in
    let w = le-mul_left (pos v) (m +ℤ pos 1) d hv (omega (arith, ints)) in
    let zu = *ℤ-distrib_left (pos u) m (pos 1) in
    let wv = *ℤ-distrib_left (pos v) m (pos 1) in
    let ou : pos u *ℤ pos 1 ≡ pos u = omega (arith, ints) in
    let ov : pos v *ℤ pos 1 ≡ pos v = omega (arith, ints) in
    let l = *ℤ-distrib_right (pos s) (pos t) m in
    let r = *ℤ-distrib_right (pos u) (pos v) m in
    let same : pos s +ℤ pos t ≡ pos u +ℤ pos v = omega (arith, ints) in
    let both : (pos s +ℤ pos t) *ℤ m ≡ (pos u +ℤ pos v) *ℤ m = ap (λ n. n *ℤ m) same in
    let more : pos 0 <ℤ (pos u +ℤ pos v) = omega (arith, ints) in
    omega (arith, linear)

below_apart : (a b c d : ℤ) (s t u v : ℕ) → 0 < s + t → s + t ≡ u + v → AreBelow a b c d
    → pos s *ℤ a +ℤ pos t *ℤ b ≡ pos u *ℤ c +ℤ pos v *ℤ d → ⊥
below_apart a b c d s t u v some sums h e =
    let h0 = h.0 in let h1 = h.1 in let h2 = h.2 in let h3 = h.3 in
    by_lt_z a b
    (λ l. apart_by b a b c d s t u v some sums (omega (arith, linear)) (omega (arith, linear)) h2 h3 e)
    (λ l. apart_by a a b c d s t u v some sums (omega (arith, linear)) l h0 h1 e)

pub boxes_apart : (a b c d : Pt) (s t u v : ℕ) → AreBoxedApart a b c d → IsMixed a b c d s t u v → ⊥
boxes_apart a b c d s t u v (inl (inl h)) m = below_apart a.x b.x c.x d.x s t u v m.some m.sums h (ap (λ p. p.x) m.same)
boxes_apart a b c d s t u v (inl (inr h)) m = below_apart c.x d.x a.x b.x u v s t (omega (arith, m.some, m.sums)) (sym m.sums) h (sym (ap (λ p. p.x) m.same))
boxes_apart a b c d s t u v (inr (inl h)) m = below_apart a.y b.y c.y d.y s t u v m.some m.sums h (ap (λ p. p.y) m.same)
boxes_apart a b c d s t u v (inr (inr h)) m = below_apart c.y d.y a.y b.y u v s t (omega (arith, m.some, m.sums)) (sym m.sums) h (sym (ap (λ p. p.y) m.same))

turn-first : (p q : Pt) → turn p q p ≡ pos 0
turn-first p q = cross-none (minus q p) p

beside_sides : (a b c d : Pt) (s t u v : ℕ) → IsMixed a b c d s t u v → pos u *ℤ turn a b c +ℤ pos v *ℤ turn a b d ≡ pos s *ℤ pos 0 +ℤ pos t *ℤ pos 0
beside_sides a b c d s t u v m =
    let sums = m.sums in
    let f = turn_mixed a b a b (pos s) (pos t) in
    let g = turn_mixed a b c d (pos u) (pos v) in
    let e = ap (λ (q : Pt). cross (minus b a) q) m.same in
    let same : pos s +ℤ pos t ≡ pos u +ℤ pos v = omega (arith, ints) in
    let o = ap (λ z. z *ℤ cross (minus b a) a) same in
    let x = ap (λ z. pos s *ℤ z) (turn-first a b) in
    let y = ap (λ z. pos t *ℤ z) (turn-last a b) in
    omega (arith, linear)

pub beside_apart : (a b c d : Pt) (s t u v : ℕ) → IsBeside a b c d → IsMixed a b c d s t u v → ⊥
beside_apart a b c d s t u v (inl h) m =
    below_apart (pos 0) (pos 0) (turn a b c) (turn a b d) s t u v m.some m.sums (h.0, h.1, h.0, h.1) (sym (beside_sides a b c d s t u v m))
beside_apart a b c d s t u v (inr h) m =
    below_apart (turn a b c) (turn a b d) (pos 0) (pos 0) u v s t (omega (arith, m.some, m.sums)) (sym m.sums) (h.0, h.0, h.1, h.1) (beside_sides a b c d s t u v m)

-- such edges don't cross
pub apart_no_cross : (points : List Pt) (e k : EdgeEnds)
    → AreBoxedApart (first_point points e) (last_point points e) (first_point points k) (last_point points k) ⊎ IsBeside (first_point points e) (last_point points e) (first_point points k) (last_point points k)
    → Cross points e k → ⊥
apart_no_cross points e k (inl h) c = boxes_apart _ _ _ _ c.0 c.1 c.2 c.3 h (mixed_of points e k c.0 c.1 c.2 c.3 c.4)
apart_no_cross points e k (inr h) c = beside_apart _ _ _ _ c.0 c.1 c.2 c.3 h (mixed_of points e k c.0 c.1 c.2 c.3 c.4)

-- What three refusals that don't come say: the pattern is a drawing. And each of them says that it is none.
use Rattle.std.proofs.Common.{◌≡◌, ◌⊎◌, inl, inr, ℕ, ◌+◌, ◌<◌, List, length, arith, sym}
use Rattle.ff_basics.proofs.Numbers.{which}
use Rattle.ff_whole.specs.declared.points.Pt.{Pt}
use Rattle.ff_whole.specs.Convex.{AreApart}
use Rattle.ff_types.specs.declared.patterns.EdgeEnds.{EdgeEnds}
use Rattle.ff_types.specs.Patterns.{edge_at}
use Rattle.ff_types.specs.Drawings.{Common, IsEnd, MeetAtEnds, HasTwoEdges, IsDrawing}
use Rattle.ff_types.specs.FaceRefusals.{SamePointAt, CrossingAt, LooseAt, Never, NoCrossing}
use Rattle.ff_types.proofs.PlainSheets.{joins_itself}
use Rattle.ff_drawn.specs.Graphs.{IsGraph}
use Rattle.ff_drawn.proofs.EdgeCrossings.{end_or_within, end_not_within}
use Rattle.ff_drawn.proofs.TwoDarts.{one_edge, apart_or}

pub apart_from : (points : List Pt) → Never (SamePointAt points) → AreApart points
apart_from points h = record {
  differ = λ i j l m e. elim (which i j) [
    | inl o ↦ absurd (h j (m, (i, o, e)))
    | inr (inl o) ↦ absurd (h i (l, (j, o, sym e)))
    | inr (inr o) ↦ o
  ];
}

turned : (points : List Pt) (e k : EdgeEnds) (s t u v : ℕ) → Common points e k s t u v → Common points k e u v s t
turned points e k s t u v c = let some = c.some in let sums = c.sums in record { some = omega arith; sums = sym c.sums; same = sym c.same }

both_ends : (s t u v : ℕ) → 0 < s + t → 0 < u + v → ((IsEnd s t × IsEnd u v → ⊥) → ⊥) → IsEnd s t × IsEnd u v
both_ends s t u v f g h = elim (end_or_within s t f) [
  | inl e ↦ elim (end_or_within u v g) [ inl k ↦ (e, k) | inr w ↦ absurd (h (λ b. end_not_within u v b.1 w.0 w.1)) ]
  | inr w ↦ absurd (h (λ b. end_not_within s t b.0 w.0 w.1))
]

meet_from : (points : List Pt) (edges : List EdgeEnds) → NoCrossing points edges → (e k : ℕ) → e < k → k < length edges → MeetAtEnds points (edge_at edges e) (edge_at edges k)
meet_from points edges h e k l m s t u v c =
    let some = c.some in let sums = c.sums in
    both_ends s t u v some (omega arith) (λ n. h e k (l, m, (s, t, u, v, c, n)))

pub drawing_from : (points : List Pt) (edges : List EdgeEnds) → IsGraph points edges → Never (SamePointAt points) → NoCrossing points edges → ((v : ℕ) → v < length points → HasTwoEdges edges v) → IsDrawing points edges
drawing_from points edges g same cross two = record {
  near = g.near;
  apart = apart_from points same;
  edges_join = g.joins;
  once = λ e k l m j. one_edge points edges g e k (edge_at edges e).a (edge_at edges e).b l m (joins_itself (edge_at edges e).a (edge_at edges e).b) j;
  two = two;
  meet = λ e k l m n. elim (apart_or e k n) [
    | inl o ↦ meet_from points edges cross e k o m
    | inr o ↦ λ s t u v c. let b = meet_from points edges cross k e o l u v s t (turned points _ _ s t u v c) in (b.1, b.0)
  ];
}

pub same_is_none : (points : List Pt) (edges : List EdgeEnds) (v : ℕ) → SamePointAt points v → IsDrawing points edges → ⊥
same_is_none points edges v h d = let w = h.1 in let l = w.1 in let e = d.apart.differ w.0 v (omega (arith, h.0)) h.0 w.2 in omega arith

pub cross_is_none : (points : List Pt) (edges : List EdgeEnds) (e k : ℕ) → CrossingAt points edges e k → IsDrawing points edges → ⊥
cross_is_none points edges e k h d = let l = h.0 in let m = h.1 in h.2.5 (d.meet e k (omega arith) m (λ o. omega arith) h.2.0 h.2.1 h.2.2 h.2.3 h.2.4)

pub loose_is_none : (points : List Pt) (edges : List EdgeEnds) (v : ℕ) → LooseAt points edges v → IsDrawing points edges → ⊥
loose_is_none points edges v h d = h.1 (d.two v h.0)

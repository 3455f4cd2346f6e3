-- The test of an edge's mark and sides is the condition on the walks along it.
use Rattle.std.proofs.Common.{◌⊎◌, inl, inr, ℕ, ◌<◌, List, length, Option, Some, None}
use Rattle.ff_whole.specs.declared.points.Pt.{Pt}
use Rattle.ff_types.specs.declared.patterns.EdgeEnds.{EdgeEnds}
use Rattle.ff_types.specs.declared.patterns.Mark.{Mark}
use Rattle.ff_types.specs.declared.patterns.Mark.TheVariants.{B, M, V, F, U}
use Rattle.ff_types.specs.declared.faces.EdgeSides.{EdgeSides}
use Rattle.ff_types.specs.Patterns.{edge_at}
use Rattle.ff_types.specs.Drawings.{IsDrawing}
use Rattle.ff_types.specs.Sides.{sides_at}
use Rattle.ff_types.specs.Walks.{IsOuterSide, AreRingWalks}
use Rattle.ff_types.specs.FaceRefusals.{BothOut, OneOut, MarkOut, MarksOut, RimAt}
use Rattle.ff_planar.specs.Seen.{IsSeenOf, AreAllSeen, IsUnfit, given_mark}
use Rattle.ff_planar.proofs.OuterDarts.{not_outer}

module _ (points : List Pt) (edges : List EdgeEnds) (d : IsDrawing points edges) (rings : List (List ℕ)) (r : AreRingWalks points edges rings) where
  -- a side with a ring isn't outside
  pub ring_side : (u v f : ℕ) → IsSeenOf points edges rings u v (Some f) → IsOuterSide points edges u v → ⊥
  ring_side u v f s o = not_outer points edges d rings r f u v s.0 s.1 o

  -- what the mark alone says
  abbrev MarkPart : Option Mark → EdgeEnds → Type 0
  MarkPart None e = ⊥
  MarkPart (Some m) e = MarkOut points edges e m

  unfit_so : (e : EdgeEnds) (m : Option Mark) (left right : Option ℕ) → IsSeenOf points edges rings e.a e.b left → IsSeenOf points edges rings e.b e.a right → IsUnfit m left right
      → BothOut points edges e ⊎ MarkPart m e
  unfit_so e m None None s t h = inl (s, t)
  unfit_so e None (Some f) (Some g) s t h = absurd h
  unfit_so e (Some B) (Some f) (Some g) s t h = inr (ring_side e.a e.b f s, ring_side e.b e.a g t)
  unfit_so e (Some M) (Some f) (Some g) s t h = absurd h
  unfit_so e (Some V) (Some f) (Some g) s t h = absurd h
  unfit_so e (Some F) (Some f) (Some g) s t h = absurd h
  unfit_so e (Some U) (Some f) (Some g) s t h = absurd h
  unfit_so e None (Some f) None s t h = absurd h
  unfit_so e (Some B) (Some f) None s t h = absurd h
  unfit_so e (Some M) (Some f) None s t h = inr (inr (ring_side e.a e.b f s, t))
  unfit_so e (Some V) (Some f) None s t h = inr (inr (ring_side e.a e.b f s, t))
  unfit_so e (Some F) (Some f) None s t h = inr (inr (ring_side e.a e.b f s, t))
  unfit_so e (Some U) (Some f) None s t h = inr (inr (ring_side e.a e.b f s, t))
  unfit_so e None None (Some g) s t h = absurd h
  unfit_so e (Some B) None (Some g) s t h = absurd h
  unfit_so e (Some M) None (Some g) s t h = inr (inl (s, ring_side e.b e.a g t))
  unfit_so e (Some V) None (Some g) s t h = inr (inl (s, ring_side e.b e.a g t))
  unfit_so e (Some F) None (Some g) s t h = inr (inl (s, ring_side e.b e.a g t))
  unfit_so e (Some U) None (Some g) s t h = inr (inl (s, ring_side e.b e.a g t))

  not_one : (e : EdgeEnds) (f g : ℕ) → IsSeenOf points edges rings e.a e.b (Some f) → IsSeenOf points edges rings e.b e.a (Some g) → OneOut points edges e → ⊥
  not_one e f g s t (inl o) = ring_side e.a e.b f s o.0
  not_one e f g s t (inr o) = ring_side e.b e.a g t o.1

  so_unfit : (e : EdgeEnds) (m : Option Mark) (left right : Option ℕ) → IsSeenOf points edges rings e.a e.b left → IsSeenOf points edges rings e.b e.a right → BothOut points edges e ⊎ MarkPart m e
      → IsUnfit m left right
  so_unfit e m None None s t h = tt
  so_unfit e m (Some f) right s t (inl b) = absurd (ring_side e.a e.b f s b.0)
  so_unfit e m None (Some g) s t (inl b) = absurd (ring_side e.b e.a g t b.1)
  so_unfit e None (Some f) right s t (inr h) = absurd h
  so_unfit e None None (Some g) s t (inr h) = absurd h
  so_unfit e (Some B) (Some f) (Some g) s t (inr h) = tt
  so_unfit e (Some B) (Some f) None s t (inr h) = absurd (h.1 t)
  so_unfit e (Some B) None (Some g) s t (inr h) = absurd (h.0 s)
  so_unfit e (Some M) (Some f) (Some g) s t (inr h) = absurd (not_one e f g s t h)
  so_unfit e (Some M) (Some f) None s t (inr h) = tt
  so_unfit e (Some M) None (Some g) s t (inr h) = tt
  so_unfit e (Some V) (Some f) (Some g) s t (inr h) = absurd (not_one e f g s t h)
  so_unfit e (Some V) (Some f) None s t (inr h) = tt
  so_unfit e (Some V) None (Some g) s t (inr h) = tt
  so_unfit e (Some F) (Some f) (Some g) s t (inr h) = absurd (not_one e f g s t h)
  so_unfit e (Some F) (Some f) None s t (inr h) = tt
  so_unfit e (Some F) None (Some g) s t (inr h) = tt
  so_unfit e (Some U) (Some f) (Some g) s t (inr h) = absurd (not_one e f g s t h)
  so_unfit e (Some U) (Some f) None s t (inr h) = tt
  so_unfit e (Some U) None (Some g) s t (inr h) = tt

  marks_part : (marks : Option (List Mark)) (e : ℕ) → MarksOut points edges e marks → MarkPart (given_mark marks e) (edge_at edges e)
  marks_part None e h = h
  marks_part (Some ms) e h = h

  part_marks : (marks : Option (List Mark)) (e : ℕ) → MarkPart (given_mark marks e) (edge_at edges e) → MarksOut points edges e marks
  part_marks None e h = h
  part_marks (Some ms) e h = h

  module _ (seen : List EdgeSides) (s : AreAllSeen points edges rings seen) (marks : Option (List Mark)) (e : ℕ) where
    pub rim_from : e < length edges → IsUnfit (given_mark marks e) (sides_at seen e).left (sides_at seen e).right → RimAt points edges marks e
    rim_from l h = let w = s.each e l in (l, elim (unfit_so (edge_at edges e) (given_mark marks e) (sides_at seen e).left (sides_at seen e).right w.left w.right h) [ inl b ↦ inl b | inr p ↦ inr (part_marks marks e p) ])

    pub from_rim : RimAt points edges marks e → IsUnfit (given_mark marks e) (sides_at seen e).left (sides_at seen e).right
    from_rim h = let w = s.each e h.0 in so_unfit (edge_at edges e) (given_mark marks e) (sides_at seen e).left (sides_at seen e).right w.left w.right (elim h.1 [ inl b ↦ inl b | inr p ↦ inr (marks_part marks e p) ])

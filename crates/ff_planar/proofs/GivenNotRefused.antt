-- Where faces are given nothing is refused.
use Rattle.std.proofs.Common.{ℕ, ◌<◌, List, length, Option, arith, sym, ap, subst}
use Rattle.ff_whole.specs.declared.points.Pt.{Pt}
use Rattle.ff_types.specs.declared.patterns.EdgeEnds.{EdgeEnds}
use Rattle.ff_types.specs.declared.patterns.Mark.{Mark}
use Rattle.ff_types.specs.declared.faces.Faces.{Faces}
use Rattle.ff_types.specs.declared.refusals.Refusal.{Refusal}
use Rattle.ff_types.specs.declared.refusals.Refusal.TheVariants.{SamePoint, Crossing, Loose, Rim, Pinch, Reflex, Enclosed, Apart, TooMany}
use Rattle.ff_types.specs.declared.refusals.What.TheVariants as what
use Rattle.ff_types.specs.Faces.{AreRings}
use Rattle.ff_types.specs.FaceRefusals.{RimAt, RefusesFaces}
use Rattle.ff_drawn.specs.declared.darts.Dart.{Dart}
use Rattle.ff_planar.specs.declared.traces.Side.{Side}
use Rattle.ff_drawn.specs.Graphs.{IsGraph}
use Rattle.ff_drawn.specs.Darts.{AreDarts}
use Rattle.ff_drawn.specs.Drawn.{IsDrawnBy}
use Rattle.ff_planar.specs.Traces.{AreTraced}
use Rattle.ff_planar.specs.Given.{AreGiven}
use Rattle.ff_drawn.proofs.WholeDrawings.{same_is_none, cross_is_none, loose_is_none}
use Rattle.ff_planar.proofs.FacesWalks.{no_pinch, no_reflex, no_enclosed}
use Rattle.ff_planar.proofs.FacesOnce.{no_rim, no_apart, one_walks, faces_once}
use Rattle.ff_drawn.proofs.DartLists.{some_darts}
use Rattle.ff_planar.proofs.SomeTraces.{some_trace}

module _ (points : List Pt) (edges : List EdgeEnds) (marks : Option (List Mark)) (graph : IsGraph points edges) (faces : Faces) (g : AreGiven points edges marks faces) where
  rings_are : AreRings points edges marks faces.rings
  rings_are = g.faces_are.rings_are

  not_rim : (e : ℕ) → RimAt points edges marks e → ⊥
  not_rim = by (some_darts edges) where
    from_trace : (darts : List Dart) → IsDrawnBy points edges darts → (rings : List (List ℕ)) × (sides : List Side) × AreTraced points edges darts rings sides → (e : ℕ) → RimAt points edges marks e → ⊥
    from_trace darts dr (rings, sides, t) =
        no_rim points edges darts dr marks faces.rings sides (subst (λ r. AreTraced points edges darts r sides) (sym (one_walks points edges g.drawing marks faces.rings rings_are rings t.rings_are)) t) rings_are

    by : (darts : List Dart) × AreDarts edges darts → (e : ℕ) → RimAt points edges marks e → ⊥
    by (darts, a) = let dr : IsDrawnBy points edges darts = record { drawing = g.drawing; darts_are = a } in from_trace darts dr (some_trace points edges darts graph dr)

  not_many : (rings : List (List ℕ)) → AreRings points edges marks rings → 2048 < length rings → ⊥
  not_many rings a l = let few = g.few in let n = ap length (faces_once points edges g.drawing marks faces.rings rings rings_are a) in omega (arith, l, few, n)

  pub not_refused : (r : Refusal) → RefusesFaces points edges marks r → ⊥
  not_refused (SamePoint v) h = same_is_none points edges v h.0 g.drawing
  not_refused (Crossing e k) h = cross_is_none points edges e k h.1.crosses g.drawing
  not_refused (Loose v) h = loose_is_none points edges v h.2.0 g.drawing
  not_refused (Rim e) h = not_rim e h.1.0
  not_refused (Pinch v) h = no_pinch points edges g.drawing marks faces.rings rings_are v h.2.0
  not_refused (Reflex v) h = no_reflex points edges g.drawing marks faces.rings rings_are v h.3.0
  not_refused (Enclosed v) h = no_enclosed points edges g.drawing marks faces.rings rings_are v h.4.0
  not_refused (Apart f) h = no_apart points edges g.drawing marks faces.rings rings_are f h.5.0
  not_refused (TooMany what.Faces limit) (c, (e, (rings, a, l))) = not_many rings a (omega (arith, l, e))
  not_refused (TooMany w limit) (c, nothing) = nothing
  not_refused r nothing = absurd nothing

use Rattle.std.proofs.Common.{◌≡◌, ◌≢◌, sym, subst, ◌∙◌, ap, ℕ, ◌<◌, length, List, [], Bool, true, false, slice_index_or, Option, MatchOption}
use Rattle.std.proofs.lemmas.List.{get_or_default}
use Rattle.std.specs.List.{All}
use Rattle.ff_whole.specs.declared.points.Pt.{Pt}
use Rattle.ff_whole.specs.declared.places.Place.{Place}
use Rattle.ff_whole.specs.Points.{IsNear}
use Rattle.ff_whole.specs.Convex.{point_at}
use Rattle.ff_types.specs.Rings.{corner, after}
use Rattle.ff_types.specs.Faces.{ring_at}
use Rattle.ff_types.specs.Foldings.{is_up}
use Rattle.ff_types.proofs.FoldedEdges.{images_near, ring_below}
use Rattle.ff_edges.specs.Clips.{IsPartInside, IsNoneInside}
use Rattle.ff_edges.proofs.FaceSteps.{steps_apart}
use Rattle.ff_edges.proofs.crossed.part_in_face.Goals as goal

pub part_inside-requires-clause-near : goal.part_inside-requires-clause-near
part_inside-requires-clause-near c = subst (λ ps. All IsNear ps) (sym c.as_slice-points.ensures) (images_near c.requires.folded)

pub part_inside-requires-clause-below : goal.part_inside-requires-clause-below
part_inside-requires-clause-below c =
    let rings = c.as_slice-3.ensures in
    let within = subst (λ rs. c.args.f < length rs) (sym rings) c.requires.face in
    let same : c.as_slice-ring.result.now ≡ ring_at c.args.faces.now.rings c.args.f = c.as_slice-ring.ensures ∙ c.index-as_slice-f.is ∙ get_or_default c.as_slice-3.result.now c.args.f c.index-as_slice-f.result [] within ∙ ap (λ rs. ring_at rs c.args.f) rings in
    subst (λ ps. All (λ v. v < length ps) c.as_slice-ring.result.now) (sym c.as_slice-points.ensures)
    (subst (λ xs. All (λ v. v < length c.args.folded.now.points) xs) (sym same) (ring_below c.requires.folded c.args.f c.requires.face))

pub part_inside-requires-clause-steps_apart : goal.part_inside-requires-clause-steps_apart
part_inside-requires-clause-steps_apart c =
    let rings = c.as_slice-3.ensures in
    let within = subst (λ rs. c.args.f < length rs) (sym rings) c.requires.face in
    let same : c.as_slice-ring.result.now ≡ ring_at c.args.faces.now.rings c.args.f = c.as_slice-ring.ensures ∙ c.index-as_slice-f.is ∙ get_or_default c.as_slice-3.result.now c.args.f c.index-as_slice-f.result [] within ∙ ap (λ rs. ring_at rs c.args.f) rings in
    subst (λ ps. (k : ℕ) → k < length c.as_slice-ring.result.now → point_at ps (corner c.as_slice-ring.result.now k) ≢ point_at ps (after c.as_slice-ring.result.now k)) (sym c.as_slice-points.ensures)
    (subst (λ xs. (k : ℕ) → k < length xs → point_at c.args.folded.now.points (corner xs k) ≢ point_at c.args.folded.now.points (after xs k)) (sym same) (steps_apart c.requires.folded c.args.f c.requires.face))

pub returns : goal.returns
returns c =
    let rings = c.as_slice-3.ensures in
    let within = subst (λ rs. c.args.f < length rs) (sym rings) c.requires.face in
    let same : c.as_slice-ring.result.now ≡ ring_at c.args.faces.now.rings c.args.f = c.as_slice-ring.ensures ∙ c.index-as_slice-f.is ∙ get_or_default c.as_slice-3.result.now c.args.f c.index-as_slice-f.result [] within ∙ ap (λ rs. ring_at rs c.args.f) rings in
    let flags : length c.as_slice-2.result.now ≡ length c.args.faces.now.rings = ap (λ us. length us) c.as_slice-2.ensures ∙ c.requires.folded.folding.as_many_flags in
    let up = get_or_default c.as_slice-2.result.now c.args.f false true (subst (λ n. c.args.f < n) (sym flags) c.requires.face) ∙ ap (λ us. is_up us c.args.f) c.as_slice-2.ensures in
    subst (λ ps. Says ps (is_up c.args.folded.now.up c.args.f) (ring_at c.args.faces.now.rings c.args.f) c.args.p c.args.q c.part_inside.result) c.as_slice-points.ensures
    (subst (λ b. Says c.as_slice-points.result.now b (ring_at c.args.faces.now.rings c.args.f) c.args.p c.args.q c.part_inside.result) up
    (subst (λ xs. Says c.as_slice-points.result.now (slice_index_or c.as_slice-2.result.now c.args.f false) xs c.args.p c.args.q c.part_inside.result) same c.part_inside.ensures))
  where
    Says : List Pt → Bool → List ℕ → Pt → Pt → Option (Place × Place) → Type 0
    Says points up ring p q r = MatchOption r (IsNoneInside points up ring p q) (λ way. IsPartInside points up ring (length ring) p q way.0 way.1)

use Rattle.std.proofs.Common.{sym, subst, ◌∙◌, ap, ◌<◌, length, []}
use Rattle.std.specs.List.{All}
use Rattle.std.proofs.lemmas.List.{get_or_default}
use Rattle.ff_whole.specs.Points.{IsNear}
use Rattle.ff_types.specs.Faces.{ring_at}
use Rattle.ff_types.proofs.FoldedEdges.{images_near, ring_below}
use Rattle.ff_edges.proofs.reaches.face_extent.Goals as goal

pub ring_extent-requires-clause-near : goal.ring_extent-requires-clause-near
ring_extent-requires-clause-near c = subst (λ ps. All IsNear ps) (sym c.as_slice-3.ensures) (images_near c.requires.folded)

pub ring_extent-requires-clause-below : goal.ring_extent-requires-clause-below
ring_extent-requires-clause-below c =
    let rings = c.as_slice-2.ensures in
    let within = subst (λ rs. c.args.f < length rs) (sym rings) c.requires.face in
    subst (λ ps. All (λ v. v < length ps) c.as_slice-ring.result.now) (sym c.as_slice-3.ensures)
    (subst (λ xs. All (λ v. v < length c.args.folded.now.points) xs) (sym (c.as_slice-ring.ensures ∙ c.index-as_slice-f.is ∙ get_or_default c.as_slice-2.result.now c.args.f c.index-as_slice-f.result [] within ∙ ap (λ rs. ring_at rs c.args.f) rings)) (ring_below c.requires.folded c.args.f c.requires.face))

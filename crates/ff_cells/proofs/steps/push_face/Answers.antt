use Rattle.std.proofs.Common.{◌≡◌, ◌<◌, [], length, get_or, ap, sym, ◌∙◌, subst}
use Rattle.std.specs.List.{All}
use Rattle.std.proofs.lemmas.List.{get_or_default}
use Rattle.std.proofs.lemmas.Result.{IfOk-weaker}
use Rattle.ff_whole.specs.Points.{IsNear}
use Rattle.ff_types.specs.Faces.{ring_at}
use Rattle.ff_types.proofs.FoldedEdges.{images_near, ring_below}
use Rattle.ff_cells.proofs.Stepping.{face_added}
use Rattle.ff_cells.proofs.steps.push_face.Goals as goal

pub push_ring-requires-clause-near : goal.push_ring-requires-clause-near
push_ring-requires-clause-near c = subst (All IsNear) (sym c.as_slice-3.ensures)
    (images_near c.requires.folded.1)

pub push_ring-requires-clause-within : goal.push_ring-requires-clause-within
push_ring-requires-clause-within c =
    let f = c.args.face in
    let rings = c.args.faces.now.rings in
    let ring : c.as_slice-ring.result.now ≡ ring_at rings f = c.as_slice-ring.ensures
    ∙ (c.index-as_slice-face.is ∙ (ap (λ rs. get_or rs f c.index-as_slice-face.result) c.as_slice.ensures
    ∙ get_or_default rings f c.index-as_slice-face.result [] c.requires.within)) in
    subst (λ ps. All (λ v. v < length ps) c.as_slice-ring.result.now) (sym c.as_slice-3.ensures)
    (subst (All (λ v. v < length c.args.folded.now.points)) (sym ring)
    (ring_below c.requires.folded.1 f c.requires.within))

pub returns : goal.returns
returns c =
    let f = c.args.face in
    let rings = c.args.faces.now.rings in
    let points = c.args.folded.now.points in
    let h = c.requires.folded.1 in
    let ring : c.as_slice-ring.result.now ≡ ring_at rings f = c.as_slice-ring.ensures
    ∙ (c.index-as_slice-face.is ∙ (ap (λ rs. get_or rs f c.index-as_slice-face.result) c.as_slice.ensures
    ∙ get_or_default rings f c.index-as_slice-face.result [] c.requires.within)) in
    let lt = subst (λ n. f < n) (sym h.folding.as_many_flags) c.requires.within in
    IfOk-weaker c.push_ring.result _ _ (λ u a. face_added points c.as_slice-3.result.now rings
    c.as_slice-ring.result.now c.args.folded.now.up c.as_slice-2.result.now f c.args.bars.now.items
    c.push_ring.new.bars.items
    c.as_slice-3.ensures ring c.as_slice-2.ensures lt c.requires.so_far a) c.push_ring.ensures

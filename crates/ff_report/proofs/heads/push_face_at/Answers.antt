use Rattle.std.proofs.Common.{◌<◌, ℕ, List, length, slice_index, [], ◌∙◌, ap, subst, sym}
use Rattle.std.proofs.lemmas.List.{get_or_read}
use Rattle.ff_whole.specs.declared.points.Pt.{Pt}
use Rattle.ff_types.specs.Faces.{ring_at}
use Rattle.ff_report.proofs.heads.push_face_at.Goals as goal

pub push_face-requires : goal.push_face-requires
push_face-requires c =
    let face = subst (λ (rings : List (List ℕ)). c.args.f < length rings) (sym c.as_slice-2.ensures) c.requires.face in
    let item = get_or_read c.as_slice-2.result.now c.args.f c.index-as_slice-f.result face c.index-as_slice-f.is [] in
    let ring = c.as_slice-ring.ensures ∙ item ∙ ap (λ rings. ring_at rings c.args.f) c.as_slice-2.ensures in
    let inside = λ (i : ℕ). c.requires.fit.points c.args.f i c.requires.face in
    let there = subst (λ (xs : List ℕ). (i : ℕ) → i < length xs → slice_index xs i < length c.args.folded.now.points) (sym ring) inside in
    subst (λ (ps : List Pt). (i : ℕ) → i < length c.as_slice-ring.result.now → slice_index c.as_slice-ring.result.now i < length ps) (sym c.as_slice-3.ensures) there

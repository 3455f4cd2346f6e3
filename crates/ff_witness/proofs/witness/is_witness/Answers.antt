use Rattle.std.proofs.Common.{◌≡◌, ◌≢◌, ◌↔◌, sym, subst, ◌∙◌, ap, ℕ, ◌<◌, length, List, [], Bool, true, false, slice_index_or, IsTrue}
use Rattle.std.proofs.lemmas.List.{get_or_default}
use Rattle.std.proofs.lemmas.Bool.{lt-ltb}
use Rattle.std.specs.List.{All}
use Rattle.ff_whole.specs.declared.points.Pt.{Pt}
use Rattle.ff_whole.specs.Convex.{point_at}
use Rattle.ff_types.specs.Rings.{corner, after}
use Rattle.ff_types.specs.Faces.{ring_at}
use Rattle.ff_types.specs.Foldings.{is_up}
use Rattle.ff_types.specs.Sheets.{sheet_of}
use Rattle.ff_types.proofs.FoldedEdges.{ring_below}
use Rattle.ff_edges.proofs.FaceSteps.{steps_apart}
use Rattle.ff_witness.specs.Witnessing.{IsWitnessTo}
use Rattle.ff_witness.proofs.Witnesses.{ring_face, face_ring}
use Rattle.ff_witness.proofs.witness.is_witness.Goals as goal

pub is_witness_of_ring-requires-clause-below : goal.is_witness_of_ring-requires-clause-below
is_witness_of_ring-requires-clause-below c =
    let face : c.args.f < length c.args.faces.now.rings = subst (λ rs. c.args.f < length rs) c.as_slice-2.ensures c.if-f-as_slice.false in
    let rings = c.as_slice-4.ensures in
    let within = subst (λ rs. c.args.f < length rs) (sym rings) face in
    let same : c.as_slice-ring.result.now ≡ ring_at c.args.faces.now.rings c.args.f = c.as_slice-ring.ensures ∙ c.index-as_slice-f.is ∙ get_or_default c.as_slice-4.result.now c.args.f c.index-as_slice-f.result [] within ∙ ap (λ rs. ring_at rs c.args.f) rings in
    subst (λ ps. All (λ v. v < length ps) c.as_slice-ring.result.now) (sym c.as_slice-5.ensures)
    (subst (λ xs. All (λ v. v < length c.args.folded.now.points) xs) (sym same) (ring_below c.requires.folded c.args.f face))

pub is_witness_of_ring-requires-clause-apart : goal.is_witness_of_ring-requires-clause-apart
is_witness_of_ring-requires-clause-apart c =
    let face : c.args.f < length c.args.faces.now.rings = subst (λ rs. c.args.f < length rs) c.as_slice-2.ensures c.if-f-as_slice.false in
    let rings = c.as_slice-4.ensures in
    let within = subst (λ rs. c.args.f < length rs) (sym rings) face in
    let same : c.as_slice-ring.result.now ≡ ring_at c.args.faces.now.rings c.args.f = c.as_slice-ring.ensures ∙ c.index-as_slice-f.is ∙ get_or_default c.as_slice-4.result.now c.args.f c.index-as_slice-f.result [] within ∙ ap (λ rs. ring_at rs c.args.f) rings in
    subst (λ ps. (k : ℕ) → k < length c.as_slice-ring.result.now → point_at ps (corner c.as_slice-ring.result.now k) ≢ point_at ps (after c.as_slice-ring.result.now k)) (sym c.as_slice-5.ensures)
    (subst (λ xs. (k : ℕ) → k < length xs → point_at c.args.folded.now.points (corner xs k) ≢ point_at c.args.folded.now.points (after xs k)) (sym same) (steps_apart c.requires.folded c.args.f face))

pub returns : goal.returns
returns c =
    let g = sheet_of c.args.pattern.now c.args.faces.now c.args.folded.now in
    let face : c.args.f < length c.args.faces.now.rings = subst (λ rs. c.args.f < length rs) c.as_slice-2.ensures c.if-f-as_slice.false in
    let rings = c.as_slice-4.ensures in
    let within = subst (λ rs. c.args.f < length rs) (sym rings) face in
    let same : c.as_slice-ring.result.now ≡ ring_at c.args.faces.now.rings c.args.f = c.as_slice-ring.ensures ∙ c.index-as_slice-f.is ∙ get_or_default c.as_slice-4.result.now c.args.f c.index-as_slice-f.result [] within ∙ ap (λ rs. ring_at rs c.args.f) rings in
    let flags : length c.as_slice-3.result.now ≡ length c.args.faces.now.rings = ap (λ us. length us) c.as_slice-3.ensures ∙ c.requires.folded.folding.as_many_flags in
    let up = get_or_default c.as_slice-3.result.now c.args.f false true (subst (λ n. c.args.f < n) (sym flags) face) ∙ ap (λ us. is_up us c.args.f) c.as_slice-3.ensures in
    let told : Says c.args.folded.now.points (is_up c.args.folded.now.up c.args.f) (ring_at c.args.faces.now.rings c.args.f) =
    subst (λ ps. Says ps (is_up c.args.folded.now.up c.args.f) (ring_at c.args.faces.now.rings c.args.f)) c.as_slice-5.ensures
    (subst (λ b. Says c.as_slice-5.result.now b (ring_at c.args.faces.now.rings c.args.f)) up
    (subst (λ xs. Says c.as_slice-5.result.now (slice_index_or c.as_slice-3.result.now c.args.f false) xs) same c.is_witness_of_ring.ensures)) in (
      (λ t. ring_face g c.args.f c.args.places.now (lt-ltb c.args.f (length c.args.faces.now.rings) face) (told.0 t)),
      (λ t. told.1 (face_ring g c.args.f c.args.places.now t)),
    )
  where
    Says : List Pt → Bool → List ℕ → Type 0
    Says points up ring = IsTrue c.is_witness_of_ring.result ↔ IsWitnessTo points up ring (length ring) c.args.places.now

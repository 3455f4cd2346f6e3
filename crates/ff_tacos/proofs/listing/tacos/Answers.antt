use Rattle.std.proofs.Common.{sym, subst, rules, length}
use Rattle.ff_types.specs.Sheets.{sheet_of}
use Rattle.ff_edges.specs.SharedSegments.{AreEdgePairs}
use Rattle.ff_edges.specs.EdgesInside.{AreEdgeFaces}
use Rattle.ff_tacos.specs.Tacos.{AreTooMany}
use Rattle.ff_tacos.specs.Making.{AreMixed, all_given}
use Rattle.ff_tacos.proofs.Whole.{pairs_there, faces_there, both_there, are_tacos, too_many}
use Rattle.ff_tacos.proofs.listing.tacos.Goals as goal

pub mixed_pairs-requires-clause-edges : goal.mixed_pairs-requires-clause-edges
mixed_pairs-requires-clause-edges c =
    let g = sheet_of c.args.pattern.now c.args.faces.now c.args.folded.now in
    pairs_there g c.as_slice-edge_pairs.result.now
    (subst (AreEdgePairs g) (sym c.as_slice-edge_pairs.ensures) c.requires.edge_pairs)

pub append_families-requires-clause-pair_edges : goal.append_families-requires-clause-pair_edges
append_families-requires-clause-pair_edges c =
    let g = sheet_of c.args.pattern.now c.args.faces.now c.args.folded.now in
    pairs_there g c.as_slice-edge_pairs.result.now
    (subst (AreEdgePairs g) (sym c.as_slice-edge_pairs.ensures) c.requires.edge_pairs)

pub append_families-requires-clause-edges : goal.append_families-requires-clause-edges
append_families-requires-clause-edges c =
    let g = sheet_of c.args.pattern.now c.args.faces.now c.args.folded.now in
    faces_there g c.as_slice-edge_faces.result.now
    (subst (AreEdgeFaces g) (sym c.as_slice-edge_faces.ensures) c.requires.edge_faces)

pub append_families-requires-clause-both : goal.append_families-requires-clause-both
append_families-requires-clause-both c =
    let g = sheet_of c.args.pattern.now c.args.faces.now c.args.folded.now in
    let eps = c.as_slice-edge_pairs.result.now in
    both_there c.requires.folded c.args.pairs.now c.requires.pairs eps c.as_slice-edge_faces.result.now
    c.as_slice.result.now
    (subst (AreEdgePairs g) (sym c.as_slice-edge_pairs.ensures) c.requires.edge_pairs)
    (subst (AreEdgeFaces g) (sym c.as_slice-edge_faces.ensures) c.requires.edge_faces)
    (subst (AreMixed g eps) (sym c.as_slice.ensures.value) c.in_ok-mixed.ensures)

pub returns-clause-made : goal.returns-clause-made
returns-clause-made c =
    let g = sheet_of c.args.pattern.now c.args.faces.now c.args.folded.now in
    let eps = c.as_slice-edge_pairs.result.now in
    let efs = c.as_slice-edge_faces.result.now in
    let list = c.as_slice.result.now in
    let are = are_tacos c.requires.folded c.args.pairs.now c.requires.pairs eps efs list
    (subst (AreEdgePairs g) (sym c.as_slice-edge_pairs.ensures) c.requires.edge_pairs)
    (subst (AreEdgeFaces g) (sym c.as_slice-edge_faces.ensures) c.requires.edge_faces)
    (subst (AreMixed g eps) (sym c.as_slice.ensures.value) c.in_ok-mixed.ensures) in
    record { tacos = all_given g c.args.pairs.now eps efs list; are = are; appended = c.in_ok-append_families.ensures.appended }

pub returns-in_err-append_families-clause-refused : goal.returns-in_err-append_families-clause-refused
returns-in_err-append_families-clause-refused c =
    let g = sheet_of c.args.pattern.now c.args.faces.now c.args.folded.now in
    let eps = c.as_slice-edge_pairs.result.now in
    let efs = c.as_slice-edge_faces.result.now in
    let list = c.as_slice.result.now in
    let why : AreTooMany g c.args.pairs.now (length c.args.list) c.in_err-append_families.field-0.0 =
    too_many c.requires.folded c.args.pairs.now c.requires.pairs eps efs list
    (subst (AreEdgePairs g) (sym c.as_slice-edge_pairs.ensures) c.requires.edge_pairs)
    (subst (AreEdgeFaces g) (sym c.as_slice-edge_faces.ensures) c.requires.edge_faces)
    (subst (AreMixed g eps) (sym c.as_slice.ensures.value) c.in_ok-mixed.ensures) _ _
    c.in_err-append_families.ensures.refused in
    search (rules, why)

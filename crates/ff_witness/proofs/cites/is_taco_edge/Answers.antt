use Rattle.std.proofs.Common.{◌∙◌, ◌<◌, sym, length, subst}
use Rattle.ff_types.specs.Sheets.{sheet_of}
use Rattle.ff_borders.proofs.Running.{sharing_agrees}
use Rattle.ff_tacos.proofs.Flags.{flat_folded}
use Rattle.ff_witness.proofs.cites.is_taco_edge.Goals as goal

pub returns-then-flat-e : goal.returns-then-flat-e
returns-then-flat-e c =
    let g = sheet_of c.args.pattern.now c.args.faces.now c.args.folded.now in
    let folded = sym c.is_folded.ensures ∙ c.if-not-is_folded.false in
    let flat = sym c.is_flat.ensures ∙ c.if-not-is_flat.false in
    let e : c.args.e < length c.args.pattern.now.edges = subst (λ xs. c.args.e < length xs) c.as_slice-count.ensures c.if-e-count.false in
    let f : c.args.flat < length c.args.pattern.now.edges = subst (λ xs. c.args.flat < length xs) c.as_slice-count.ensures c.if-flat-count.false in (
      (λ t. (folded, flat, (sharing_agrees c.requires.folded c.args.flat c.args.e f e (c.do_share-then-flat-e.ensures.0 t).1).0)),
      (λ h. c.do_share-then-flat-e.ensures.1 (flat_folded g c.args.flat c.args.e flat folded, (sharing_agrees c.requires.folded c.args.e c.args.flat e f h.2).0)),
    )

use Rattle.std.proofs.Common.{◌∙◌, sym}
use Rattle.ff_basics.proofs.Tests.{of_both}
use Rattle.ff_types.specs.Sheets.{sheet_of}
use Rattle.ff_tacos.proofs.Flags.{side_of, of_side}
use Rattle.ff_witness.proofs.cites.is_taco_taco.Goals as goal

pub returns : goal.returns
returns c =
    let g = sheet_of c.args.pattern.now c.args.faces.now c.args.folded.now in
    let first = sym c.is_folded.ensures ∙ c.if-not-is_folded.false in
    let second = sym c.is_folded-2.ensures ∙ c.if-not-is_folded-2.false in (
      (λ t. let s = c.do_share.ensures.0 t in (c.if-e-e2.false, of_both _ _ first second, s.1, side_of g c.args.e c.args.e2 first second s.0)),
      (λ h. c.do_share.ensures.1 (of_side g c.args.e c.args.e2 first second h.3, h.2)),
    )

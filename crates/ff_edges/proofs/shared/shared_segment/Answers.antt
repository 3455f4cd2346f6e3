use Rattle.std.proofs.Common.{refl, subst}
use Rattle.ff_types.specs.Sheets.{sheet_of}
use Rattle.ff_edges.specs.Ways.{IsCommonWay, HaveNoWay}
use Rattle.ff_edges.proofs.Segments.{segment_of, no_segment}
use Rattle.ff_edges.proofs.shared.shared_segment.Goals as goal

pub returns-in_default : goal.returns-in_default
returns-in_default c = λ _ h.
    let g = sheet_of c.args.pattern.now c.args.faces.now c.args.folded.now in
    no_segment g c.args.e c.args.k
    (subst (λ z. z) (λ i. HaveNoWay (c.ends.ensures.tail i) (c.ends.ensures.head i) (c.ends-2.ensures.tail i) (c.ends-2.ensures.head i)) c.in_default.ensures) h

pub returns : goal.returns
returns c =
    let g = sheet_of c.args.pattern.now c.args.faces.now c.args.folded.now in
    let way = subst (λ z. z) (λ i. IsCommonWay (c.ends.ensures.tail i) (c.ends.ensures.head i) (c.ends-2.ensures.tail i) (c.ends-2.ensures.head i) c.in-Some.p c.in-Some.q) c.in-Some.ensures in (
      refl,
      refl,
      record {
        order = c.requires.order;
        constrained = c.constrain.ensures.0 c.if-not-constrain.false;
        shares = segment_of g c.args.e c.args.k c.in-Some.p c.in-Some.q way;
        ends = way;
      },
    )

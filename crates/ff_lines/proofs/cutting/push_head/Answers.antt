use Rattle.std.proofs.Common.{subst}
use Rattle.ff_lines.specs.Heads.{IsHeadAt}
use Rattle.ff_lines.proofs.Edging.{push_edge, skip_edge}
use Rattle.ff_lines.proofs.cutting.push_head.Goals as goal

pub returns-in_default : goal.returns-in_default
returns-in_default c = skip_edge c.args.lines.now c.args.points.now c.args.a c.args.b c.args.drawn.now.edges.items c.args.drawn.now.marks.items c.requires.edges
    (subst (IsHeadAt c.args.lines.now c.args.points.now c.args.a c.args.b) c.in_default.is c.requires.head)

pub returns : goal.returns
returns c =
    let h = subst (IsHeadAt c.args.lines.now c.args.points.now c.args.a c.args.b) c.in-Some.is c.requires.head in
    rw (c.in_ok-push.ensures.items, c.in_ok-push-2.ensures.items)
    (push_edge c.args.lines.now c.args.points.now c.args.a c.args.b c.args.drawn.now.edges.items c.args.drawn.now.marks.items c.requires.edges c.in-Some.mark h.0 h.1)

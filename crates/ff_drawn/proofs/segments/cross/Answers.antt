use Rattle.std.proofs.Common.{arith}
use Rattle.std.proofs.lemmas.Bool.{false≢true}
use Rattle.ff_drawn.proofs.EdgeCrossings.{apart_no_cross, cross_from_signs, signs_from_cross}
use Rattle.ff_types.specs.Patterns.{edge_at}
use Rattle.ff_drawn.proofs.segments.cross.Goals as goal

pub are_forked-requires-clause-first : goal.are_forked-requires-clause-first
are_forked-requires-clause-first c = let r = c.requires in r.graph.joins c.args.e (omega (arith, r.in_order, r.within))

pub are_forked-requires-clause-second : goal.are_forked-requires-clause-second
are_forked-requires-clause-second c = let r = c.requires in r.graph.joins c.args.k r.within

pub returns-then-are_forked : goal.returns-then-are_forked
returns-then-are_forked c =
    let r = c.requires in
    (λ h. absurd (false≢true h), λ h. absurd (c.are_forked.ensures c.if-are_forked.true (signs_from_cross c.args.points.now c.args.edges.now r.graph r.apart c.args.e c.args.k h.0 h.1 h.2)))

pub returns-then-are_apart : goal.returns-then-are_apart
returns-then-are_apart c =
    (λ h. absurd (false≢true h), λ h. absurd (apart_no_cross c.args.points.now (edge_at c.args.edges.now c.args.e) (edge_at c.args.edges.now c.args.k) (c.are_apart.ensures.0 c.if-are_apart.true) h.2))

pub returns : goal.returns
returns c =
    let r = c.requires in
    let points = c.args.points.now in
    let edges = c.args.edges.now in (
      λ h. (r.in_order, r.within, cross_from_signs points (edge_at edges c.args.e) (edge_at edges c.args.k) (c.are_crossing.ensures.0 h)),
      λ h. c.are_crossing.ensures.1 (signs_from_cross points edges r.graph r.apart c.args.e c.args.k h.0 h.1 h.2),
    )

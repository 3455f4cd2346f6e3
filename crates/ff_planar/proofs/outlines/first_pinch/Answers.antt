use Rattle.std.proofs.Common.{sym, ◌∙◌}
use Rattle.std.proofs.lemmas.Bool.{false≢true}
use Rattle.ff_planar.proofs.OuterDarts.{pinch_from, from_pinch, out_skip, out_more, out_twice, out_first, out_never}
use Rattle.ff_planar.proofs.outlines.first_pinch.Goals as goal

pub loop-d-preserved-then-not-is_outside : goal.loop-d-preserved-then-not-is_outside
loop-d-preserved-then-not-is_outside c = out_skip _ _ _ _ c.loop-d.invariant (λ e. false≢true (sym c.if-not-is_outside.true ∙ c.is_outside.ensures.1 e))

pub returns-then-is_just : goal.returns-then-is_just
returns-then-is_just c =
    let r = c.requires in
    let out = c.is_outside.ensures.0 c.if-not-is_outside.false in
    let rises = r.drawn.darts_are.sorted in (
      pinch_from c.args.points.now c.args.edges.now c.args.darts.now r.drawn c.args.rings.now c.args.sides.now r.traced _ (out_twice _ rises _ c.loop-d.d c.loop-d.last c.loop-d-test.true c.loop-d.invariant out (c.is_just.ensures.0 c.if-is_just.true)),
      λ u l p. out_first _ rises _ c.loop-d.d c.loop-d.last c.loop-d-test.true c.loop-d.invariant out u l (from_pinch c.args.points.now c.args.edges.now c.args.darts.now r.drawn c.args.rings.now c.args.sides.now r.traced u p),
    )

pub loop-d-preserved : goal.loop-d-preserved
loop-d-preserved c =
    let r = c.requires in
    let out = c.is_outside.ensures.0 c.if-not-is_outside.false in
    out_more _ r.drawn.darts_are.sorted _ c.loop-d.d c.loop-d.last c.loop-d-test.true c.loop-d.invariant out (λ e. false≢true (sym c.if-is_just.false ∙ c.is_just.ensures.1 e))

pub returns : goal.returns
returns c = λ u p. let r = c.requires in
    out_never _ _ _ _ c.loop-d.invariant c.loop-d-test.false u (from_pinch c.args.points.now c.args.edges.now c.args.darts.now r.drawn c.args.rings.now c.args.sides.now r.traced u p)

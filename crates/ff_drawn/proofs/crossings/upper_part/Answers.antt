use Rattle.ff_drawn.specs.Extents.{Reaches}
use Rattle.std.proofs.Common.{sym, ◌∙◌}
use Rattle.std.proofs.lemmas.Bool.{false≢true}
use Rattle.ff_drawn.proofs.Halves.{part_skips, part_takes, whole_part}
use Rattle.ff_drawn.proofs.crossings.upper_part.Goals as goal

pub loop-i-preserved-then-not-reaches : goal.loop-i-preserved-then-not-reaches
loop-i-preserved-then-not-reaches c = part_skips (Reaches c.args.is_upright c.args.at) c.args.list.now c.loop-i.i c.loop-i.part.items c.loop-i.invariant (λ r. false≢true (sym c.if-not-reaches.true ∙ c.reaches.ensures.1 r))

pub loop-i-preserved : goal.loop-i-preserved
loop-i-preserved c = rw c.in_ok-push.ensures.items (part_takes (Reaches c.args.is_upright c.args.at) c.args.list.now c.loop-i.i c.loop-i.part.items c.loop-i-test.true c.loop-i.invariant)

pub returns : goal.returns
returns c = whole_part (Reaches c.args.is_upright c.args.at) c.args.list.now c.loop-i.i c.loop-i.part.items c.loop-i-test.false c.loop-i.invariant

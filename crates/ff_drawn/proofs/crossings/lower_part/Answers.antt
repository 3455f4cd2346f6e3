use Rattle.ff_drawn.specs.Extents.{IsBeyond}
use Rattle.ff_drawn.proofs.Halves.{part_skips, part_takes, whole_part}
use Rattle.ff_drawn.proofs.crossings.lower_part.Goals as goal

pub loop-i-preserved-then-is_beyond : goal.loop-i-preserved-then-is_beyond
loop-i-preserved-then-is_beyond c = part_skips (λ e. IsBeyond c.args.is_upright c.args.at e → ⊥) c.args.list.now c.loop-i.i c.loop-i.part.items c.loop-i.invariant (λ n. n (c.is_beyond.ensures.0 c.if-is_beyond.true))

pub loop-i-preserved : goal.loop-i-preserved
loop-i-preserved c = rw c.in_ok-push.ensures.items (part_takes (λ e. IsBeyond c.args.is_upright c.args.at e → ⊥) c.args.list.now c.loop-i.i c.loop-i.part.items c.loop-i-test.true c.loop-i.invariant)

pub returns : goal.returns
returns c = whole_part (λ e. IsBeyond c.args.is_upright c.args.at e → ⊥) c.args.list.now c.loop-i.i c.loop-i.part.items c.loop-i-test.false c.loop-i.invariant

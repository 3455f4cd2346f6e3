use Rattle.std.proofs.Common.{None, sym, ◌∙◌}
use Rattle.ff_orders.specs.Given.{renumbered}
use Rattle.ff_orders.proofs.GivenItems.{none_missing}
use Rattle.ff_orders.proofs.reading.all_renumbered.Goals as goal

pub returns-in-None : goal.returns-in-None
returns-in-None c = record {
  is = record { within = c.loop-i-test.true; bad = sym c.renumbered.ensures ∙ c.in-None.is };
  before = λ m l bad. none_missing (renumbered c.args.numbers.now) c.args.items.now c.loop-i.orders c.loop-i.i m None c.loop-i.invariant l bad.within bad.bad;
}

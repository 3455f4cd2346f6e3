use Rattle.std.proofs.Common.{◌+◌, ap, ◌∙◌, arith}
use Rattle.ff_journal.specs.Reading.{one_if}
use Rattle.ff_journal.proofs.NextEntry.{published_next, one_le}
use Rattle.ff_journal.proofs.saying.published.Goals as goal

pub loop-i-preserved : goal.loop-i-preserved
loop-i-preserved c = (
  ap (λ k. c.loop-i.count + k) (c.one_if-count.ensures ∙ ap one_if c.is_published.ensures)
      ∙ published_next c.args.journal.now c.loop-i.i c.index-journal-i.result c.loop-i.count c.loop-i-test.true c.index-journal-i.is c.loop-i.invariant.0,
  let l = one_le c.is_published.result in let e = c.one_if-count.ensures in let b = c.loop-i.invariant.1 in omega (arith, l, e, b),
)

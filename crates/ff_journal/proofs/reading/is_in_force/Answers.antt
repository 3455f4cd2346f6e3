use Rattle.std.proofs.Common.{◌∙◌, sym}
use Rattle.ff_journal.specs.Epochs.{changes}
use Rattle.ff_journal.proofs.InForce.{some_found, none_more}
use Rattle.ff_journal.proofs.reading.is_in_force.Goals as goal

pub returns-then-is_holders : goal.returns-then-is_holders
returns-then-is_holders c = sym (some_found (changes c.args.journal.now) c.args.journal.now c.loop-i.i c.index-journal-i.result c.args.pair
    c.args.value c.loop-i-test.true c.index-journal-i.is (sym c.is_holders.ensures ∙ c.if-is_holders.true))

pub loop-i-preserved : goal.loop-i-preserved
loop-i-preserved c = none_more (changes c.args.journal.now) c.args.journal.now c.loop-i.i c.index-journal-i.result c.args.pair
    c.args.value c.loop-i-test.true c.index-journal-i.is c.loop-i.invariant (sym c.is_holders.ensures ∙ c.if-is_holders.false)

use Rattle.std.proofs.Common.{ap, ◌∙◌, arith}
use Rattle.std.proofs.lemmas.List.{take_all}
use Rattle.ff_propagate.specs.Facts.{value_at}
use Rattle.ff_near.specs.Distance.{share}
use Rattle.ff_near.proofs.Costs.{counted_more, share_within}
use Rattle.ff_near.proofs.counting.decided.Goals as goal

pub one_more-count-requires : goal.one_more-count-requires
one_more-count-requires c =
    let l = share_within c.args.case.now.pairs c.args.list.now (value_at c.args.facts.now) c.loop-i.i c.loop-i.auto.i-end in
    omega (arith, l, c.loop-i.invariant, c.loop-i-test.true, c.requires.few)

pub loop-i-preserved : goal.loop-i-preserved
loop-i-preserved c = counted_more c.args.case.now.pairs c.args.list.now (value_at c.args.facts.now) c.loop-i.i _ c.loop-i-test.true c.loop-i.count c.one_more-count.result c.is_otherwise.result c.one_more-count.ensures c.is_otherwise.ensures c.loop-i.invariant

pub returns : goal.returns
returns c = c.loop-i.invariant ∙ ap (λ l. share c.args.case.now.pairs l (value_at c.args.facts.now)) (take_all c.loop-i.i c.args.list.now c.loop-i-test.false)

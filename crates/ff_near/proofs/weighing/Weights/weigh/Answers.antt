use Rattle.std.proofs.Common.{sym}
use Rattle.ff_near.proofs.Costs.{one_below, one_above}
use Rattle.ff_near.proofs.weighing.Weights.weigh.Goals as goal

pub returns-in-Below : goal.returns-in-Below
returns-in-Below c = one_below _ c.count-count.ensures.pairs.sorted c.args.list.now c.args.i _ c.requires.there c.in-Some.n (sym c.in-Some.ensures.value)
    c.in-Some.ensures.place _ _ c.requires.weights _ c.add.ensures _ c.against_order.ensures c.in-Below.is

pub returns-in-Above : goal.returns-in-Above
returns-in-Above c = one_above _ c.count-count.ensures.pairs.sorted c.args.list.now c.args.i _ c.requires.there c.in-Some.n (sym c.in-Some.ensures.value)
    c.in-Some.ensures.place _ _ c.requires.weights _ c.add-in-Above.ensures _ c.against_order.ensures c.in-Above.is

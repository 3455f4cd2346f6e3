use Rattle.std.proofs.Common.{sym, ◌∙◌, ◌-◌, arith}
use Rattle.ff_near.proofs.Costs.{cost_before, no_cost, all_cost, weight_is}
use Rattle.ff_near.proofs.weighing.Weights.cost.Goals as goal

pub loop-k-init : goal.loop-k-init
loop-k-init c = (sym (no_cost c.args.case.now.pairs c.args.list.now c.args.part.now c.args.values.now c.requires.rising c.requires.as_many), omega arith)

pub overflow_add-total : goal.overflow_add-total
overflow_add-total c =
    let l = c.requires.within (c.loop-k.k - 1) (omega (arith, c.loop-k-test.true, c.loop-k.invariant.1)) in
    let a = cost_before c.args.case.now.pairs c.args.list.now c.args.part.now c.args.values.now c.requires.rising c.requires.as_many c.loop-k.k c.loop-k-test.true c.loop-k.invariant.1 _ _ _ c.loop-k.invariant.0
    (c.of-total.ensures ∙ weight_is _ _ _ _ c.requires.weights _ _ l) in
    omega (arith, a.1, c.requires.few)

pub loop-k-preserved : goal.loop-k-preserved
loop-k-preserved c =
    let l = c.requires.within (c.loop-k.k - 1) (omega (arith, c.loop-k-test.true, c.loop-k.invariant.1)) in
    let a = cost_before c.args.case.now.pairs c.args.list.now c.args.part.now c.args.values.now c.requires.rising c.requires.as_many c.loop-k.k c.loop-k-test.true c.loop-k.invariant.1 _ _ _ c.loop-k.invariant.0
    (c.of-total.ensures ∙ weight_is _ _ _ _ c.requires.weights _ _ l) in
    (a.0, omega (arith, c.loop-k.invariant.1))

pub returns : goal.returns
returns c = all_cost c.args.case.now.pairs c.args.list.now c.args.part.now c.args.values.now c.requires.rising c.requires.as_many c.loop-k.k c.loop-k-test.false _ c.loop-k.invariant.0

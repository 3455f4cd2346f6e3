use Rattle.std.proofs.Common.{◌≡◌, ◌+◌, ◌-◌, ◌<◌, ◌≤◌, ◌∙◌, arith}
use Rattle.ff_desk.proofs.InOrder.{published_first, published_next, publishes_step}
use Rattle.ff_desk.proofs.desk.Desk.publish_all.Goals as goal

pub loop-n-init : goal.loop-n-init
loop-n-init c = published_first c.args.self.now

pub publish_next-requires : goal.publish_next-requires
publish_next-requires c = record {
  begun =
      let i = c.loop-n.invariant in let k = i.counted in let b = i.begun in let t = c.loop-n-test.true in let o = c.is_desk.ensures.order in
      let p = c.published.ensures.value in let q = c.begun.ensures.value in omega (arith, k, b, t, o, p, q);
}

pub returns-in_err-publish_next-clause-publishes : goal.returns-in_err-publish_next-clause-publishes
returns-in_err-publish_next-clause-publishes c = publishes_step _ _ _ c.loop-n.invariant.publishes c.publish_next.ensures.step

pub loop-n-preserved : goal.loop-n-preserved
loop-n-preserved c = published_next _ _ _ _ c.loop-n.invariant c.publish_next.ensures.base c.in_ok-publish_next.ensures.published

pub returns-clause-all : goal.returns-clause-all
returns-clause-all c =
    let i = c.loop-n.invariant in let k = i.counted in let b = i.begun in let t = c.loop-n-test.false in let o = c.is_desk.ensures.order in
    let r = c.loop-n.auto in
    let p = c.published.ensures.value in let q = c.begun.ensures.value in omega (arith, k, b, t, o, p, q)

pub returns-clause-publishes : goal.returns-clause-publishes
returns-clause-publishes c = c.loop-n.invariant.publishes

pub returns-clause-base : goal.returns-clause-base
returns-clause-base c = c.loop-n.invariant.base

pub returns-in_err-publish_next-clause-base : goal.returns-in_err-publish_next-clause-base
returns-in_err-publish_next-clause-base c = c.publish_next.ensures.base ∙ c.loop-n.invariant.base

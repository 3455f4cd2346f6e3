use Rattle.std.proofs.Common.{arith}
use Rattle.ff_edges.proofs.ExtentLists.{all_more}
use Rattle.ff_edges.proofs.blocks.block_extent.Goals as goal

pub loop-k-preserved : goal.loop-k-preserved
loop-k-preserved c =
    let j = c.joined-extent.ensures in
    record { extent = j.extent; round = all_more c.args.list.now c.args.from c.loop-k.k c.loop-k.extent c.joined-extent.result c.loop-k.invariant.round j.first j.second }

pub returns-clause-round : goal.returns-clause-round
returns-clause-round c = λ k low l m. c.loop-k.invariant.round k low (let e = c.block_end-k-end.ensures.all k l m in let t = c.loop-k-test.false in omega (arith, e, t)) m

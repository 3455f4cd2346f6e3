use Rattle.std.proofs.Common.{ℕ, ◌+◌, ◌*◌, List, arith}
use Rattle.ff_edges.specs.declared.extents.Extent.{Extent}
use Rattle.ff_edges.specs.declared.blocks.TheConstants.{BLOCK}
use Rattle.ff_edges.specs.Extents.{IsRoundAll}
use Rattle.ff_edges.proofs.ExtentLists.{extents_more}
use Rattle.ff_edges.proofs.blocks.block_extents.Goals as goal

round_at : (list : List Extent) (b : ℕ) (a : Extent) → IsRoundAll list (b * BLOCK) (b * BLOCK + BLOCK) a → IsRoundAll list (BLOCK * b) (BLOCK * b + BLOCK) a
round_at list b a h k low l m = h k (omega (arith, low)) (omega (arith, l)) m

pub loop-b-preserved : goal.loop-b-preserved
loop-b-preserved c =
    let x = c.block_extent.ensures in
    let list = c.args.list.now in
    rw c.in_ok-push.ensures.pushed (extents_more (λ b. IsRoundAll list (BLOCK * b) (BLOCK * b + BLOCK)) c.loop-b.b c.loop-b.blocks.items c.block_extent.result c.loop-b.invariant x.extent (round_at list c.loop-b.b c.block_extent.result x.round))

use Rattle.std.specs.Cmp.{int_ranks}
use Rattle.ff_whole.proofs.Ranks.{rank-order}
use Rattle.ff_edges.proofs.common.is_before.Goals as goal

pub returns : goal.returns
returns c = rw c.lt.ensures (rank-order c.args.p c.args.q c.requires.p_near c.requires.q_near _ _ (int_ranks c.args.p.x c.args.q.x) (int_ranks c.args.p.y c.args.q.y))

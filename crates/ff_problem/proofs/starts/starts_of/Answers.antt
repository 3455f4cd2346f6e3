use Rattle.ff_problem.proofs.CreaseStarts.{one_more_start}
use Rattle.ff_problem.proofs.starts.starts_of.Goals as goal

pub loop-e-preserved : goal.loop-e-preserved
loop-e-preserved c = one_more_start _ c.loop-e.e _ _ _ c.in_ok-push_start.ensures c.loop-e.invariant c.start_at.ensures

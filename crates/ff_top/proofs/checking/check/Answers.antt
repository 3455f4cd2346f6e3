use Rattle.ff_top.proofs.Modes.{check_by}
use Rattle.ff_top.proofs.checking.check.Goals as goal

pub returns : goal.returns
returns c = check_by _ _ _ _ c.status_where.ensures c.in_ok-answer.ensures

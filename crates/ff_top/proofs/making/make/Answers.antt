use Rattle.ff_top.proofs.Modes.{make_by}
use Rattle.ff_top.proofs.making.make.Goals as goal

pub returns : goal.returns
returns c = make_by _ _ _ _ _ c.status_after.ensures c.in_ok-answer.ensures

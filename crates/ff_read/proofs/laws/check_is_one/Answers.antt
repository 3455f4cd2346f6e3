use Rattle.ff_read.proofs.OneCheck.{check_is_one}
use Rattle.ff_read.proofs.laws.check_is_one.Goals as goal

pub returns : goal.returns
returns c = check_is_one

use Rattle.ff_log.proofs.OneLog.{texts_are_one}
use Rattle.ff_log.proofs.laws.texts_are_one.Goals as goal

pub returns : goal.returns
returns c = texts_are_one

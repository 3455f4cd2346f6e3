use Rattle.ff_judged.proofs.Reading.{read_some, not_read}
use Rattle.ff_judged.proofs.judging.input_of.Goals as goal

pub returns-clause-some : goal.returns-clause-some
returns-clause-some c = read_some _ _ c.read_check.ensures.read

pub returns-clause-refused : goal.returns-clause-refused
returns-clause-refused c = not_read _ c.requires _ c.read_check.ensures.read

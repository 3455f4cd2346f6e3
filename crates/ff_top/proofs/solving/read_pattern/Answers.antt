use Rattle.ff_top.proofs.Reading.{pattern_some}
use Rattle.ff_top.proofs.solving.read_pattern.Goals as goal

pub returns-clause-some : goal.returns-clause-some
returns-clause-some c = pattern_some _ _ c.read_fold.ensures

use Rattle.ff_cells.proofs.Counting.{not_refused}
use Rattle.ff_cells.proofs.laws.given_or_refused.Goals as goal

pub returns : goal.returns
returns c = λ pattern faces folded h places a few short r n. not_refused h places a few short r n

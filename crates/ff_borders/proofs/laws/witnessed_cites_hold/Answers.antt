use Rattle.ff_borders.proofs.Witnesses.{witnessed_hold}
use Rattle.ff_borders.proofs.laws.witnessed_cites_hold.Goals as goal

pub returns : goal.returns
returns c = λ pattern faces folded h. witnessed_hold h

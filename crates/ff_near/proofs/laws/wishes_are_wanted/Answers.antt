use Rattle.ff_near.proofs.Overlapping.{wishes}
use Rattle.ff_near.proofs.laws.wishes_are_wanted.Goals as goal

pub returns : goal.returns
returns c = wishes

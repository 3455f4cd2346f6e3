use Rattle.ff_cut.proofs.OneReading.{lines_are_one}
use Rattle.ff_cut.proofs.laws.lines_are_one.Goals as goal

pub returns : goal.returns
returns c = lines_are_one

use Rattle.ff_cut.proofs.SomePattern.{drawing_is_one}
use Rattle.ff_cut.proofs.laws.drawing_is_one.Goals as goal

pub returns : goal.returns
returns c = drawing_is_one

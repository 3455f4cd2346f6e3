use Rattle.ff_crossings.proofs.Pinning.{pins_are_held}
use Rattle.ff_crossings.proofs.cases.pins_are_held.Goals as goal

pub returns : goal.returns
returns c = pins_are_held

use Rattle.ff_planar.proofs.SomeFaces.{not_neither}
use Rattle.ff_planar.proofs.laws.faces_are_given_or_refused.Goals as goal

pub returns : goal.returns
returns c = not_neither

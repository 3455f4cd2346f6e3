use Rattle.ff_parts.proofs.Factoring.{parts_factor}
use Rattle.ff_parts.proofs.laws.parts_factor.Goals as goal

pub returns : goal.returns
returns c = parts_factor

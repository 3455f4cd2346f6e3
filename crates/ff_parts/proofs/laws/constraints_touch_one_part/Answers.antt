use Rattle.ff_parts.proofs.Apart.{touched_once}
use Rattle.ff_parts.proofs.laws.constraints_touch_one_part.Goals as goal

pub returns : goal.returns
returns c vars cons value parts fit are = touched_once vars cons value parts are fit

use Rattle.std.proofs.Common.{refl}
use Rattle.ff_cells.proofs.Merging.{tally_none}
use Rattle.ff_cells.proofs.adding.nothing.Goals as goal

pub returns : goal.returns
returns c = tally_none _ c.new.ensures.items c.new-2.ensures.empty refl refl

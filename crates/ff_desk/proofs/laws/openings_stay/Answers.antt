use Rattle.ff_desk.proofs.Growing.{opening_stays}
use Rattle.ff_desk.proofs.laws.openings_stay.Goals as goal

pub returns : goal.returns
returns c = opening_stays

use Rattle.ff_read.proofs.OneReading.{reading_is_one}
use Rattle.ff_read.proofs.laws.reading_is_one.Goals as goal

pub returns : goal.returns
returns c = reading_is_one

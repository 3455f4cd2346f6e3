use Rattle.ff_cut.proofs.Reading.{shown}
use Rattle.ff_cut.proofs.answers.answer_of.Goals as goal

pub returns-in-Ok : goal.returns-in-Ok
returns-in-Ok c = shown _ _ c.in-Ok.ensures.drawn _ c.show.ensures

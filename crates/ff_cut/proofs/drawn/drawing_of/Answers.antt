use Rattle.ff_cut.proofs.Reading.{is_drawn, not_drawn}
use Rattle.ff_cut.proofs.drawn.drawing_of.Goals as goal

pub returns-clause-drawn : goal.returns-clause-drawn
returns-clause-drawn c = is_drawn _ _ c.requires.within c.requires.read _ c.draw.ensures

pub returns-clause-refused : goal.returns-clause-refused
returns-clause-refused c = not_drawn _ _ c.requires.within c.requires.read _ c.draw.ensures

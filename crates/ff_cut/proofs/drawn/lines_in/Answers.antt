use Rattle.ff_cut.proofs.Reading.{not_read, read_few}
use Rattle.ff_cut.proofs.drawn.lines_in.Goals as goal

pub returns-clause-few : goal.returns-clause-few
returns-clause-few c = read_few _ _ c.read_lines.ensures.read

pub returns-clause-refused : goal.returns-clause-refused
returns-clause-refused c = not_read _ c.requires _ c.read_lines.ensures.read

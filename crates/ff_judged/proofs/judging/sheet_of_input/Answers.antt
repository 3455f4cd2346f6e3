use Rattle.ff_judged.proofs.Reading.{not_folded}
use Rattle.ff_judged.proofs.judging.sheet_of_input.Goals as goal

pub returns-clause-refused : goal.returns-clause-refused
returns-clause-refused c = not_folded _ c.requires.few _ c.requires.read _ c.folded_sheet.ensures

use Rattle.ff_solve.proofs.Stacked.{choices_are_stackings, clash_has_none, starts_are_stackings, start_clash_has_none}
use Rattle.ff_solve.proofs.laws.stackings_are_choices.Goals as goal

pub returns-clause-choices : goal.returns-clause-choices
returns-clause-choices c = choices_are_stackings

pub returns-clause-clash : goal.returns-clause-clash
returns-clause-clash c = clash_has_none

pub returns-clause-starts : goal.returns-clause-starts
returns-clause-starts c = starts_are_stackings

pub returns-clause-start_clash : goal.returns-clause-start_clash
returns-clause-start_clash c = start_clash_has_none

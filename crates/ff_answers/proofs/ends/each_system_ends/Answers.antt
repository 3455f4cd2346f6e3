use Rattle.ff_answers.proofs.Ending.{each_system_ends}
use Rattle.ff_answers.proofs.ends.each_system_ends.Goals as goal

pub returns : goal.returns
returns c = each_system_ends

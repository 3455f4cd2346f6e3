use Rattle.ff_lines.proofs.Cuts.{cuts_are}
use Rattle.ff_lines.proofs.laws.cuts_are_lines.Goals as goal

pub returns : goal.returns
returns c = cuts_are

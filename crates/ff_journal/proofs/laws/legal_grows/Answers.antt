use Rattle.ff_journal.proofs.Snoc.{legal_more}
use Rattle.ff_journal.proofs.laws.legal_grows.Goals as goal

pub returns : goal.returns
returns c = legal_more

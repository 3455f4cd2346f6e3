use Rattle.ff_propagate.proofs.Exact.{contradiction_clashes}
use Rattle.ff_propagate.proofs.laws.contradictions_clash.Goals as goal

pub returns : goal.returns
returns c = contradiction_clashes

use Rattle.ff_parts.proofs.Factoring.{clash_allows_none}
use Rattle.ff_parts.proofs.laws.clash_allows_none.Goals as goal

pub returns : goal.returns
returns c = clash_allows_none

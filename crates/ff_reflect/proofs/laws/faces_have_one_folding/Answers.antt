use Rattle.ff_reflect.proofs.OneFolding.{one_folding}
use Rattle.ff_reflect.proofs.laws.faces_have_one_folding.Goals as goal

pub returns : goal.returns
returns c = one_folding

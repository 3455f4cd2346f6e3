use Rattle.ff_reflect.proofs.SomeFoldings.{not_neither}
use Rattle.ff_reflect.proofs.laws.faces_fold_or_are_refused.Goals as goal

pub returns : goal.returns
returns c = λ paper h unfolded none. not_neither paper none h unfolded

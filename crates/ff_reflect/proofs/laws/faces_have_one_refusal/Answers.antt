use Rattle.ff_reflect.proofs.OneRefusal.{one_refusal}
use Rattle.ff_reflect.proofs.laws.faces_have_one_refusal.Goals as goal

pub returns : goal.returns
returns c = one_refusal

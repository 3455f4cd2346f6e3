use Rattle.ff_planar.proofs.FacesOnce.{faces_once}
use Rattle.ff_planar.proofs.laws.faces_are_one.Goals as goal

pub returns : goal.returns
returns c = λ points edges marks rings others d a b. faces_once points edges d marks rings others a b

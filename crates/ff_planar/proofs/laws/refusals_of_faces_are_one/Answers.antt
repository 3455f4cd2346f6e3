use Rattle.ff_planar.proofs.Stages.{one_refusal}
use Rattle.ff_planar.proofs.laws.refusals_of_faces_are_one.Goals as goal

pub returns : goal.returns
returns c = one_refusal

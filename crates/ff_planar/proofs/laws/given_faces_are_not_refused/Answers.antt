use Rattle.ff_planar.proofs.Stages.{graph_of}
use Rattle.ff_planar.proofs.GivenNotRefused.{not_refused}
use Rattle.ff_planar.proofs.laws.given_faces_are_not_refused.Goals as goal

pub returns : goal.returns
returns c = λ points edges marks faces r pattern g h. not_refused points edges marks (graph_of points edges marks pattern) faces g r h

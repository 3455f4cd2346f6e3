use Rattle.ff_borders.proofs.TwoSides.{two_faces}
use Rattle.ff_borders.proofs.laws.inner_edges_have_two_faces.Goals as goal

pub returns : goal.returns
returns c = λ pattern faces folded h. two_faces h

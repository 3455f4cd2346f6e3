use Rattle.ff_borders.proofs.FlatSheets.{one_flat_has_two_faces, one_flat_covers_once, one_flat_stacks, one_flat_stacks_alone}
use Rattle.ff_borders.proofs.laws.one_flat_edge_stacks.Goals as goal

pub returns-clause-faces : goal.returns-clause-faces
returns-clause-faces c = λ pattern faces folded h. one_flat_has_two_faces h

pub returns-clause-covers : goal.returns-clause-covers
returns-clause-covers c = λ pattern faces folded h. one_flat_covers_once h

pub returns-clause-stacks : goal.returns-clause-stacks
returns-clause-stacks c = λ pattern faces folded h. one_flat_stacks h

pub returns-clause-alone : goal.returns-clause-alone
returns-clause-alone c = λ pattern faces folded h. one_flat_stacks_alone h

use Rattle.ff_borders.proofs.Runs.{edges_run_along, one_side_agrees}
use Rattle.ff_borders.proofs.Lying.{ring_faces_lie_aside, flat_faces_part, folded_faces_meet}
use Rattle.ff_types.specs.Sheets.{sheet_of}
use Rattle.ff_borders.proofs.laws.faces_lie_aside.Goals as goal

pub returns-clause-edges : goal.returns-clause-edges
returns-clause-edges c = λ pattern faces folded h. edges_run_along h

pub returns-clause-sides : goal.returns-clause-sides
returns-clause-sides c = λ pattern faces folded h. one_side_agrees (sheet_of pattern faces folded)

pub returns-clause-faces : goal.returns-clause-faces
returns-clause-faces c = λ pattern faces folded h. ring_faces_lie_aside h

pub returns-clause-flat : goal.returns-clause-flat
returns-clause-flat c = λ pattern faces folded h. flat_faces_part h

pub returns-clause-folded : goal.returns-clause-folded
returns-clause-folded c = λ pattern faces folded h. folded_faces_meet h

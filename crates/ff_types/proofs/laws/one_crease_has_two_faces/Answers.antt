use Rattle.ff_types.proofs.CreasedSheets.{creased_drawing, creased_faces, creased_overlap, creased_apart, two_stackings}
use Rattle.ff_types.proofs.laws.one_crease_has_two_faces.Goals as goal

pub returns-clause-drawing : goal.returns-clause-drawing
returns-clause-drawing c = creased_drawing

pub returns-clause-faces : goal.returns-clause-faces
returns-clause-faces c = creased_faces

pub returns-clause-overlap : goal.returns-clause-overlap
returns-clause-overlap c = creased_overlap

pub returns-clause-apart : goal.returns-clause-apart
returns-clause-apart c = creased_apart

pub returns-clause-stackings : goal.returns-clause-stackings
returns-clause-stackings c = two_stackings

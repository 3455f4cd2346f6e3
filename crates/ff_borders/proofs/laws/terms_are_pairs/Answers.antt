use Rattle.ff_borders.proofs.Terms.{terms_overlap, terms_differ, crease_faces_overlap}
use Rattle.ff_borders.proofs.Matching.{matching_lies}
use Rattle.ff_borders.proofs.laws.terms_are_pairs.Goals as goal

pub returns-clause-overlap : goal.returns-clause-overlap
returns-clause-overlap c = λ pattern faces folded h. terms_overlap h

pub returns-clause-differ : goal.returns-clause-differ
returns-clause-differ c = λ pattern faces folded h. terms_differ h

pub returns-clause-matching : goal.returns-clause-matching
returns-clause-matching c = λ pattern faces folded h. matching_lies h

pub returns-clause-creases : goal.returns-clause-creases
returns-clause-creases c = λ pattern faces folded h. crease_faces_overlap h

use Rattle.ff_borders.proofs.Running.{inside_by_one_place, sharing_by_one_place, sharing_agrees, plain_places_tell, none_inside_own, sharing_have_no_common}
use Rattle.ff_borders.proofs.laws.one_place_tells.Goals as goal

pub returns-clause-inside : goal.returns-clause-inside
returns-clause-inside c = λ pattern faces folded h. inside_by_one_place h

pub returns-clause-shared : goal.returns-clause-shared
returns-clause-shared c = λ pattern faces folded h. sharing_by_one_place h

pub returns-clause-agrees : goal.returns-clause-agrees
returns-clause-agrees c = λ pattern faces folded h. sharing_agrees h

pub returns-clause-plain : goal.returns-clause-plain
returns-clause-plain c = λ pattern faces folded h. plain_places_tell h

pub returns-clause-not_own : goal.returns-clause-not_own
returns-clause-not_own c = λ pattern faces folded h. none_inside_own h

pub returns-clause-no_common : goal.returns-clause-no_common
returns-clause-no_common c = λ pattern faces folded h. sharing_have_no_common h

use Rattle.ff_borders.proofs.Running.{edges_have_plain, parts_inside_have_plain, segments_have_plain}
use Rattle.ff_borders.proofs.laws.plain_places_are_there.Goals as goal

pub returns-clause-edges : goal.returns-clause-edges
returns-clause-edges c = λ pattern faces folded h. edges_have_plain h

pub returns-clause-inside : goal.returns-clause-inside
returns-clause-inside c = λ pattern faces folded h. parts_inside_have_plain h

pub returns-clause-shared : goal.returns-clause-shared
returns-clause-shared c = λ pattern faces folded h. segments_have_plain h

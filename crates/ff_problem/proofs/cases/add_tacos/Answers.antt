use Rattle.std.proofs.lemmas.Result.{IfErr-weaker}
use Rattle.ff_problem.proofs.Making.{constraints_from}
use Rattle.ff_problem.proofs.Refusing.{no_tacos}
use Rattle.ff_problem.proofs.cases.add_tacos.Goals as goal

pub tacos-requires-clause-pairs : goal.tacos-requires-clause-pairs
tacos-requires-clause-pairs c = λ f h l o. (c.requires.layers.overlap f h l).0 o

pub returns-clause-made : goal.returns-clause-made
returns-clause-made c = constraints_from _ _ _ c.requires.layers _ c.tacos.ensures.made c.tacos.ensures.few

pub returns-clause-refused : goal.returns-clause-refused
returns-clause-refused c = IfErr-weaker _ _ _ (no_tacos _ _ _ c.requires.layers) c.tacos.ensures.refused

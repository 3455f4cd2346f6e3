use Rattle.std.proofs.lemmas.Result.{IfErr-weaker}
use Rattle.ff_problem.proofs.Refusing.{no_edge_pairs}
use Rattle.ff_problem.proofs.cases.few_edge_pairs.Goals as goal

pub returns-clause-refused : goal.returns-clause-refused
returns-clause-refused c = IfErr-weaker _ _ _ (no_edge_pairs c.requires.folded _ _ c.requires.layers) c.edge_pairs.ensures.refused

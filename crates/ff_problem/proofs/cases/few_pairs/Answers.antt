use Rattle.std.proofs.lemmas.Result.{IfErr-weaker}
use Rattle.ff_problem.proofs.Refusing.{no_pairs}
use Rattle.ff_problem.proofs.cases.few_pairs.Goals as goal

pub returns-clause-refused : goal.returns-clause-refused
returns-clause-refused c = IfErr-weaker _ _ _ (λ n. no_pairs _ _ n c.requires.few_cells c.requires.sets) c.pairs.ensures.refused

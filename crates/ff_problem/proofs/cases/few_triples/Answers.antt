use Rattle.std.proofs.lemmas.Result.{IfErr-weaker}
use Rattle.ff_problem.proofs.Counts.{no_more_pairs}
use Rattle.ff_problem.proofs.Refusing.{no_triples}
use Rattle.ff_problem.proofs.Steps.{triples_made}
use Rattle.ff_problem.proofs.cases.few_triples.Goals as goal

pub returns-clause-made : goal.returns-clause-made
returns-clause-made c = triples_made _ _ _ _ c.requires.cells c.requires.pairs c.triples.ensures.made c.triples.ensures.few

pub returns-clause-refused : goal.returns-clause-refused
returns-clause-refused c = IfErr-weaker _ _ _ (λ n. no_triples _ _ _ n c.requires.cells.few_cells
    (no_more_pairs _ _ c.requires.pairs.are.sorted (c.requires.pairs.are.overlap _ c.requires.cells.sets) c.requires.pairs.few) c.requires.cells.sets) c.triples.ensures.refused

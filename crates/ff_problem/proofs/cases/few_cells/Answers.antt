use Rattle.ff_problem.proofs.Steps.{cells_made}
use Rattle.ff_problem.proofs.cases.few_cells.Goals as goal

pub returns-clause-made : goal.returns-clause-made
returns-clause-made c = cells_made c.args.pattern.now _ _ _ c.requires c.cells.ensures.counted c.cells.ensures.face_sets c.cells.ensures.face_lists

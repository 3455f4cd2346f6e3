use Rattle.ff_solver.proofs.Copies.{place_is}
use Rattle.ff_solver.proofs.copying.place_of.Goals as goal

pub returns : goal.returns
returns c = rw c.ok.ensures.value (place_is c.args.part.now c.args.var c.binary_search.result c.requires.rising c.binary_search.ensures.position)

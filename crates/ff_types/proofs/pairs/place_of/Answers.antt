use Rattle.ff_types.proofs.SortedPairs.{found}
use Rattle.ff_types.proofs.pairs.place_of.Goals as goal

pub returns : goal.returns
returns c = rw c.ok.ensures.value (found c.args.list.now c.args.pair c.binary_search.result c.requires.sorted c.binary_search.ensures.bound c.binary_search.ensures.position)

use Rattle.ff_pages.proofs.Bordering.{found_among}
use Rattle.ff_pages.proofs.rims.is_of.Goals as goal

pub returns : goal.returns
returns c = rw c.is_ok.ensures.value (found_among c.args.part.now c.args.var c.binary_search.result c.requires.rising c.binary_search.ensures.position)

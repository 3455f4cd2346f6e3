use Rattle.ff_crossings.proofs.Triples.{triples_suffice_holds}
use Rattle.ff_crossings.proofs.listings.triples_suffice.Goals as goal

pub returns : goal.returns
returns c = λ above faces one. triples_suffice_holds above faces one

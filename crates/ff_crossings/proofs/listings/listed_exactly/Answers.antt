use Rattle.ff_crossings.proofs.ListedFaces.{listed_exactly_holds}
use Rattle.ff_crossings.proofs.listings.listed_exactly.Goals as goal

pub returns : goal.returns
returns c = λ above faces one. listed_exactly_holds above faces one

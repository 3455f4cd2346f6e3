use Rattle.ff_crossings.proofs.ListedFaces.{part_listed}
use Rattle.ff_crossings.proofs.listings.parts_are_listed.Goals as goal

pub returns : goal.returns
returns c = λ above faces part sub listed. part_listed above faces part sub listed

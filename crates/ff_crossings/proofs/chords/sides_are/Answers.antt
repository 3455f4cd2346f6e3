use Rattle.ff_crossings.proofs.ChordLists as lists
use Rattle.ff_crossings.proofs.chords.sides_are.Goals as goal

pub returns : goal.returns
returns c = λ g e f s. lists.sides_are g e s f

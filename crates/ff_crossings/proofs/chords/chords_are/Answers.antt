use Rattle.ff_crossings.proofs.ChordLists as lists
use Rattle.ff_crossings.proofs.chords.chords_are.Goals as goal

pub returns : goal.returns
returns c = λ g e s d. lists.chords_are g e s d

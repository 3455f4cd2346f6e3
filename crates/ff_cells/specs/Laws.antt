-- That slab cells are counted one way only.
use Rattle.std.specs.Prelude.{◌≤◌, List, length}
use Rattle.ff_whole.specs.declared.places.Place.{Place}
use Rattle.ff_types.specs.declared.patterns.Pattern.{Pattern}
use Rattle.ff_types.specs.declared.faces.Faces.{Faces}
use Rattle.ff_types.specs.declared.faces.Folded.{Folded}
use Rattle.ff_types.specs.declared.refusals.No.TheVariants.{Refused}
use Rattle.ff_types.specs.declared.refusals.Refusal.{Refusal}
use Rattle.ff_types.specs.FoldedPatterns.{IsFoldedPattern}
use Rattle.ff_types.specs.Sheets.{Sheet, sheet_of}
use Rattle.ff_types.specs.declared.limits.TheConstants.{MOST_CELLS, MOST_ENTRIES}
use Rattle.ff_cells.specs.SlabCells.{StandInCells, AreOneEach, entries, WhyNoCells}

-- No list of places in different slab cells is longer, or has more entries, than one with a place in each.
abbrev pub AreCounted : Sheet → Type 0
AreCounted g = (places others : List Place) → AreOneEach g places → StandInCells g others
    → (length others ≤ length places) × (entries g others ≤ entries g places)

-- so it is of every folded sheet
abbrev pub CellsAreCounted : Type 0
CellsAreCounted = (pattern : Pattern) (faces : Faces) (folded : Folded) → IsFoldedPattern pattern faces folded
    → AreCounted (sheet_of pattern faces folded)

-- What has its slab cells and entries within the limits isn't refused.
abbrev pub AreNotRefused : Sheet → Type 0
AreNotRefused g = (places : List Place) → AreOneEach g places → length places ≤ MOST_CELLS
    → entries g places ≤ MOST_ENTRIES → (r : Refusal) → WhyNoCells g (Refused r) → ⊥

-- so it is of every folded sheet
abbrev pub GivenOrRefused : Type 0
GivenOrRefused = (pattern : Pattern) (faces : Faces) (folded : Folded) → IsFoldedPattern pattern faces folded
    → AreNotRefused (sheet_of pattern faces folded)

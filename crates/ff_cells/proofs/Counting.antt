-- The laws of slab cells, of folded patterns.
use Rattle.std.proofs.Common.{◌≤◌, List, length, arith, inl, inr}
use Rattle.ff_whole.specs.declared.places.Place.{Place}
use Rattle.ff_types.specs.declared.patterns.Pattern.{Pattern}
use Rattle.ff_types.specs.declared.faces.Faces.{Faces as FacesRow}
use Rattle.ff_types.specs.declared.faces.Folded.{Folded}
use Rattle.ff_types.specs.declared.refusals.No.TheVariants.{Refused}
use Rattle.ff_types.specs.declared.refusals.Refusal.{Refusal}
use Rattle.ff_types.specs.FoldedPatterns.{IsFoldedPattern}
use Rattle.ff_types.specs.Sheets.{Sheet, sheet_of}
use Rattle.ff_types.specs.declared.limits.TheConstants.{MOST_CELLS, MOST_ENTRIES}
use Rattle.ff_cells.specs.SlabCells.{StandInCells, AreOneEach, entries, WhyNoCells}
use Rattle.ff_cells.proofs.Drawn.{drawn}
use Rattle.ff_cells.proofs.BarsThere.{bars_there}
use Rattle.ff_cells.proofs.OneCount.{no_more}

module _ {pattern : Pattern} {faces : FacesRow} {folded : Folded} (h : IsFoldedPattern pattern faces folded)
  where
    abbrev g : Sheet
    g = sheet_of pattern faces folded

    pub counted_once : (places others : List Place) → AreOneEach g places → StandInCells g others
        → (length others ≤ length places) × (entries g others ≤ entries g places)
    counted_once places others a s = let b = bars_there h in no_more (drawn h b.0 b.1) places others a s

    pub not_refused : (places : List Place) → AreOneEach g places → length places ≤ MOST_CELLS
        → entries g places ≤ MOST_ENTRIES → (r : Refusal) → WhyNoCells g (Refused r) → ⊥
    not_refused places a few short r (inl (is, (others, stand, many))) =
        let k = counted_once places others a stand in omega (arith, k.0, few, many)
    not_refused places a few short r (inr (is, (others, one_each, fits, many))) =
        let k = counted_once places others a one_each.stand in omega (arith, k.1, short, many)

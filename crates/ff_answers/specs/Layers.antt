-- That a folded sheet has the layers that its case is made of. This project's own.
use Rattle.std.specs.Prelude.{◌≡◌, ℕ, ◌<◌, ◌↔◌, List, slice_get, Some, IsTrue}
use Rattle.ff_whole.specs.declared.places.Place.{Place}
use Rattle.ff_tables.specs.declared.terms.Constraint.{Constraint}
use Rattle.ff_types.specs.declared.cites.Cite.{Cite}
use Rattle.ff_types.specs.Faces.{list_before}
use Rattle.ff_types.specs.Pairs.{AreSorted}
use Rattle.ff_types.specs.Sheets.{Sheet}
use Rattle.ff_types.specs.Inside.{Overlap}
use Rattle.ff_types.specs.Cites.{Holds, Witnessed}
use Rattle.ff_types.specs.Cases.{key, IsConstraintOf}
use Rattle.ff_cells.specs.SlabCells.{AreOneEach}

-- it can't be that no list has one place in each slab cell
abbrev pub HasCells : Sheet → Type 0
HasCells g = ((places : List Place) → AreOneEach g places → ⊥) → ⊥

-- all overlapping pairs, in order
pub record AreAllPairs (g : Sheet) (pairs : List (ℕ × ℕ)) : Type 0 where
  pub sorted : AreSorted pairs
  pub are : (f h : ℕ) → f < h → Overlap g f h ↔ ((n : ℕ) × (slice_get pairs n ≡ Some (f, h)))

-- it can't be that no list is of all of them
abbrev pub HasPairs : Sheet → Type 0
HasPairs g = ((pairs : List (ℕ × ℕ)) → AreAllPairs g pairs → ⊥) → ⊥

-- cites with places that witness them, one for each constraint that holds, in order
pub record AreAllCites (g : Sheet) (cites : List Cite) : Type 0 where
  pub witnessed : (n : ℕ) (c : Cite) → slice_get cites n ≡ Some c → Witnessed g c
  pub complete : (c : Cite) → Holds g c → (n : ℕ) × (d : Cite) × (slice_get cites n ≡ Some d) × (key d ≡ key c)
  pub sorted : (m n : ℕ) (c d : Cite) → m < n → slice_get cites m ≡ Some c → slice_get cites n ≡ Some d
      → IsTrue (list_before (key c) (key d))

-- it can't be that no list is so
abbrev pub HasCites : Sheet → Type 0
HasCites g = ((cites : List Cite) → AreAllCites g cites → ⊥) → ⊥

-- each constraint that holds has its terms among all overlapping pairs
abbrev pub HasConstraints : Sheet → Type 0
HasConstraints g = (pairs : List (ℕ × ℕ)) → AreAllPairs g pairs → (c : Cite) → Holds g c
    → (con : Constraint) × IsConstraintOf g pairs c con

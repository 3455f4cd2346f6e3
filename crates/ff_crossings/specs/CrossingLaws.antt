-- The rows of the constraints that hold say exactly that no paper crosses. Flat-Folder's families of
-- constraints; that they suffice at each border place is this project's own.
use Rattle.std.specs.Prelude.{ℕ, ◌↔◌, Bool}
use Rattle.ff_types.specs.declared.cites.Cite.{Cite}
use Rattle.ff_types.specs.Sheets.{Sheet}
use Rattle.ff_types.specs.Stackings.{OrdersOverlaps}
use Rattle.ff_types.specs.Crossings.{IsGeometricStacking}
use Rattle.ff_types.specs.Cites.{Holds, Witnessed}
use Rattle.ff_types.specs.Terms.{HasItsRow}

-- every constraint that holds has a row in these pairs
abbrev pub HasAllRows : Sheet → (ℕ → ℕ → Bool) → Type 0
HasAllRows g above = (c : Cite) → Holds g c → HasItsRow g above c

-- where no paper crosses, every constraint that holds has a row
abbrev pub CitesGiveRows : Sheet → Type 0
CitesGiveRows g = (above : ℕ → ℕ → Bool) → IsGeometricStacking g above → HasAllRows g above

-- where every constraint that holds has a row, no paper crosses
abbrev pub RowsGiveStackings : Sheet → Type 0
RowsGiveStackings g = (above : ℕ → ℕ → Bool) → OrdersOverlaps g above → HasAllRows g above
    → IsGeometricStacking g above

-- both together
abbrev pub RowsAreGeometry : Sheet → Type 0
RowsAreGeometry g = (above : ℕ → ℕ → Bool)
    → IsGeometricStacking g above ↔ (OrdersOverlaps g above × HasAllRows g above)

-- and what the places of a cite witness has a row where no paper crosses
abbrev pub WitnessedGiveRows : Sheet → Type 0
WitnessedGiveRows g = (above : ℕ → ℕ → Bool) → IsGeometricStacking g above → (c : Cite) → Witnessed g c
    → HasItsRow g above c

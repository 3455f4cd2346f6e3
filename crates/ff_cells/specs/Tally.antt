-- The cells found so far, counted up to one past a limit.
use Rattle.std.specs.Prelude.{ℕ, ◌≡◌, ◌+◌, ◌≤◌, List, [], ◌∷◌, ◌++◌, length, nat_lt, if◌then◌else◌}
use Rattle.std.specs.List.{sum_by}
use Rattle.ff_types.specs.declared.limits.TheConstants.{MOST_CELLS, MOST_ENTRIES}
use Rattle.ff_cells.specs.declared.cell.Cell.{Cell}
use Rattle.ff_cells.specs.declared.found.Corners.{Corners}
use Rattle.ff_cells.specs.declared.found.Found.{Found}
use Rattle.ff_cells.specs.Merged.{firsts, AreNumbered}

-- the number, or one past the limit where it is greater
abbrev pub capped : ℕ → ℕ → ℕ
capped most n = if nat_lt most n then most + 1 else n

-- the faces of all cells, each as often as it is listed
abbrev pub entries_of : List Cell → ℕ
entries_of cells = sum_by (λ c. length c.faces) cells

-- these are all cells found, and the first of each set is kept
pub record IsTally (all : List Cell) (f : Found) : Type 0 where
  pub count : f.count ≡ capped MOST_CELLS (length all)
  pub entries : f.entries ≡ capped MOST_ENTRIES (entries_of all)
  pub kept : f.entries ≤ MOST_ENTRIES → f.cells.items ≡ firsts all
  pub numbered : AreNumbered f.cells.items f.places

-- these cells are found besides
abbrev pub Adds : Found → List Cell → Found → Type 0
Adds old more new = (all : List Cell) → IsTally all old → IsTally (all ++ more) new

-- no more cells than the limit are counted, as before
abbrev pub StaysFew : Found → Found → Type 0
StaysFew old new = old.count ≤ MOST_CELLS → new.count ≤ MOST_CELLS

-- the cell has these faces and these corners
abbrev pub IsCellOf : List ℕ → Corners → Cell → Type 0
IsCellOf faces at c = c ≡ record { faces = faces; at = at.first ∷ at.second ∷ at.third ∷ [] }

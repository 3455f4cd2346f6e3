-- What each case keeps, whatever its constraints mean. No struct that keeps this is named here.
use Rattle.std.specs.Prelude.{◌≡◌, ℕ, ◌-◌, ◌<◌, Bool, true, false, List, length, slice_get, slice_index_or, Some}
use Rattle.ff_tables.specs.declared.systems.System.{System}
use Rattle.ff_tables.specs.declared.givens.Given.{Given}
use Rattle.ff_tables.specs.declared.givens.GivenBy.{GivenBy}
use Rattle.ff_tables.specs.declared.givens.GivenBy.TheVariants.{Crease, Pin}
use Rattle.ff_tables.specs.declared.orders.Order.TheVariants.{Below}
use Rattle.ff_types.specs.declared.cites.Cite.{Cite}

-- given by a crease
abbrev pub is_crease : GivenBy → Bool
is_crease (Crease e) = true
is_crease Pin = false

-- what the fields of every case say together, whatever sheet it is of
pub record AreCaseFields (system : System) (cites : List Cite) (pairs : List (ℕ × ℕ))
    (starts : List Given) : Type 0 where
  -- one cite per constraint, one pair per variable
  pub cited : length cites ≡ length system.constraints
  pub paired : length pairs ≡ system.vars
  -- each start is of a variable, and by a crease
  pub fit : (i : ℕ) (g : Given) → slice_get starts i ≡ Some g → g.var < system.vars
  pub by_creases : (i : ℕ) (g : Given) → slice_get starts i ≡ Some g → is_crease g.by ≡ true
  -- in order of the creases' numbers
  pub rising : (i j : ℕ) (g h : Given) (d e : ℕ) → i < j → slice_get starts i ≡ Some g
      → slice_get starts j ≡ Some h → g.by ≡ Crease d → h.by ≡ Crease e → d < e

-- the number of the crease's edge; of no meaning for a pin
abbrev pub edge_of : GivenBy → ℕ
edge_of (Crease e) = e
edge_of Pin = 0

-- the start at a place, which is to be below the length
abbrev pub start_at : List Given → ℕ → Given
start_at starts n = slice_index_or starts n (record { var = 0; value = Below; by = Pin })

-- the start at a place is of a variable, by a crease, and comes after the start before
pub record IsNextStart (vars : ℕ) (starts : List Given) (n : ℕ) : Type 0 where
  pub fits : (start_at starts n).var < vars
  pub by_crease : is_crease (start_at starts n).by ≡ true
  pub after : 0 < n → edge_of (start_at starts (n - 1)).by < edge_of (start_at starts n).by

-- so it is at every place
pub record AreStarts (vars : ℕ) (starts : List Given) : Type 0 where
  pub each : (n : ℕ) → n < length starts → IsNextStart vars starts n

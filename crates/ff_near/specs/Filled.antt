-- Values that are written into one list.
-- For the proofs of this crate alone.
use Rattle.std.specs.Prelude.{◌≡◌, ℕ, ◌<◌, List, length, slice_index_or, Option, Some}
use Rattle.ff_tables.specs.declared.orders.Order.{Order}
use Rattle.ff_tables.specs.declared.orders.Order.TheVariants.{Below}

-- the list has each value that is known
abbrev pub HasValues : (ℕ → Option Order) → List Order → Type 0
HasValues known values = (v : ℕ) (s : Order) → v < length values → known v ≡ Some s → slice_index_or values v Below ≡ s

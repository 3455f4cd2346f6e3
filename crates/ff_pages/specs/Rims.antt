-- What a part borders on.
-- For the proofs of this crate alone.
use Rattle.std.specs.Prelude.{◌≡◌, ℕ, ◌<◌, List, length, slice_index, Option, Contains}
use Rattle.ff_tables.specs.declared.orders.Order.{Order}
use Rattle.ff_tables.specs.declared.terms.Constraint.{Constraint}
use Rattle.ff_tables.specs.Orders.{term_at}

-- each number of the list is greater than the one before
abbrev pub IsRising : List ℕ → Type 0
IsRising list = (i j : ℕ) → i < j → j < length list → slice_index list i < slice_index list j

-- the first n terms that aren't of the part have the same values
abbrev pub HasSameRim : (ℕ → Option Order) → (ℕ → Option Order) → List ℕ → Constraint → ℕ → Type 0
HasSameRim f g part con n = (j : ℕ) → j < n → (Contains part (term_at con.terms j).var → ⊥) → f (term_at con.terms j).var ≡ g (term_at con.terms j).var

-- What was found of the terms of a constraint.
-- For the proofs of this crate alone.
use Rattle.std.specs.Prelude.{ℕ, ◌==◌, List, [], ◌∷◌, slice_index_or, Option, None, if◌then◌else◌}
use Rattle.ff_tables.specs.declared.orders.Order.{Order}
use Rattle.ff_tables.specs.declared.terms.Term.{Term}

-- what stands at a place
abbrev pub value_in : List (Option Order) → ℕ → Option Order
value_in xs j = slice_index_or xs j None

-- what was found of a variable
abbrev pub found_at : List Term → List (Option Order) → ℕ → Option Order
found_at [] xs v = None
found_at (t ∷ ts) [] v = None
found_at (t ∷ ts) (x ∷ xs) v = if t.var == v then x else found_at ts xs v

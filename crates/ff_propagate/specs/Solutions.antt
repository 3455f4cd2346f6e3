-- The solutions of a part, as a whole list. A filter where the code has a search.
use Rattle.std.specs.Prelude.{ℕ, ◌==◌, Bool, List, ◌∷◌, filter, length, Option, Some, if◌then◌else◌}
use Rattle.std.specs.List.{list_all, list_any}
use Rattle.ff_tables.specs.declared.orders.Order.{Order}
use Rattle.ff_tables.specs.declared.terms.Constraint.{Constraint}
use Rattle.ff_tables.specs.Rows.{rows_of, all_lists}
use Rattle.ff_tables.specs.Forces.{agrees_below}

-- the values of the part's variables, and else what the closure has
abbrev pub joint : (ℕ → Option Order) → List ℕ → List Order → ℕ → Option Order
joint value (u ∷ vars) (s ∷ values) v = if u == v then Some s else joint value vars values v
joint value _ _ v = value v

-- the constraint has a row that agrees with what is known
abbrev pub has_row : (ℕ → Option Order) → Constraint → Bool
has_row value con = list_any (agrees_below con.terms value (length con.terms)) (rows_of con.kind)

-- with these values of the part's variables, together with the closure, each constraint has a row that agrees
abbrev pub is_solution : List Constraint → (ℕ → Option Order) → List ℕ → List Order → Bool
is_solution cons value vars values = list_all (has_row (joint value vars values)) cons

-- all lists of values of the part's variables that are solutions, in lexicographic order with Below before
-- Above
abbrev pub solutions_of : List Constraint → (ℕ → Option Order) → List ℕ → List (List Order)
solutions_of cons value vars = filter (is_solution cons value vars) (all_lists (length vars))

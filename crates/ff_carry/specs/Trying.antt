-- Facts of lower levels, and one value that is tried.
-- For the proofs of this crate alone.
use Rattle.std.specs.Prelude.{◌≡◌, ℕ, ◌<◌, ◌==◌, List, length, slice_get, Option, Some, None, if◌then◌else◌, nat_lt}
use Rattle.ff_tables.specs.declared.orders.Order.{Order}
use Rattle.ff_tables.specs.declared.orders.Order.TheVariants.{Below, Above}
use Rattle.ff_tables.specs.declared.terms.Constraint.{Constraint}
use Rattle.ff_tables.specs.Orders.{term_at}
use Rattle.ff_propagate.specs.declared.facts.Fact.{Fact}
use Rattle.ff_propagate.specs.Facts.{fact_at}

-- the opposite order
abbrev pub other_of : Order → Order
other_of Below = Above
other_of Above = Below

-- the value of a fact with a level below k
abbrev pub value_below : ℕ → Option Fact → Option Order
value_below k None = None
value_below k (Some h) = if nat_lt h.level k then Some h.value else None

-- the values of the facts below a level, with the tried order at one variable
abbrev pub tried_at : List (Option Fact) → ℕ → ℕ → Order → ℕ → Option Order
tried_at fs k v s u = if u == v then Some s else value_below k (fact_at fs u)

-- the variable is one of the constraint's
abbrev pub HasTerm : Constraint → ℕ → Type 0
HasTerm con v = (p : ℕ) × (p < length con.terms) × ((term_at con.terms p).var ≡ v)

-- the variable has no fact with a level below k
abbrev pub IsOpenBelow : List (Option Fact) → ℕ → ℕ → Type 0
IsOpenBelow fs k v = (h : Fact) → fact_at fs v ≡ Some h → h.level < k → ⊥

-- Facts in a list, one item per variable.
use Rattle.std.specs.Prelude.{◌≡◌, ℕ, ◌<◌, List, slice_index_or, Option, Some, None}
use Rattle.ff_tables.specs.declared.orders.Order.{Order}
use Rattle.ff_propagate.specs.declared.facts.Fact.{Fact}

-- the fact of a variable, if it has one
abbrev pub fact_at : List (Option Fact) → ℕ → Option Fact
fact_at fs v = slice_index_or fs v None

-- the value that a fact gives
abbrev pub seen : Option Fact → Option Order
seen None = None
seen (Some h) = Some h.value

-- the value of a variable, if it has a fact
abbrev pub value_at : List (Option Fact) → ℕ → Option Order
value_at fs v = seen (fact_at fs v)

-- a fact of a level below k gives the variable v the value s
pub record IsKnownBelow (fs : List (Option Fact)) (k v : ℕ) (s : Order) : Type 0 where
  pub fact : Fact
  pub there : fact_at fs v ≡ Some fact
  pub lower : fact.level < k
  pub value : fact.value ≡ s

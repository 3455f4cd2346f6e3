-- Levels of facts.
-- For the proofs of this crate alone.
use Rattle.std.specs.Prelude.{◌≡◌, ℕ, ◌<◌, ◌≤◌, List, length, Option, Some}
use Rattle.ff_tables.specs.declared.terms.Term.{Term}
use Rattle.ff_tables.specs.Orders.{term_at}
use Rattle.ff_propagate.specs.declared.facts.Fact.{Fact}
use Rattle.ff_propagate.specs.Facts.{fact_at}

-- each level is at most n
abbrev pub AreLow : List (Option Fact) → ℕ → Type 0
AreLow fs n = (v : ℕ) (h : Fact) → fact_at fs v ≡ Some h → h.level ≤ n

-- the facts of the terms' variables have levels below k
abbrev pub IsOver : List (Option Fact) → List Term → ℕ → Type 0
IsOver fs ts k = (j : ℕ) (h : Fact) → j < length ts → fact_at fs (term_at ts j).var ≡ Some h → h.level < k

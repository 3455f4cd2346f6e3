-- Constraints that fit a system.
use Rattle.std.specs.Prelude.{◌≡◌, ℕ, ◌<◌, List, length, Option, Some, None}
use Rattle.ff_tables.specs.declared.terms.Constraint.{Constraint}
use Rattle.ff_tables.specs.declared.terms.Term.{Term}
use Rattle.ff_tables.specs.declared.systems.System.{System}
use Rattle.ff_tables.specs.Orders.{term_at}
use Rattle.ff_tables.specs.Systems.{AreFit}

-- the variables of all terms are below the number
abbrev pub AreWithin : ℕ → List Term → Type 0
AreWithin vars ts = (j : ℕ) → j < length ts → (term_at ts j).var < vars

-- no term before the i-th has its variable
abbrev pub DifferFrom : List Term → ℕ → Type 0
DifferFrom ts i = (j : ℕ) → j < i → (term_at ts i).var ≡ (term_at ts j).var → ⊥

-- no variable stands twice
abbrev pub AllDiffer : List Term → Type 0
AllDiffer ts = (i : ℕ) → i < length ts → DifferFrom ts i

-- the system of these constraints, exactly where they fit
abbrev pub IsSystemOf : ℕ → List Constraint → Option System → Type 0
IsSystemOf vars cons None = AreFit vars cons → ⊥
IsSystemOf vars cons (Some system) = (system.vars ≡ vars) × (system.constraints ≡ cons)

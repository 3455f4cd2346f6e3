-- A choice: one solution of each part, together with the closure. This project's own.
use Rattle.std.specs.Prelude.{◌≡◌, ℕ, ◌<◌, List, [], ◌∷◌, Option, Some, Contains}
use Rattle.ff_tables.specs.declared.orders.Order.{Order}
use Rattle.ff_tables.specs.declared.terms.Constraint.{Constraint}
use Rattle.ff_propagate.specs.Solutions.{joint, solutions_of}

-- one solution of each part
abbrev pub IsChoice : List Constraint → (ℕ → Option Order) → List (List ℕ) → List (List Order) → Type 0
IsChoice cons value [] [] = Unit {0}
IsChoice cons value (vars ∷ parts) (solution ∷ choice) = Contains (solutions_of cons value vars) solution
    × IsChoice cons value parts choice
IsChoice cons value _ _ = ⊥

-- the values of the closure and of the chosen solutions
abbrev pub value_of : (ℕ → Option Order) → List (List ℕ) → List (List Order) → ℕ → Option Order
value_of value (vars ∷ parts) (solution ∷ choice) = joint (value_of value parts choice) vars solution
value_of value _ _ = value

-- an assignment is that of the choice
abbrev pub IsAssignmentOf : ℕ → (ℕ → Option Order) → List (List ℕ) → List (List Order) → (ℕ → Order) → Type 0
IsAssignmentOf vars value parts choice values = (v : ℕ) → v < vars
    → value_of value parts choice v ≡ Some (values v)

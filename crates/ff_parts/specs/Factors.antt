-- Choices of one solution of each part, and the assignments that meet the constraints and hold the givens.
use Rattle.std.specs.Prelude.{◌≡◌, ℕ, List, [], Option, Some, Contains}
use Rattle.ff_tables.specs.declared.orders.Order.{Order}
use Rattle.ff_tables.specs.declared.terms.Constraint.{Constraint}
use Rattle.ff_tables.specs.declared.givens.Given.{Given}
use Rattle.ff_tables.specs.Forces.{Meets}
use Rattle.ff_propagate.specs.Closure.{HoldsGivens, Gives, Clashes, IsClosure}
use Rattle.ff_propagate.specs.Solutions.{solutions_of}
use Rattle.ff_propagate.specs.Choices.{IsChoice, IsAssignmentOf}

-- the assignment meets the constraints and holds the givens
pub record IsAllowed (cons : List Constraint) (gs : List Given) (a : ℕ → Order) : Type 0 where
  pub meets : Meets cons a
  pub holds : HoldsGivens gs (λ v. Some (a v))

-- an allowed assignment that is that of the choice
pub record HasAssignment (vars : ℕ) (cons : List Constraint) (gs : List Given) (value : ℕ → Option Order)
    (parts : List (List ℕ)) (choice : List (List Order)) : Type 0 where
  pub assignment : ℕ → Order
  pub of_choice : IsAssignmentOf vars value parts choice assignment
  pub allowed : IsAllowed cons gs assignment

-- a choice whose assignment it is
pub record HasChoice (vars : ℕ) (cons : List Constraint) (value : ℕ → Option Order) (parts : List (List ℕ))
    (a : ℕ → Order) : Type 0 where
  pub choice : List (List Order)
  pub is_choice : IsChoice cons value parts choice
  pub of_choice : IsAssignmentOf vars value parts choice a

-- Choices correspond one-to-one to allowed assignments: the assignment of each choice is allowed, each allowed assignment is that
-- of a choice, and two choices with one assignment are the same. Where a part has no solution no assignment is allowed.
pub record Factors (vars : ℕ) (cons : List Constraint) (gs : List Given) (value : ℕ → Option Order)
    (parts : List (List ℕ)) : Type 0 where
  pub to_assignment : (choice : List (List Order)) → IsChoice cons value parts choice
      → HasAssignment vars cons gs value parts choice
  pub to_choice : (a : ℕ → Order) → IsAllowed cons gs a → HasChoice vars cons value parts a
  pub one_choice : (a : ℕ → Order) (c d : List (List Order)) → IsChoice cons value parts c
      → IsChoice cons value parts d → IsAssignmentOf vars value parts c a
      → IsAssignmentOf vars value parts d a → c ≡ d
  pub none : (part : List ℕ) → Contains parts part → solutions_of cons value part ≡ [] → (a : ℕ → Order)
      → IsAllowed cons gs a → ⊥

-- for whichever givens the values are the closure
abbrev pub FactorsFor : ℕ → List Constraint → (ℕ → Option Order) → List (List ℕ) → Type 0
FactorsFor vars cons value parts = (gs : List Given) → IsClosure cons (Gives gs) value
    → Factors vars cons gs value parts

-- where the closure of the givens clashes no assignment is allowed
abbrev pub ClashAllowsNone : Type 0
ClashAllowsNone = (cons : List Constraint) (gs : List Given) (a : ℕ → Order) → Clashes cons (Gives gs)
    → IsAllowed cons gs a → ⊥

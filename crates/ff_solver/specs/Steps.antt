-- Refutations by steps: values that constraints force, and values that are tried. This project's own.
use Rattle.std.specs.Prelude.{◌≡◌, ℕ, ◌<◌, ◌⊎◌, List, [], ◌∷◌, slice_get, Option, Some, Contains}
use Rattle.ff_tables.specs.declared.orders.Order.{Order}
use Rattle.ff_tables.specs.declared.orders.Order.TheVariants.{Below, Above}
use Rattle.ff_tables.specs.declared.terms.Constraint.{Constraint}
use Rattle.ff_tables.specs.Forces.{Forces, NoneAgrees}
use Rattle.ff_solver.specs.declared.steps.Step.{Step}
use Rattle.ff_solver.specs.declared.steps.Step.TheVariants as step

-- what a board has, and what came to hold since
abbrev pub knows : (ℕ → Option Order) → List (ℕ × Order) → ℕ → Order → Type 0
knows value held v s = (value v ≡ Some s) ⊎ Contains held (v, s)

-- The constraint with this number forces the value from what is known.
pub record IsForcedBy (cons : List Constraint) (known : ℕ → Order → Type 0) (number v : ℕ) (s : Order) : Type 0 where
  pub constraint : Constraint
  pub there : slice_get cons number ≡ Some constraint
  pub forces : Forces constraint.kind constraint.terms known v s

-- No row of the constraint with this number agrees with what is known.
pub record IsDeadBy (cons : List Constraint) (known : ℕ → Order → Type 0) (number : ℕ) : Type 0 where
  pub constraint : Constraint
  pub there : slice_get cons number ≡ Some constraint
  pub none : NoneAgrees constraint.kind constraint.terms known

-- The steps refute what holds: each is right by what is known, and the last one ends the refutation. The stack has, for each open
-- branch, what will hold once it closes.
abbrev pub Runs : ℕ → List Constraint → (ℕ → Option Order) → List (ℕ × Order) → List (List (ℕ × Order)) → List Step → Type 0
Runs vars cons value held stack [] = ⊥
Runs vars cons value held stack (step.Set v s number ∷ steps) = (v < vars)
    × IsForcedBy cons (knows value held) number v s
    × Runs vars cons value ((v, s) ∷ held) stack steps
Runs vars cons value held stack (step.Try v ∷ steps) = (v < vars)
    × Runs vars cons value ((v, Below) ∷ held) (((v, Above) ∷ held) ∷ stack) steps
Runs vars cons value held [] (step.Dead number ∷ steps) = IsDeadBy cons (knows value held) number × (steps ≡ [])
Runs vars cons value held (then ∷ stack) (step.Dead number ∷ steps) = IsDeadBy cons (knows value held) number
    × Runs vars cons value then stack steps

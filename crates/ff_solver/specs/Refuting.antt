-- A refutation as it is made.
-- For the proofs of this crate alone.
use Rattle.std.specs.Prelude.{◌≡◌, ℕ, ◌<◌, List, [], ◌∷◌, ◌++◌, length, reverse, slice_index, Option, Some, None, Contains}
use Rattle.ff_tables.specs.declared.orders.Order.{Order}
use Rattle.ff_tables.specs.declared.orders.Order.TheVariants.{Above}
use Rattle.ff_tables.specs.declared.terms.Constraint.{Constraint}
use Rattle.ff_propagate.specs.declared.trail.Trail.{Trail}
use Rattle.ff_propagate.specs.Trails.{known, step_at, cut}
use Rattle.ff_propagate.specs.Trees.{found}
use Rattle.ff_solver.specs.declared.path.Path.{Path}
use Rattle.ff_solver.specs.declared.refuting.Naming.{Naming}
use Rattle.ff_solver.specs.declared.steps.Step.{Step}
use Rattle.ff_solver.specs.Copies.{AreCopied}
use Rattle.ff_solver.specs.Paths.{AreLeft, Nodes}
use Rattle.ff_solver.specs.Steps.{knows, Runs}

-- the own constraints are copies of the case's with these numbers, by these names
pub record IsNaming (n : Naming) : Type 0 where
  pub part : List ℕ
  pub copied : AreCopied n.case.now.system.constraints n.numbers.now part n.names.now n.own.now.constraints (length n.numbers.now)
  pub vars_are : n.own.now.vars ≡ length n.names.now

-- the own variables at these places name variables of the case
pub record ArePlaces (n : Naming) : Type 0 where
  pub within : (j : ℕ) → j < length n.places.now → slice_index n.places.now j < n.own.now.vars
  pub names : (j : ℕ) → j < length n.places.now → slice_index n.names.now (slice_index n.places.now j) < n.case.now.system.vars

-- where steps refute what holds, those so far followed by them refute what the board has
abbrev pub Leads : Naming → (ℕ → Option Order) → List (ℕ × Order) → List (List (ℕ × Order)) → List Step → Type 0
Leads n value held stack steps = (rest : List Step) → Runs n.case.now.system.vars n.case.now.system.constraints value held stack rest
    → Runs n.case.now.system.vars n.case.now.system.constraints value [] [] (steps ++ rest)

-- the values of own variables are known of what they name
abbrev pub Told : List ℕ → (ℕ → Option Order) → List (ℕ × Order) → (ℕ → Option Order) → Type 0
Told names value held f = (u : ℕ) (s : Order) → f u ≡ Some s → knows value held (slice_index names u) s

-- the steps so far tell what was known when the trail had i steps
pub record IsNoted (n : Naming) (value : ℕ → Option Order) (t : Trail) (stack : List (List (ℕ × Order))) (steps : List Step) (i : ℕ)
    : Type 0 where
  pub held : List (ℕ × Order)
  pub leads : Leads n value held stack steps
  pub told : Told n.names.now value held (cut t i)

-- what will hold once the branch at the mark closes
pub record IsStacked (names : List ℕ) (value : ℕ → Option Order) (t : Trail) (m : ℕ) (then : List (ℕ × Order)) : Type 0 where
  pub told : Told names value then (cut t m)
  pub other : Contains then (slice_index names (step_at t m).var, Above)

-- so it is for each branch that is left, the last first
abbrev pub AreStacked : List ℕ → (ℕ → Option Order) → Trail → List ℕ → List (List (ℕ × Order)) → Type 0
AreStacked names value t [] [] = Unit {0}
AreStacked names value t (m ∷ marks) (then ∷ stack) = IsStacked names value t m then × AreStacked names value t marks stack
AreStacked names value t _ _ = ⊥

-- the steps so far tell what is known at the present node and at the branches that are left
pub record IsDown (n : Naming) (value : ℕ → Option Order) (p : Path) (steps : List Step) : Type 0 where
  pub stack : List (List (ℕ × Order))
  pub noted : IsNoted n value p.trail stack steps (length p.trail.steps.items)
  pub stacked : AreStacked n.names.now value p.trail (reverse p.branches.items) stack

-- the refutation stands at the next node, or has ended
abbrev pub IsAt : Naming → (ℕ → Option Order) → Path → Option ℕ → List Step → Type 0
IsAt n value p None steps = Runs n.case.now.system.vars n.case.now.system.constraints value [] [] steps
IsAt n value p (Some head) steps = IsDown n value p steps

-- none of the nodes that are left is a solution
pub record HasNoSolution (own : List Constraint) (places : List ℕ) (p : Path) : Type 0 where
  pub own_value : ℕ → Option Order
  pub nodes : Nodes
  pub left : AreLeft own own_value places p p.next nodes
  pub none : found nodes ≡ []

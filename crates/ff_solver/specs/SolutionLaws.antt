-- What the nodes of a decision tree tell of solutions.
use Rattle.std.specs.Prelude.{◌≡◌, ℕ, true, List, length, Option}
use Rattle.ff_tables.specs.declared.orders.Order.{Order}
use Rattle.ff_tables.specs.declared.terms.Constraint.{Constraint}
use Rattle.ff_tables.specs.Systems.{AreFit}
use Rattle.ff_tables.specs.Forces.{Knows}
use Rattle.ff_propagate.specs.declared.facts.Fact.{Fact}
use Rattle.ff_propagate.specs.Boards.{IsBoardOf}
use Rattle.ff_propagate.specs.Facts.{value_at}
use Rattle.ff_propagate.specs.Parts.{IsPart}
use Rattle.ff_propagate.specs.Solutions.{is_solution}
use Rattle.ff_propagate.specs.Trees.{IsClashNode, HasValues}

-- A list of the part's length that passes the test of its solutions.
pub record IsSolutionOf (cons : List Constraint) (value : ℕ → Option Order) (part : List ℕ) (values : List Order)
    : Type 0 where
  pub as_many : length values ≡ length part
  pub passes : is_solution cons value part values ≡ true

-- Where the closure of a board and of the values that were tried doesn't clash and decides all of a part, what it decides is a
-- solution of the part.
abbrev pub DecidedNodesAreSolutions : Type 0
DecidedNodesAreSolutions = (vars : ℕ) (cons : List Constraint) (facts : List (Option Fact)) (part : List ℕ)
    (tried : List (ℕ × Order)) (values : List Order) → AreFit vars cons → IsBoardOf vars cons facts
    → IsPart vars cons (value_at facts) part → (IsClashNode cons (Knows (value_at facts)) tried → ⊥)
    → HasValues cons (Knows (value_at facts)) tried part values → IsSolutionOf cons (value_at facts) part values

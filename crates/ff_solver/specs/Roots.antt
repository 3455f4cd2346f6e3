-- A part's own system at the root of the part's decision tree.
-- For the proofs of this crate alone.
use Rattle.std.specs.Prelude.{◌≡◌, ℕ, ◌<◌, ◌^◌, List, [], length, Option, Some}
use Rattle.ff_tables.specs.declared.orders.Order.{Order}
use Rattle.ff_tables.specs.declared.terms.Constraint.{Constraint}
use Rattle.ff_tables.specs.declared.systems.System.{System}
use Rattle.ff_propagate.specs.declared.facts.Fact.{Fact}
use Rattle.ff_propagate.specs.declared.uses.Uses.{Uses}
use Rattle.ff_propagate.specs.Facts.{value_at}
use Rattle.ff_propagate.specs.Trails.{known}
use Rattle.ff_propagate.specs.Uses.{AreUses}
use Rattle.ff_solver.specs.declared.path.Path.{Path}
use Rattle.ff_solver.specs.Copies.{AreOwn, AreCopied, AreOwnNumbers}
use Rattle.ff_solver.specs.Paths.{IsPath}

-- The system's constraints are copies of those with these numbers, which are all that touch the part, by these names. Its values
-- are the board's, and the way down the tree has no step yet.
pub record IsRoot (cons : List Constraint) (fs : List (Option Fact)) (part touching names : List ℕ) (system : System) (places : List ℕ)
    (uses : Uses) (path : Path) : Type 0 where
  pub few : length system.constraints < 2 ^ 32
  pub vars_are : system.vars ≡ length names
  pub own_value : ℕ → Option Order
  pub own : AreOwn cons system.constraints (value_at fs) own_value part names
  pub known_is : (v : ℕ) → known path.trail v ≡ own_value v
  pub copied : AreCopied cons touching part names system.constraints (length touching)
  pub places_are : AreOwnNumbers places (length part)
  pub uses_are : AreUses system.vars system.constraints uses
  pub is_path : IsPath system.vars system.constraints path
  pub next : path.next ≡ Some 0
  pub branches : path.branches.items ≡ []
  pub none : path.trail.steps.items ≡ []

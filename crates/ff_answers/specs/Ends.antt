-- That each system with givens comes to a clash, or to a closure with parts and their decision trees. This project's own.
use Rattle.std.specs.Prelude.{◌≡◌, ℕ, ◌<◌, List, length, slice_get, Option, Some}
use Rattle.ff_tables.specs.declared.systems.System.{System}
use Rattle.ff_tables.specs.declared.givens.Given.{Given}
use Rattle.ff_tables.specs.declared.terms.Constraint.{Constraint}
use Rattle.ff_propagate.specs.declared.facts.Fact.{Fact}
use Rattle.ff_propagate.specs.declared.parts.Part.{Part}
use Rattle.ff_propagate.specs.Facts.{value_at}
use Rattle.ff_propagate.specs.Closure.{Clashes, IsClosure, Gives}
use Rattle.ff_propagate.specs.Parts.{AreParts, AreTouching}
use Rattle.ff_propagate.specs.Trees.{Tree, IsTree}
use Rattle.ff_parts.specs.Lists.{vars_of}
use Rattle.ff_parts.specs.Factors.{Factors}

-- each given is of a variable
abbrev pub AreOfVariables : ℕ → List Given → Type 0
AreOfVariables vars gs = (i : ℕ) (g : Given) → slice_get gs i ≡ Some g → g.var < vars

-- The facts are the closure, with its parts, and each part has the constraints that touch it and its decision tree.
pub record HasEnds (vars : ℕ) (cons : List Constraint) (gs : List Given) (facts : List (Option Fact))
    (parts : List Part) : Type 0 where
  pub wide : length facts ≡ vars
  pub closure : IsClosure cons (Gives gs) (value_at facts)
  pub parts_are : AreParts vars cons (value_at facts) (vars_of parts)
  pub touching : (k : ℕ) (part : Part) → slice_get parts k ≡ Some part → AreTouching cons part.vars part.touching
  pub factors : Factors vars cons gs (value_at facts) (vars_of parts)
  pub trees : (k : ℕ) (part : Part) → slice_get parts k ≡ Some part → (tree : Tree) × IsTree cons (value_at facts) part.vars tree

-- It can't be that the closure of the givens doesn't clash and has no parts.
abbrev pub EachSystemEnds : Type 0
EachSystemEnds = (system : System) (gs : List Given) → AreOfVariables system.vars gs → (Clashes system.constraints (Gives gs) → ⊥)
    → ((facts : List (Option Fact)) (parts : List Part) → HasEnds system.vars system.constraints gs facts parts → ⊥) → ⊥

-- Each system with givens comes to a clash, or to a closure with parts and their decision trees.
use Rattle.std.proofs.Common.{◌≡◌, ℕ, List, length, slice_get, Option, Some}
use Rattle.ff_tables.specs.declared.terms.Constraint.{Constraint}
use Rattle.ff_tables.specs.declared.givens.Given.{Given}
use Rattle.ff_tables.specs.Systems.{AreFit}
use Rattle.ff_propagate.specs.declared.facts.Fact.{Fact}
use Rattle.ff_propagate.specs.declared.parts.Part.{Part}
use Rattle.ff_propagate.specs.Facts.{value_at}
use Rattle.ff_propagate.specs.Closure.{IsClosure, Gives}
use Rattle.ff_propagate.specs.Parts.{AreParts, AreTouching}
use Rattle.ff_parts.specs.Lists.{vars_of}
use Rattle.ff_parts.proofs.Factoring.{parts_factor}
use Rattle.ff_parts.proofs.Classes.{part_at}
use Rattle.ff_solver.proofs.Existing.{tree_of}
use Rattle.ff_answers.specs.Ends.{HasEnds, EachSystemEnds}
use Rattle.ff_answers.proofs.Closures.{some_facts}
use Rattle.ff_answers.proofs.Classes.{some_parts}

ends : (vars : ℕ) (cons : List Constraint) → AreFit vars cons
    → (gs : List Given) (facts : List (Option Fact)) (parts : List Part) → length facts ≡ vars
    → IsClosure cons (Gives gs) (value_at facts) → AreParts vars cons (value_at facts) (vars_of parts)
    → ((k : ℕ) (part : Part) → slice_get parts k ≡ Some part → AreTouching cons part.vars part.touching)
    → HasEnds vars cons gs facts parts
ends vars cons fit gs facts parts wide closure are touching = record {
  wide = wide;
  closure = closure;
  parts_are = are;
  touching = touching;
  factors = parts_factor vars cons (value_at facts) (vars_of parts) fit are gs closure;
  trees = λ k part e. tree_of vars cons (value_at facts) fit part.vars
      (λ j l. ((are.each k part.vars (part_at parts k part e)).undecided j l).variable);
}

pub each_system_ends : EachSystemEnds
each_system_ends system gs of_vars none k = some_facts system.vars system.constraints system.fit gs of_vars none
    (λ facts wide closure. some_parts system.vars system.constraints (value_at facts)
    (λ parts are touching. k facts parts (ends system.vars system.constraints system.fit gs facts parts wide closure are touching)))

-- The facts that the steps of a trail tell.
-- For the proofs of this crate alone.
use Rattle.std.specs.Prelude.{◌≡◌, ℕ, List, length, Option, Some}
use Rattle.ff_tables.specs.declared.terms.Constraint.{Constraint}
use Rattle.ff_tables.specs.declared.givens.Given.{Given}
use Rattle.ff_propagate.specs.declared.facts.Fact.{Fact}
use Rattle.ff_propagate.specs.declared.trail.Trail.{Trail}
use Rattle.ff_propagate.specs.Facts.{fact_at, value_at}
use Rattle.ff_propagate.specs.FactRule.{StandsBy}
use Rattle.ff_propagate.specs.Levels.{AreLow}
use Rattle.ff_propagate.specs.Trails.{cut}

-- The facts stand by their reasons, have levels up to n, and are those of the first n steps and of what was known before them.
pub record AreTold (vars : ℕ) (cons : List Constraint) (gs : List Given) (t : Trail) (n : ℕ)
    (fs : List (Option Fact)) : Type 0 where
  pub wide : length fs ≡ vars
  pub rule : (v : ℕ) (h : Fact) → fact_at fs v ≡ Some h → StandsBy cons gs fs v h.value h.level h.reason
  pub low : AreLow fs n
  pub same : (v : ℕ) → value_at fs v ≡ cut t n v

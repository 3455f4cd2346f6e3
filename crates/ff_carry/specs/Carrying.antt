-- Facts that are carried to other givens, by level. This project's own.
use Rattle.std.specs.Prelude.{◌≡◌, ◌≢◌, ℕ, zero, suc, ◌+◌, ◌<◌, ◌≤◌, ◌⊎◌, ◌↔◌, List, length, slice_get, Option, Some, None}
use Rattle.ff_tables.specs.declared.orders.Order.{Order}
use Rattle.ff_tables.specs.declared.terms.Constraint.{Constraint}
use Rattle.ff_tables.specs.declared.givens.Given.{Given}
use Rattle.ff_tables.specs.Orders.{term_at}
use Rattle.ff_propagate.specs.declared.facts.Fact.{Fact}
use Rattle.ff_propagate.specs.declared.facts.Reason.{Reason}
use Rattle.ff_propagate.specs.declared.facts.Reason.TheVariants as by
use Rattle.ff_propagate.specs.Facts.{fact_at}
use Rattle.ff_propagate.specs.FactRule.{IsForcedBelow}

-- no given is of the variable
abbrev pub NoGiven : List Given → ℕ → Type 0
NoGiven gs v = (i : ℕ) (g : Given) → slice_get gs i ≡ Some g → g.var ≡ v → ⊥

-- g is the first given of the variable, the i-th
pub record IsFirstGiven (gs : List Given) (v i : ℕ) (g : Given) : Type 0 where
  pub there : slice_get gs i ≡ Some g
  pub variable : g.var ≡ v
  pub first : (j : ℕ) (k : Given) → j < i → slice_get gs j ≡ Some k → k.var ≡ v → ⊥

-- an old fact by a constraint that still forces its value, from the carried facts of lower levels
pub record IsKept (cons : List Constraint) (old new : List (Option Fact)) (v : ℕ) (h : Fact) : Type 0 where
  pub was : fact_at old v ≡ Some h
  pub number : ℕ
  pub by_constraint : h.reason ≡ by.Forced number
  pub still : IsForcedBelow cons new number h.level v h.value

-- The carried facts: for each variable with a given the fact of its first given, at level 0; of the other
-- variables exactly the old facts by constraints that still force their values, from carried facts of lower
-- levels, each with its value, level and reason.
pub record IsCarried (vars : ℕ) (cons : List Constraint) (gs : List Given) (old new : List (Option Fact)) : Type 0 where
  pub wide : length new ≡ vars
  pub given : (v i : ℕ) (g : Given) → IsFirstGiven gs v i g
      → fact_at new v ≡ Some (record { value = g.value; level = 0; reason = by.Given i })
  pub forced : (v : ℕ) (h : Fact) → NoGiven gs v → fact_at new v ≡ Some h ↔ IsKept cons old new v h

-- the chain of a fact of the level k, by its reason, reaches the d-th given: it is its reason, or the chain of a
-- fact of a lower level on a variable of its constraint reaches it
abbrev pub ReachesBy : List Constraint → List (Option Fact) → ℕ → (ℕ → Type 0) → ℕ → Reason → Type 0
ReachesBy cons old d deeper k (by.Given i) = i ≡ d
ReachesBy cons old d deeper k (by.Forced c) = (con : Constraint) × (slice_get cons c ≡ Some con)
    × (j : ℕ) × (j < length con.terms) × (g : Fact) × (fact_at old (term_at con.terms j).var ≡ Some g)
    × (g.level < k) × deeper (term_at con.terms j).var

-- within n steps, of which there are no more than levels
abbrev pub ReachesIn : List Constraint → List (Option Fact) → ℕ → ℕ → ℕ → Type 0
ReachesIn cons old d zero v = ⊥
ReachesIn cons old d (suc n) v = (h : Fact) × (fact_at old v ≡ Some h)
    × ReachesBy cons old d (ReachesIn cons old d n) h.level h.reason

-- the chain of the old fact h of the variable v
abbrev pub Reaches : List Constraint → List (Option Fact) → ℕ → ℕ → Fact → Type 0
Reaches cons old d v h = ReachesIn cons old d (h.level + 1) v

-- the new givens are the old ones without the d-th
pub record IsWithout (old_gs : List Given) (d : ℕ) (gs : List Given) : Type 0 where
  pub old_one : (i : ℕ) (g : Given) → slice_get gs i ≡ Some g → (j : ℕ) × (slice_get old_gs j ≡ Some g)
  pub stays : (j : ℕ) (g : Given) → j ≢ d → slice_get old_gs j ≡ Some g → (i : ℕ) × (slice_get gs i ≡ Some g)

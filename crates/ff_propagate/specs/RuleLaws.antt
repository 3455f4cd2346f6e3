-- What the fact rule implies.
use Rattle.std.specs.Prelude.{◌≡◌, ℕ, List, Option, Some}
use Rattle.ff_tables.specs.declared.orders.Order.{Order}
use Rattle.ff_tables.specs.declared.terms.Constraint.{Constraint}
use Rattle.ff_tables.specs.declared.givens.Given.{Given}
use Rattle.ff_propagate.specs.declared.facts.Fact.{Fact}
use Rattle.ff_propagate.specs.declared.facts.Reason.{Reason}
use Rattle.ff_propagate.specs.Facts.{fact_at}
use Rattle.ff_propagate.specs.Closure.{InClosure, Gives}
use Rattle.ff_propagate.specs.FactRule.{MeetsFactRule, StandsBy}

-- facts that meet the rule are in the closure of their givens
abbrev pub FactsAreInside : Type 0
FactsAreInside = (vars : ℕ) (cons : List Constraint) (gs : List Given) (fs : List (Option Fact))
    → MeetsFactRule vars cons gs fs
    → (v : ℕ) (h : Fact) → fact_at fs v ≡ Some h → InClosure cons (Gives gs) v h.value

-- the list has at least the facts of the other
abbrev pub HasFacts : List (Option Fact) → List (Option Fact) → Type 0
HasFacts more fs = (v : ℕ) (h : Fact) → fact_at fs v ≡ Some h → fact_at more v ≡ Some h

-- what stands by its reason among some facts stands so among more
abbrev pub FactsGrow : Type 0
FactsGrow = (cons : List Constraint) (gs : List Given) (fs more : List (Option Fact)) → HasFacts more fs
    → (v : ℕ) (s : Order) (k : ℕ) (r : Reason) → StandsBy cons gs fs v s k r → StandsBy cons gs more v s k r

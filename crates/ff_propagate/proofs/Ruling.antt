-- Facts that meet the fact rule are in the closure, by their levels.
use Rattle.std.proofs.Common.{IsTrue, ◌≡◌, ℕ, zero, suc, ◌<◌, List, Option, Some, subst, arith}
use Rattle.ff_tables.specs.declared.terms.Constraint.{Constraint}
use Rattle.ff_tables.specs.Orders.{term_at}
use Rattle.ff_tables.specs.declared.givens.Given.{Given}
use Rattle.ff_tables.proofs.Agreeing.{forces_more}
use Rattle.ff_propagate.specs.declared.facts.Fact.{Fact}
use Rattle.ff_propagate.specs.declared.facts.Reason.{Reason}
use Rattle.ff_propagate.specs.declared.facts.Reason.TheVariants as by
use Rattle.ff_tables.specs.declared.orders.Order.{Order}
use Rattle.ff_propagate.specs.Facts.{fact_at, value_at, IsKnownBelow}
use Rattle.ff_propagate.specs.Closure.{InClosure, Gives}
use Rattle.ff_propagate.specs.FactRule.{MeetsFactRule, StandsBy}
use Rattle.ff_propagate.proofs.Lists.{seen_is}

-- a fact is in the closure where those of lower levels are
by_reason : (cons : List Constraint) (gs : List Given) (fs : List (Option Fact)) (v : ℕ) (h : Fact)
    → ((u : ℕ) (g : Fact) → g.level < h.level → fact_at fs u ≡ Some g → InClosure cons (Gives gs) u g.value)
    → (r : Reason) → StandsBy cons gs fs v h.value h.level r → InClosure cons (Gives gs) v h.value
by_reason cons gs fs v h lower (by.Given i) s set closed = closed.base_held v h.value (i, s.1)
by_reason cons gs fs v h lower (by.Forced c) s set closed = closed.forced_held c s.1.constraint v h.value s.1.there
    (forces_more s.1.constraint.kind s.1.constraint.terms (IsKnownBelow fs h.level) (λ u t. IsTrue (set u t)) v
    h.value
    (λ j t k q. subst (λ x. IsTrue (set (term_at s.1.constraint.terms j).var x)) q.value
    (lower (term_at s.1.constraint.terms j).var q.fact q.lower q.there set closed))
    s.1.forces)

pub inside_below : (vars : ℕ) (cons : List Constraint) (gs : List Given) (fs : List (Option Fact))
    → MeetsFactRule vars cons gs fs
    → (n v : ℕ) (h : Fact) → h.level < n → fact_at fs v ≡ Some h → InClosure cons (Gives gs) v h.value
inside_below vars cons gs fs rule zero v h l at = absurd (omega (arith, l))
inside_below vars cons gs fs rule (suc n) v h l at = by_reason cons gs fs v h
    (λ u g m there. inside_below vars cons gs fs rule n u g (omega (arith, m, l)) there) h.reason (rule.stands v h at)

-- the values that the facts give are in the closure
pub values_inside : (vars : ℕ) (cons : List Constraint) (gs : List Given) (fs : List (Option Fact))
    → MeetsFactRule vars cons gs fs → (v : ℕ) (s : Order) → value_at fs v ≡ Some s
    → InClosure cons (Gives gs) v s
values_inside vars cons gs fs rule v s e =
    let h = seen_is (fact_at fs v) s e in
    subst (λ t. InClosure cons (Gives gs) v t) h.2
    (inside_below vars cons gs fs rule (suc h.0.level) v h.0 (omega arith) h.1)

-- a fact stands by its reason among more facts too
pub stands_grows : (cons : List Constraint) (gs : List Given) (fs fs' : List (Option Fact))
    → ((u : ℕ) (g : Fact) → fact_at fs u ≡ Some g → fact_at fs' u ≡ Some g)
    → (v : ℕ) (s : Order) (k : ℕ) (r : Reason) → StandsBy cons gs fs v s k r → StandsBy cons gs fs' v s k r
stands_grows cons gs fs fs' grow v s k (by.Given i) h = h
stands_grows cons gs fs fs' grow v s k (by.Forced c) h = (
  h.0,
  record {
    constraint = h.1.constraint;
    there = h.1.there;
    forces = forces_more h.1.constraint.kind h.1.constraint.terms (IsKnownBelow fs k) (IsKnownBelow fs' k) v s
        (λ j t l q. record { fact = q.fact; there = grow _ q.fact q.there; lower = q.lower; value = q.value })
        h.1.forces;
  },
)

-- What boards begin with.
use Rattle.std.proofs.Common.{◌≡◌, ℕ, zero, suc, List, [], replicate, slice_get, sym, subst, Option, Some, None}
use lib.ListN.{length-replicate}
use Rattle.ff_tables.specs.declared.terms.Constraint.{Constraint}
use Rattle.ff_propagate.specs.declared.facts.Fact.{Fact}
use Rattle.ff_propagate.specs.Facts.{fact_at}
use Rattle.ff_propagate.specs.FactRule.{MeetsFactRule}

no_fact : (n v : ℕ) (h : Fact) → fact_at (replicate n None) v ≡ Some h → ⊥
no_fact zero zero h e = cc
no_fact zero (suc v) h e = cc
no_fact (suc n) zero h e = cc
no_fact (suc n) (suc v) h e = no_fact n v h e

not_there : {X : Type 0} (i : ℕ) (x : X) → slice_get [] i ≡ Some x → ⊥
not_there zero x e = cc
not_there (suc i) x e = cc

-- no facts meet the rule where nothing is given
pub none_meet : (vars : ℕ) (cons : List Constraint) (fs : List (Option Fact)) → fs ≡ replicate vars None → MeetsFactRule vars cons [] fs
none_meet vars cons fs e = subst (λ (x : List (Option Fact)). MeetsFactRule vars cons [] x) (sym e) (record {
  wide = length-replicate vars None;
  stands = λ v h e. absurd (no_fact vars v h e);
  given = λ i g e. absurd (not_there i g e);
})

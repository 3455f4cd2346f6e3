-- What carried facts keep.
use Rattle.std.specs.Prelude.{◌≡◌, ℕ, List, Option, Some}
use Rattle.ff_tables.specs.declared.terms.Constraint.{Constraint}
use Rattle.ff_tables.specs.declared.givens.Given.{Given}
use Rattle.ff_propagate.specs.declared.facts.Fact.{Fact}
use Rattle.ff_propagate.specs.declared.facts.Reason.TheVariants as by
use Rattle.ff_propagate.specs.Facts.{fact_at}
use Rattle.ff_propagate.specs.FactRule.{MeetsFactRule}
use Rattle.ff_carry.specs.Carrying.{IsCarried, IsWithout, Reaches}
use Rattle.ff_propagate.specs.Agreeing.{Agree}

-- the carried facts meet the fact rule under the new givens
abbrev pub CarriedMeet : Type 0
CarriedMeet = (vars : ℕ) (cons : List Constraint) (old_gs gs : List Given) (old new : List (Option Fact))
    → MeetsFactRule vars cons old_gs old → IsCarried vars cons gs old new → MeetsFactRule vars cons gs new

-- where one given is dropped, an old fact by a constraint whose chain doesn't reach it stays as it is, and an old
-- fact by another given keeps its value and level
pub record ChainsKept : Type 0 where
  pub by_constraint : (vars : ℕ) (cons : List Constraint) (old_gs gs : List Given) (d : ℕ)
      (old new : List (Option Fact)) → MeetsFactRule vars cons old_gs old → IsCarried vars cons gs old new
      → IsWithout old_gs d gs → Agree gs
      → (v c : ℕ) (h : Fact) → fact_at old v ≡ Some h → h.reason ≡ by.Forced c → (Reaches cons old d v h → ⊥)
      → fact_at new v ≡ Some h
  pub by_given : (vars : ℕ) (cons : List Constraint) (old_gs gs : List Given) (d : ℕ)
      (old new : List (Option Fact)) → MeetsFactRule vars cons old_gs old → IsCarried vars cons gs old new
      → IsWithout old_gs d gs → Agree gs
      → (v i : ℕ) (h : Fact) → fact_at old v ≡ Some h → h.reason ≡ by.Given i → (i ≡ d → ⊥)
      → (x : Fact) × (fact_at new v ≡ Some x) × (x.value ≡ h.value) × (x.level ≡ h.level)

-- The rule of facts with levels and reasons. This project's own.
use Rattle.std.specs.Prelude.{◌≡◌, ℕ, ◌<◌, List, length, slice_get, Option, Some}
use Rattle.ff_tables.specs.declared.orders.Order.{Order}
use Rattle.ff_tables.specs.declared.terms.Constraint.{Constraint}
use Rattle.ff_tables.specs.declared.givens.Given.{Given}
use Rattle.ff_tables.specs.Forces.{Forces}
use Rattle.ff_propagate.specs.declared.facts.Fact.{Fact}
use Rattle.ff_propagate.specs.declared.facts.Reason.{Reason}
use Rattle.ff_propagate.specs.declared.facts.Reason.TheVariants as by
use Rattle.ff_propagate.specs.Facts.{fact_at, IsKnownBelow}
use Rattle.ff_propagate.specs.Closure.{IsGiven}

-- the c-th constraint forces the value s of the variable v from facts of levels below k
pub record IsForcedBelow (cons : List Constraint) (fs : List (Option Fact)) (c k v : ℕ) (s : Order) : Type 0 where
  pub constraint : Constraint
  pub there : slice_get cons c ≡ Some constraint
  pub forces : Forces constraint.kind constraint.terms (IsKnownBelow fs k) v s

-- a fact of the variable v with the value s and the level k, by its reason
abbrev pub StandsBy : List Constraint → List Given → List (Option Fact) → ℕ → Order → ℕ → Reason → Type 0
StandsBy cons gs fs v s k (by.Given i) = (k ≡ 0) × IsGiven gs i v s
StandsBy cons gs fs v s k (by.Forced c) = (0 < k) × IsForcedBelow cons fs c k v s

-- the variable has a fact by a given
pub record HasGivenFact (fs : List (Option Fact)) (v : ℕ) : Type 0 where
  pub fact : Fact
  pub number : ℕ
  pub there : fact_at fs v ≡ Some fact
  pub by_given : fact.reason ≡ by.Given number

-- one item per variable; each fact stands by its reason; each given's variable has a fact by a given
pub record MeetsFactRule (vars : ℕ) (cons : List Constraint) (gs : List Given) (fs : List (Option Fact)) : Type 0 where
  pub wide : length fs ≡ vars
  pub stands : (v : ℕ) (h : Fact) → fact_at fs v ≡ Some h → StandsBy cons gs fs v h.value h.level h.reason
  pub given : (i : ℕ) (g : Given) → slice_get gs i ≡ Some g → HasGivenFact fs g.var

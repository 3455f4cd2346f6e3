-- What `close` answers.
use Rattle.std.specs.Prelude.{◌≡◌, ◌≢◌, ℕ, ◌<◌, List, slice_get, Option, Some}
use Rattle.ff_tables.specs.declared.terms.Constraint.{Constraint}
use Rattle.ff_tables.specs.declared.givens.Given.{Given}
use Rattle.ff_tables.specs.Forces.{NoneAgrees, Knows}
use Rattle.ff_propagate.specs.declared.facts.Fact.{Fact}
use Rattle.ff_propagate.specs.declared.facts.ClashAt.{ClashAt}
use Rattle.ff_propagate.specs.declared.facts.ClashAt.TheVariants as at
use Rattle.ff_propagate.specs.declared.facts.Closed.{Closed}
use Rattle.ff_propagate.specs.declared.facts.Closed.TheVariants.{Board, Clash}
use Rattle.ff_propagate.specs.Facts.{value_at}
use Rattle.ff_propagate.specs.Closure.{Clashes, IsClosure, Gives, HoldsGivens}
use Rattle.ff_propagate.specs.FactRule.{MeetsFactRule}

-- each given's variable is below vars
abbrev pub GivensFit : ℕ → List Given → Type 0
GivensFit vars gs = (i : ℕ) (g : Given) → slice_get gs i ≡ Some g → g.var < vars

-- two givens contradict each other
abbrev pub Contradict : Given → Given → Type 0
Contradict g h = (g.var ≡ h.var) × (g.value ≢ h.value)

-- the second is the first given that contradicts an earlier one, and the first is the first given that this
-- one contradicts
pub record IsFirstContradiction (gs : List Given) (first second : ℕ) : Type 0 where
  pub g : Given
  pub h : Given
  pub g_there : slice_get gs first ≡ Some g
  pub h_there : slice_get gs second ≡ Some h
  pub in_order : first < second
  pub contradict : Contradict g h
  pub least_first : (i : ℕ) (k : Given) → i < first → slice_get gs i ≡ Some k → Contradict k h → ⊥
  pub least_second : (i j : ℕ) (k l : Given) → i < j → j < second → slice_get gs i ≡ Some k
      → slice_get gs j ≡ Some l → Contradict k l → ⊥

-- no row of the c-th constraint agrees with the facts
pub record IsDeadIn (cons : List Constraint) (fs : List (Option Fact)) (c : ℕ) : Type 0 where
  pub constraint : Constraint
  pub there : slice_get cons c ≡ Some constraint
  pub none : NoneAgrees constraint.kind constraint.terms (Knows (value_at fs))

-- where the facts clash: two givens that contradict each other; or, where the facts hold all givens, a dead
-- constraint
abbrev pub IsClashAt : List Constraint → List Given → List (Option Fact) → ClashAt → Type 0
IsClashAt cons gs fs (at.Givens first second) = IsFirstContradiction gs first second
IsClashAt cons gs fs (at.Dead c) = HoldsGivens gs (value_at fs) × IsDeadIn cons fs c

-- The facts meet the fact rule. A board has exactly the closure, which then doesn't clash; else the closure
-- clashes.
abbrev pub ClosesTo : ℕ → List Constraint → List Given → Closed → Type 0
ClosesTo vars cons gs (Board fs) = MeetsFactRule vars cons gs fs × IsClosure cons (Gives gs) (value_at fs)
ClosesTo vars cons gs (Clash fs at) = MeetsFactRule vars cons gs fs × IsClashAt cons gs fs at
    × Clashes cons (Gives gs)

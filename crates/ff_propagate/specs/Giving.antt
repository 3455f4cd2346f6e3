-- What holds while the givens are set.

use Rattle.std.specs.Prelude.{◌≡◌, ◌≢◌, ℕ, ◌<◌, List, slice_get, Option, Some, None}
use Rattle.ff_tables.specs.declared.givens.Given.{Given}
use Rattle.ff_propagate.specs.declared.facts.Fact.{Fact}
use Rattle.ff_propagate.specs.declared.facts.Reason.TheVariants as by
use Rattle.ff_propagate.specs.Closure.{IsGiven}
use Rattle.ff_propagate.specs.declared.facts.ClashAt.{ClashAt}
use Rattle.ff_propagate.specs.declared.facts.ClashAt.TheVariants as at
use Rattle.ff_propagate.specs.Facts.{fact_at}
use Rattle.ff_propagate.specs.Closing.{IsFirstContradiction}

-- no given before k has the variable v
abbrev pub NoneBefore : List Given → ℕ → ℕ → Type 0
NoneBefore gs v k = (i : ℕ) (g : Given) → i < k → slice_get gs i ≡ Some g → g.var ≡ v → ⊥

-- a fact of the variable v by the k-th given
abbrev pub IsFactBy : List Given → ℕ → Fact → ℕ → Type 0
IsFactBy gs v h k = (h.reason ≡ by.Given k) × (h.level ≡ 0) × IsGiven gs k v h.value

-- the facts are those of the first n givens, the first of a variable counting
pub record HasGivens (gs : List Given) (n : ℕ) (fs : List (Option Fact)) : Type 0 where
  pub all : (i : ℕ) (g : Given) → i < n → slice_get gs i ≡ Some g → (h : Fact) × (fact_at fs g.var ≡ Some h)
  pub by : (v : ℕ) (h : Fact) → fact_at fs v ≡ Some h → (k : ℕ) × (k < n) × NoneBefore gs v k
      × IsFactBy gs v h k

-- each of the first n givens has the value of its variable's fact
abbrev pub Agreed : List Given → ℕ → List (Option Fact) → Type 0
Agreed gs n fs = (i : ℕ) (g : Given) → i < n → slice_get gs i ≡ Some g → (h : Fact)
    → fact_at fs g.var ≡ Some h → h.value ≡ g.value

-- j is the first given that the given g, the i-th, contradicts, and no given before it has the variable
pub record Contradicts (gs : List Given) (g : Given) (i j : ℕ) : Type 0 where
  pub one : Given
  pub is : slice_get gs j ≡ Some one
  pub var : one.var ≡ g.var
  pub differ : one.value ≢ g.value
  pub earlier : j < i
  pub first : NoneBefore gs g.var j

-- what setting the given g, the i-th, tells
abbrev pub GaveOne : List Given → Given → ℕ → List (Option Fact) → Option ℕ → Type 0
GaveOne gs g i fs None = (h : Fact) → fact_at fs g.var ≡ Some h → h.value ≡ g.value
GaveOne gs g i fs (Some j) = Contradicts gs g i j

-- what setting the first n givens tells
abbrev pub GaveAll : List Given → ℕ → List (Option Fact) → Option ClashAt → Type 0
GaveAll gs n fs None = Agreed gs n fs
GaveAll gs n fs (Some (at.Givens a b)) = IsFirstContradiction gs a b
GaveAll gs n fs (Some (at.Dead c)) = ⊥

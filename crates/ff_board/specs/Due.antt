-- Which constraints are to be examined.
use Rattle.std.specs.Prelude.{◌≡◌, ℕ, ◌<◌, ◌⊎◌, List, length, slice_get, slice_index, Option, Some}
use Rattle.ff_tables.specs.declared.terms.Constraint.{Constraint}
use Rattle.ff_tables.specs.Forces.{Knows, AreKnown, SomeAgrees}
use Rattle.ff_propagate.specs.declared.facts.Fact.{Fact}
use Rattle.ff_propagate.specs.Facts.{value_at}

-- the facts settle the constraint: they give each term a value, and some row agrees
abbrev pub IsSettledBy : List (Option Fact) → Constraint → Type 0
IsSettledBy fs con = AreKnown con.terms (value_at fs) (length con.terms)
    × SomeAgrees con.kind con.terms (Knows (value_at fs))

-- the list has numbers below n, and each that is missing is that of a constraint that the facts settle
pub record AreDue (cons : List Constraint) (fs : List (Option Fact)) (n : ℕ) (list : List ℕ) : Type 0 where
  pub below : (k : ℕ) → k < length list → slice_index list k < n
  pub each : (c : ℕ) (con : Constraint) → c < n → slice_get cons c ≡ Some con
      → IsSettledBy fs con ⊎ ((k : ℕ) × (k < length list) × (slice_index list k ≡ c))

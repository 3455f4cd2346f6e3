-- What holds while old facts are kept.
-- For the proofs of this crate alone.
use Rattle.std.specs.Prelude.{◌≡◌, ◌≢◌, ℕ, ◌+◌, ◌<◌, ◌≤◌, ◌⊎◌, List, length, slice_get, slice_set, Option, Some, None}
use Rattle.ff_tables.specs.declared.terms.Constraint.{Constraint}
use Rattle.ff_propagate.specs.declared.facts.Fact.{Fact}
use Rattle.ff_propagate.specs.declared.facts.Reason.TheVariants as by
use Rattle.ff_propagate.specs.Facts.{fact_at}
use Rattle.ff_propagate.specs.FactRule.{IsForcedBelow}
use Rattle.ff_carry.specs.declared.placing.Placed.{Placed}
use Rattle.ff_carry.specs.Carrying.{IsKept}

-- one variable more was tried
abbrev pub Keeps : List Constraint → List (Option Fact) → List (Option Fact) → ℕ → List (Option Fact) → Type 0
Keeps cons old fs v fs' =
    ((fs' ≡ fs) × ((h : Fact) → IsKept cons old fs v h → (x : Fact) × (fact_at fs v ≡ Some x)))
    ⊎ ((fact_at fs v ≡ None) × ((h : Fact) × IsKept cons old fs v h × (fs' ≡ slice_set fs v (Some h))))

-- of the base and the first n of the order
pub record IsKeeping (cons : List Constraint) (base old : List (Option Fact)) (order : List Placed) (n : ℕ)
    (fs : List (Option Fact)) : Type 0 where
  pub wide : length fs ≡ length base
  pub based : (v : ℕ) (h : Fact) → fact_at base v ≡ Some h → fact_at fs v ≡ Some h
  pub sound : (v : ℕ) (h : Fact) → fact_at base v ≡ None → fact_at fs v ≡ Some h → IsKept cons old fs v h
  pub done : (v : ℕ) (h : Fact) (i : ℕ) → fact_at base v ≡ None → IsKept cons old fs v h → i < n
      → slice_get order i ≡ Some (record { level = h.level; var = v }) → fact_at fs v ≡ Some h

-- the base, and exactly the old facts that are kept
pub record AreKept (cons : List Constraint) (base old fs : List (Option Fact)) : Type 0 where
  pub wide : length fs ≡ length base
  pub based : (v : ℕ) (h : Fact) → fact_at base v ≡ Some h → fact_at fs v ≡ Some h
  pub sound : (v : ℕ) (h : Fact) → fact_at base v ≡ None → fact_at fs v ≡ Some h → IsKept cons old fs v h
  pub all : (v : ℕ) (h : Fact) → fact_at base v ≡ None → IsKept cons old fs v h → fact_at fs v ≡ Some h

-- each fact by a constraint is forced by it from facts of lower levels
abbrev pub HaveReasons : List Constraint → List (Option Fact) → Type 0
HaveReasons cons old = (v : ℕ) (h : Fact) (c : ℕ) → fact_at old v ≡ Some h → h.reason ≡ by.Forced c
    → (0 < h.level) × IsForcedBelow cons old c h.level v h.value

-- Facts in order of their levels. This project's own.
use Rattle.std.specs.Prelude.{◌≡◌, ℕ, ◌<◌, ◌≤◌, List, slice_get, Option, Some}
use Rattle.std.specs.List.{Contains}
use Rattle.ff_propagate.specs.declared.facts.Fact.{Fact}
use Rattle.ff_propagate.specs.Facts.{fact_at}
use Rattle.ff_carry.specs.declared.placing.Placed.{Placed}

-- the place is that of a fact
abbrev pub IsPlace : List (Option Fact) → Placed → Type 0
IsPlace old p = (h : Fact) × (fact_at old p.var ≡ Some h) × (h.level ≡ p.level)

-- the places of the facts of the variables below n
pub record ArePlaced (old : List (Option Fact)) (n : ℕ) (list : List Placed) : Type 0 where
  pub each : (p : Placed) → Contains list p → IsPlace old p
  pub all : (v : ℕ) (h : Fact) → v < n → fact_at old v ≡ Some h → Contains list (record { level = h.level; var = v })

-- the places are in order of level
abbrev pub AreByLevel : List Placed → Type 0
AreByLevel order = (i j : ℕ) (p q : Placed) → i ≤ j → slice_get order i ≡ Some p → slice_get order j ≡ Some q
    → p.level ≤ q.level

-- the places of all facts, in order of level
pub record IsOrder (old : List (Option Fact)) (order : List Placed) : Type 0 where
  pub each : (i : ℕ) (p : Placed) → slice_get order i ≡ Some p → IsPlace old p
  pub all : (v : ℕ) (h : Fact) → fact_at old v ≡ Some h
      → (i : ℕ) × (slice_get order i ≡ Some (record { level = h.level; var = v }))
  pub sorted : AreByLevel order

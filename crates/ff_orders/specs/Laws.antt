-- What the verdicts on given orders mean. This project's own.
use Rattle.std.specs.Prelude.{◌≡◌, ℕ, ◌↔◌, ◌⊎◌, Bool, List, [], ◌∷◌}
use Rattle.ff_types.specs.declared.cites.Cite.{Cite}
use Rattle.ff_types.specs.declared.cases.Case.{Case}
use Rattle.ff_types.specs.Sheets.{Sheet}
use Rattle.ff_types.specs.Inside.{HaveCommon}
use Rattle.ff_types.specs.Cites.{Holds}
use Rattle.ff_types.specs.Cases.{IsCaseOf}
use Rattle.ff_types.specs.Keeping.{KeepsCreases}
use Rattle.ff_types.specs.Crossings.{IsGeometricStacking}
use Rattle.ff_crossings.specs.Crossed.{IsCrossed}
use Rattle.ff_crossings.specs.RowMeanings.{GoRound}
use Rattle.ff_orders.specs.declared.items.OrderItem.{OrderItem}
use Rattle.ff_orders.specs.declared.items.OrderVerdict.{OrderVerdict}
use Rattle.ff_orders.specs.declared.items.OrderVerdict.TheVariants.{Verified, Cycle, Crossing}
use Rattle.ff_orders.specs.Said.{IsSaid}
use Rattle.ff_orders.specs.Verdicts.{IsVerdict}

-- nothing is wrong exactly where the set of the said pairs is a geometric stacking that keeps the creases
abbrev pub VerifiedIsGeometry : Sheet → Type 0
VerifiedIsGeometry g = (case : Case) → IsCaseOf g case → (items : List OrderItem) (above : ℕ → ℕ → Bool) → IsSaid g items above
    → (verdict : OrderVerdict) → IsVerdict g case items above verdict
    → (verdict ≡ Verified) ↔ (IsGeometricStacking g above × KeepsCreases g above)

-- three faces have a common place and go round, one way or the other
pub record AreRound (g : Sheet) (above : ℕ → ℕ → Bool) (f h k : ℕ) : Type 0 where
  pub common : HaveCommon g (f ∷ h ∷ k ∷ [])
  pub round : GoRound above f h k ⊎ GoRound above f k h

-- so it is of those of a cycle
abbrev pub CyclesGoRound : Sheet → Type 0
CyclesGoRound g = (case : Case) → IsCaseOf g case → (items : List OrderItem) (above : ℕ → ℕ → Bool) → IsSaid g items above
    → (f h k : ℕ) → IsVerdict g case items above (Cycle f h k) → AreRound g above f h k

-- at a crossing the constraint of the cite holds, and what the cite names is crossed at a plain border place
abbrev pub CrossingsAreThere : Sheet → Type 0
CrossingsAreThere g = (case : Case) → IsCaseOf g case → (items : List OrderItem) (above : ℕ → ℕ → Bool) → IsSaid g items above
    → (c : Cite) → IsVerdict g case items above (Crossing c) → Holds g c × IsCrossed g above c

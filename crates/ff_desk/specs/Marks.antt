-- Marks of demanded parts.
-- For the proofs of this crate alone.
use Rattle.std.specs.Prelude.{◌≡◌, ℕ, ◌<◌, ◌⊎◌, ◌↔◌, Bool, false, IsTrue, List, length, slice_index_or}
use Rattle.ff_desk.specs.declared.demands.Demand.{Demand}
use Rattle.ff_desk.specs.Demands.{Demands}

-- the p-th mark
abbrev pub IsMarked : List Bool → ℕ → Type 0
IsMarked marks p = IsTrue (slice_index_or marks p false)

-- the marks of what was marked and of what is demanded
pub record AreMarked (old : List Bool) (d : Demand) (new : List Bool) : Type 0 where
  pub long : length new ≡ length old
  pub each : (p : ℕ) → p < length old → IsMarked new p ↔ (Demands d p ⊎ IsMarked old p)

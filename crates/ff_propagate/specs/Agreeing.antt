-- Givens that agree.
use Rattle.std.specs.Prelude.{◌≡◌, ℕ, List, slice_get, Some}
use Rattle.ff_tables.specs.declared.givens.Given.{Given}
use Rattle.ff_propagate.specs.Closing.{Contradict}

-- no two givens contradict each other
abbrev pub Agree : List Given → Type 0
Agree gs = (i j : ℕ) (g h : Given) → slice_get gs i ≡ Some g → slice_get gs j ≡ Some h → Contradict g h → ⊥

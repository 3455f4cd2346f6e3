-- Darts with the outside on their left.
-- For the proofs of this crate alone.
use Rattle.std.specs.Prelude.{◌≡◌, ℕ, ◌<◌, List, length}
use Rattle.ff_drawn.specs.declared.darts.Dart.{Dart}
use Rattle.ff_planar.specs.declared.traces.Side.{Side}
use Rattle.ff_planar.specs.declared.traces.Side.TheVariants.{Outside}
use Rattle.ff_drawn.specs.Darts.{dart_at}
use Rattle.ff_planar.specs.Traces.{side_at}

-- it has the outside on its left and leaves v
pub record IsOut (darts : List Dart) (sides : List Side) (v d : ℕ) : Type 0 where
  pub within : d < length darts
  pub side : side_at sides d ≡ Outside
  pub tail : (dart_at darts d).tail ≡ v

-- two such darts leave v
abbrev pub TwoOut : List Dart → List Side → ℕ → Type 0
TwoOut darts sides v = (d c : ℕ) × (d < c) × IsOut darts sides v d × IsOut darts sides v c

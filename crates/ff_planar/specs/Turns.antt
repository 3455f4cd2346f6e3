-- How a walk along the darts goes on.
-- For the proofs of this crate alone.
use Rattle.std.specs.Prelude.{◌≡◌, ◌≢◌, ℕ, ◌+◌, ◌<◌, ◌≤◌, List, length}
use Rattle.ff_whole.specs.declared.points.Pt.{Pt}
use Rattle.ff_types.specs.declared.patterns.EdgeEnds.{EdgeEnds}
use Rattle.ff_types.specs.Walks.{GoesOn}
use Rattle.ff_drawn.specs.declared.darts.Dart.{Dart}
use Rattle.ff_drawn.specs.Darts.{dart_at}

-- the walk along the dart d goes on along the dart c
pub record IsNext (points : List Pt) (edges : List EdgeEnds) (darts : List Dart) (d c : ℕ) : Type 0 where
  pub within : c < length darts
  pub from : (dart_at darts c).tail ≡ (dart_at darts d).head
  pub goes : GoesOn points edges (dart_at darts d).tail (dart_at darts d).head (dart_at darts c).head

-- the first of the darts from start on that doesn't come to u, where it is one of two
pub record IsFirstOther (darts : List Dart) (u start first : ℕ) : Type 0 where
  pub low : start ≤ first
  pub high : first ≤ start + 1
  pub other : first ≡ start → (dart_at darts start).head ≢ u
  pub skipped : start < first → (dart_at darts start).head ≡ u

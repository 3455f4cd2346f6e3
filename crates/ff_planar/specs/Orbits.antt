-- The darts of a walk, by numbers, and the side of each dart.
-- For the proofs of this crate alone.
use Rattle.std.specs.Prelude.{◌≡◌, ℕ, ◌+◌, ◌-◌, ◌<◌, List, length, slice_index, map}
use Rattle.ff_whole.specs.declared.points.Pt.{Pt}
use Rattle.ff_types.specs.declared.patterns.EdgeEnds.{EdgeEnds}
use Rattle.ff_drawn.specs.declared.darts.Dart.{Dart}
use Rattle.ff_drawn.specs.Darts.{dart_at}
use Rattle.ff_planar.specs.Turns.{IsNext}

-- for each dart the one along which a walk goes on
pub record AreNexts (points : List Pt) (edges : List EdgeEnds) (darts : List Dart) (nexts : List ℕ) : Type 0 where
  pub as_many : length nexts ≡ length darts
  pub each : (d : ℕ) → d < length darts → IsNext points edges darts d (slice_index nexts d)

-- a table of numbers below its length, in which no two are alike
pub record IsOneToOne (table : List ℕ) : Type 0 where
  pub closed : (d : ℕ) → d < length table → slice_index table d < length table
  pub apart : (d c : ℕ) → d < length table → c < length table → slice_index table d ≡ slice_index table c → d ≡ c

-- the list begins with start, goes on by the table, comes back to start from its last item, and holds no number twice
pub record IsOrbit (table : List ℕ) (start : ℕ) (orbit : List ℕ) : Type 0 where
  pub some : 0 < length orbit
  pub first : slice_index orbit 0 ≡ start
  pub below : (i : ℕ) → i < length orbit → slice_index orbit i < length table
  pub goes : (i : ℕ) → i + 1 < length orbit → slice_index orbit (i + 1) ≡ slice_index table (slice_index orbit i)
  pub back : slice_index table (slice_index orbit (length orbit - 1)) ≡ start
  pub once : (i j : ℕ) → i < length orbit → j < length orbit → slice_index orbit i ≡ slice_index orbit j → i ≡ j

-- the vertices that the darts with these numbers leave
abbrev pub tails : List Dart → List ℕ → List ℕ
tails darts orbit = map (λ d. (dart_at darts d).tail) orbit

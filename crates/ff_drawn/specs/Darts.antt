-- The two directed edges of each edge, in order of the vertex that each leaves and then of the one that it comes to.
use Rattle.std.specs.Prelude.{◌≡◌, ℕ, ◌+◌, ◌<◌, ◌≤◌, ◌⊎◌, ◌==◌, ◌&&◌, ◌||◌, Bool, nat_lt, List, length, slice_index, slice_index_or, IsTrue}
use Rattle.std.specs.List.{Contains}
use Rattle.ff_types.specs.declared.patterns.EdgeEnds.{EdgeEnds}
use Rattle.ff_types.specs.Drawings.{joined}
use Rattle.ff_drawn.specs.declared.darts.Dart.{Dart}

-- the dart with a number, which is to be below the length
abbrev pub dart_at : List Dart → ℕ → Dart
dart_at darts d = slice_index_or darts d (record { tail = 0; head = 0 })

-- the first comes before the second
abbrev pub ComesBefore : Dart → Dart → Type 0
ComesBefore d c = (d.tail < c.tail) ⊎ ((d.tail ≡ c.tail) × (d.head < c.head))

-- the same as a test
abbrev pub comes_before : Dart → Dart → Bool
comes_before d c = nat_lt d.tail c.tail || ((d.tail == c.tail) && nat_lt d.head c.head)

-- the directed edges stand in order
pub record AreInOrder (darts : List Dart) : Type 0 where
  pub rises : (d c : ℕ) → d < c → c < length darts → ComesBefore (dart_at darts d) (dart_at darts c)

-- where a dart stands among them, or would
pub record IsStart (darts : List Dart) (q : Dart) (start : ℕ) : Type 0 where
  pub within : start ≤ length darts
  pub before : (k : ℕ) → k < start → ComesBefore (dart_at darts k) q
  pub after : (k : ℕ) → start ≤ k → k < length darts → ComesBefore (dart_at darts k) q → ⊥

-- the directed edges of a drawing: each edge both ways, in order
pub record AreDarts (edges : List EdgeEnds) (darts : List Dart) : Type 0 where
  pub sorted : AreInOrder darts
  -- each goes along an edge
  pub along : (d : ℕ) → d < length darts → IsTrue (joined edges (dart_at darts d).tail (dart_at darts d).head)
  -- and each edge, both ways, is among them
  pub all : (u v : ℕ) → IsTrue (joined edges u v) → (d : ℕ) × (d < length darts) × (dart_at darts d ≡ record { tail = u; head = v })
  pub few : length darts ≤ length edges + length edges

-- the darts before a place leave vertices before v
abbrev pub ArePassed : List Dart → ℕ → ℕ → Type 0
ArePassed darts v start = (k : ℕ) → k < start → ComesBefore (dart_at darts k) (record { tail = v; head = 0 })

-- for each vertex, and one past the last, where the darts that leave it begin
pub record AreStarts (darts : List Dart) (count : ℕ) (starts : List ℕ) : Type 0 where
  pub as_many : length starts ≡ count + 1
  pub each : (v : ℕ) → v < count + 1 → IsStart darts (record { tail = v; head = 0 }) (slice_index starts v)

-- the darts of the edges, in any order, where one may stand more than once
pub record HoldDarts (edges : List EdgeEnds) (darts : List Dart) : Type 0 where
  pub only : (q : Dart) → Contains darts q → IsTrue (joined edges q.tail q.head)
  pub has : (u v : ℕ) → IsTrue (joined edges u v) → Contains darts (record { tail = u; head = v })
  pub few : length darts ≤ length edges + length edges

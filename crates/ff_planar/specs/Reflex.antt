-- A corner of a ring that is no corner of a convex one.
-- For the proofs of this crate alone.
use Rattle.std.specs.Prelude.{◌≡◌, ◌≢◌, ℕ, ◌<◌, ◌⊎◌, pos, ℤ, ◌<ℤ◌, List, length}
use Rattle.ff_whole.specs.declared.points.Pt.{Pt}
use Rattle.ff_whole.specs.Points.{turn}
use Rattle.ff_whole.specs.Convex.{point_at}
use Rattle.ff_types.specs.Rings.{corner, after}
use Rattle.ff_types.specs.Faces.{ring_at}

-- how far left of the step from place j on a vertex is
abbrev pub left_of_step : List Pt → List ℕ → ℕ → ℕ → ℤ
left_of_step points ring j v = turn (point_at points (corner ring j)) (point_at points (after ring j)) (point_at points v)

-- at place j the vertex at place i stands again, or is strictly right
abbrev pub IsBad : List Pt → List ℕ → ℕ → ℕ → Type 0
IsBad points ring i j = ((i ≢ j) × (corner ring j ≡ corner ring i)) ⊎ (left_of_step points ring j (corner ring i) <ℤ pos 0)

-- at this place the ring has a corner that a convex one can't have
abbrev pub IsReflex : List Pt → List ℕ → ℕ → Type 0
IsReflex points ring i = (j : ℕ) × (j < length ring) × IsBad points ring i j

-- the vertex stands in the ring at such a place
abbrev pub HasReflex : List Pt → List ℕ → ℕ → Type 0
HasReflex points ring v = (i : ℕ) × (i < length ring) × (corner ring i ≡ v) × IsReflex points ring i

-- there are none at the places before n
abbrev pub IsUnbent : List Pt → List ℕ → ℕ → Type 0
IsUnbent points ring n = (i : ℕ) → i < n → IsReflex points ring i → ⊥

-- the vertices at the first n places are different
abbrev pub AreDifferent : List ℕ → ℕ → Type 0
AreDifferent ring n = (i j : ℕ) → i < n → j < n → corner ring i ≡ corner ring j → i ≡ j

-- in none of the rings before n
abbrev pub AreUnbent : List Pt → List (List ℕ) → ℕ → Type 0
AreUnbent points rings n = (f : ℕ) → f < n → IsUnbent points (ring_at rings f) (length (ring_at rings f))

-- in one of the rings
abbrev pub SomeReflex : List Pt → List (List ℕ) → ℕ → Type 0
SomeReflex points rings v = (f : ℕ) × (f < length rings) × HasReflex points (ring_at rings f) v

-- the vertex is strictly left of each step
abbrev pub IsInside : List Pt → List ℕ → ℕ → Type 0
IsInside points ring v = (j : ℕ) → j < length ring → pos 0 <ℤ left_of_step points ring j v

-- the vertex is strictly inside some ring
abbrev pub SomeInside : List Pt → List (List ℕ) → ℕ → Type 0
SomeInside points rings v = (f : ℕ) × (f < length rings) × IsInside points (ring_at rings f) v

-- all vertices of all rings are there
abbrev pub AreThere : List Pt → List (List ℕ) → Type 0
AreThere points rings = (f i : ℕ) → f < length rings → i < length (ring_at rings f) → corner (ring_at rings f) i < length points

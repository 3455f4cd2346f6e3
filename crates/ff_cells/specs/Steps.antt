-- The bars of a folded sheet: the images of its faces' ring edges that aren't vertical.
-- For the proofs of this crate alone.
use Rattle.std.specs.Prelude.{ℕ, ◌≡◌, ◌⊎◌, ◌<◌, Bool, true, false, List, [], ◌∷◌, ◌++◌, length}
use Rattle.std.specs.List.{Contains}
use Rattle.ff_whole.specs.declared.points.Pt.{Pt}
use Rattle.ff_whole.specs.Convex.{point_at}
use Rattle.ff_types.specs.Rings.{corner, after}
use Rattle.ff_types.specs.Faces.{ring_at}
use Rattle.ff_types.specs.Foldings.{is_up}
use Rattle.ff_cells.specs.declared.bars.Bar.{Bar}

-- the way with the face on its left, where the face is left of u to v on the sheet
abbrev pub way_of : Bool → Pt → Pt → Pt × Pt
way_of true u v = (u, v)
way_of false u v = (v, u)

-- the bar from p to q or from q to p, with the face on the left of p to q
pub record IsBarOf (p q : Pt) (face : ℕ) (b : Bar) : Type 0 where
  pub face_is : b.face ≡ face
  pub ends : ((b.lower ≡ true) × (b.lo ≡ p) × (b.hi ≡ q)) ⊎ ((b.lower ≡ false) × (b.lo ≡ q) × (b.hi ≡ p))

-- the new list has the bar of the way too, unless it is vertical
abbrev pub AddsBar : Pt × Pt → ℕ → List Bar → List Bar → Type 0
AddsBar way face old new = ((way.0.x ≡ way.1.x) × (new ≡ old)) ⊎ ((b : Bar) × (new ≡ old ++ b ∷ [])
    × IsBarOf way.0 way.1 face b)

-- the image of the i-th ring edge, with the face on its left
abbrev pub step_at : List Pt → List ℕ → Bool → ℕ → Pt × Pt
step_at points ring up i = way_of up (point_at points (corner ring i)) (point_at points (after ring i))

-- the bar is in the list
abbrev pub HasBar : List Pt → List ℕ → Bool → ℕ → ℕ → List Bar → Type 0
HasBar points ring up face i bars = ((step_at points ring up i).0.x ≡ (step_at points ring up i).1.x)
    ⊎ ((b : Bar) × Contains bars b × IsBarOf (step_at points ring up i).0 (step_at points ring up i).1 face b)

-- the new list has the bars of the first n ring edges too
pub record AddsSteps (points : List Pt) (ring : List ℕ) (up : Bool) (face n : ℕ)
    (old new : List Bar) : Type 0 where
  pub kept : (b : Bar) → Contains old b → Contains new b
  pub each : (b : Bar) → Contains new b → Contains old b
      ⊎ ((i : ℕ) × (i < n) × IsBarOf (step_at points ring up i).0 (step_at points ring up i).1 face b)
  pub all : (i : ℕ) → i < n → HasBar points ring up face i new

-- the bars of the first n faces
pub record AreRingBars (points : List Pt) (rings : List (List ℕ)) (up : List Bool) (n : ℕ)
    (bars : List Bar) : Type 0 where
  pub each : (b : Bar) → Contains bars b → (i : ℕ) × (b.face < n) × (i < length (ring_at rings b.face))
      × IsBarOf (step_at points (ring_at rings b.face) (is_up up b.face) i).0
      (step_at points (ring_at rings b.face) (is_up up b.face) i).1 b.face b
  pub all : (f i : ℕ) → f < n → i < length (ring_at rings f)
      → HasBar points (ring_at rings f) (is_up up f) f i bars

-- the bars of all faces
abbrev pub AreBars : List Pt → List (List ℕ) → List Bool → List Bar → Type 0
AreBars points rings up bars = AreRingBars points rings up (length rings) bars

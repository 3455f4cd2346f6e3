-- All walks of a drawing: the rings among them, and what lies left of each dart.
-- For the proofs of this crate alone.
use Rattle.std.specs.Prelude.{◌≡◌, ℕ, ◌<◌, ◌≤◌, Bool, true, false, List, [], ◌∷◌, ◌++◌, length, slice_index, slice_index_or}
use Rattle.ff_whole.specs.declared.points.Pt.{Pt}
use Rattle.ff_types.specs.declared.patterns.EdgeEnds.{EdgeEnds}
use Rattle.ff_types.specs.Rings.{Goes}
use Rattle.ff_types.specs.Faces.{ring_at}
use Rattle.ff_types.specs.Walks.{IsOuterSide, AreRingWalks}
use Rattle.ff_drawn.specs.declared.darts.Dart.{Dart}
use Rattle.ff_planar.specs.declared.traces.Side.{Side}
use Rattle.ff_planar.specs.declared.traces.Side.TheVariants.{Unmet, Outside, Face}
use Rattle.ff_drawn.specs.Darts.{dart_at}

-- the side of a dart, whose number is to be below the length
abbrev pub side_at : List Side → ℕ → Side
side_at sides d = slice_index_or sides d Unmet

-- what lies left of the way from u to v: a ring, by its number, or the outside
abbrev pub IsSideOf : List Pt → List EdgeEnds → List (List ℕ) → ℕ → ℕ → Side → Type 0
IsSideOf points edges rings u v (Face f) = (f < length rings) × Goes (ring_at rings f) u v
IsSideOf points edges rings u v Outside = IsOuterSide points edges u v
IsSideOf points edges rings u v Unmet = ⊥

-- the rings that were traced, and the sides of all directed edges
pub record AreTraced (points : List Pt) (edges : List EdgeEnds) (darts : List Dart) (rings : List (List ℕ)) (sides : List Side) : Type 0 where
  pub rings_are : AreRingWalks points edges rings
  pub few : length rings ≤ length darts
  pub as_many : length sides ≡ length darts
  pub sides_are : (d : ℕ) → d < length darts → IsSideOf points edges rings (dart_at darts d).tail (dart_at darts d).head (side_at sides d)

-- these darts have been given this side, and no others
pub record Fills (old : List Side) (orbit : List ℕ) (side : Side) (new : List Side) : Type 0 where
  pub as_many : length new ≡ length old
  pub on : (i : ℕ) → i < length orbit → side_at new (slice_index orbit i) ≡ side
  pub off : (d : ℕ) → ((i : ℕ) → i < length orbit → slice_index orbit i ≡ d → ⊥) → side_at new d ≡ side_at old d

-- a walk has been added: to the rings, where it is one, and to the sides of its darts
abbrev pub AddsWalk : Bool → List (List ℕ) → List Side → List ℕ → List ℕ → List (List ℕ) → List Side → Type 0
AddsWalk true rings sides orbit ring more new = (more ≡ rings ++ ring ∷ []) × Fills sides orbit (Face (length rings)) new
AddsWalk false rings sides orbit ring more new = (more ≡ rings) × Fills sides orbit Outside new

-- What stands while faces are placed: the points so far, at the least scale that makes them whole.
-- For the proofs of this crate alone.
use Rattle.std.specs.Prelude.{◌≡◌, ℕ, ◌*◌, pos, ℤ, ◌<ℤ◌, true, false, Bool, List, length, unsigned_abs}
use Prim.Native.Nat.{◌∣◌}
use Rattle.std.specs.List.{Contains}
use Rattle.ff_whole.specs.declared.points.Pt.{Pt}
use Rattle.ff_whole.specs.declared.places.Place.{Place}
use Rattle.ff_whole.specs.declared.sizes.TheConstants.{SLOPE_SIZE}
use Rattle.ff_whole.specs.Sizes.{IsBelow}
use Rattle.ff_whole.specs.Points.{origin}
use Rattle.ff_whole.specs.Convex.{point_at}
use Rattle.ff_types.specs.Placing.{Meeting, meetings, AreFlags}
use Rattle.ff_types.specs.Carrying.{IsCarried}
use Rattle.ff_reflect.specs.declared.placed.Placed.{Placed}
use Rattle.ff_reflect.specs.Images.{IsAt}
use Rattle.ff_reflect.specs.Sheets.{Paper, HasFaces}
use Rattle.ff_reflect.specs.Trees.{order_along}
use Rattle.ff_reflect.specs.Walked.{IsTree}
use Rattle.ff_reflect.specs.Flags.{NoneBroken}
use Rattle.ff_reflect.specs.Puts.{AreNearPoints, has_place}

-- the scale divides each number that, times all points, is a multiple of the scale
abbrev pub IsLeast : ℤ → List Pt → Type 0
IsLeast scale images = (t : ℕ) → ((v : ℕ) → (unsigned_abs scale ∣ t * unsigned_abs (point_at images v).x) × (unsigned_abs scale ∣ t * unsigned_abs (point_at images v).y))
    → unsigned_abs scale ∣ t

-- the placings (face, vertex) are done: each face carries its vertices there, times the scale
pub record Stands (vertices : ℕ) (carried : ℕ → ℕ → Place) (done : List (ℕ × ℕ)) (s : Placed) : Type 0 where
  pub positive : pos 0 <ℤ s.scale
  pub small : IsBelow SLOPE_SIZE s.scale
  pub as_many : length s.points.items ≡ vertices
  pub as_many_flags : length s.placed.items ≡ vertices
  pub near : AreNearPoints s.points.items
  pub at : (p : ℕ × ℕ) → Contains done p → IsAt s.scale (carried p.0 p.1) (point_at s.points.items p.1)
  pub placed : (v : ℕ) → has_place s v ≡ true → (f : ℕ) × Contains done (f, v)
  pub there : (p : ℕ × ℕ) → Contains done p → has_place s p.1 ≡ true
  pub empty : (v : ℕ) → has_place s v ≡ false → point_at s.points.items v ≡ origin
  pub least : IsLeast s.scale s.points.items

-- the faces in placing order, with flags of which none is broken
pub record IsReady (paper : Paper) (tree : List Meeting) (up : List Bool) : Type 0 where
  pub has_faces : HasFaces paper
  pub tree_is : IsTree paper (meetings paper.rings paper.edges paper.sides (order_along tree)) tree
  pub flags : AreFlags (meetings paper.rings paper.edges paper.sides (order_along tree)) paper.marks up
  pub whole : NoneBroken (meetings paper.rings paper.edges paper.sides (order_along tree)) paper.marks up
  pub as_many : length up ≡ length paper.rings

-- what is placed stands where the walk carries it
pub record IsStanding (paper : Paper) (tree : List Meeting) (up : List Bool) (done : List (ℕ × ℕ)) (s : Placed) : Type 0 where
  pub carried : ℕ → ℕ → Place
  pub so : IsCarried paper.points paper.rings paper.edges (meetings paper.rings paper.edges paper.sides (order_along tree)) up (order_along tree) carried
  pub stands : Stands (length paper.points) carried done s

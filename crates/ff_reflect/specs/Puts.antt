-- What placing one vertex does to the points so far.
-- For the proofs of this crate alone.
use Rattle.std.specs.Prelude.{◌≡◌, ◌≢◌, ℕ, ◌<◌, ◌⊎◌, pos, ℤ, ◌*ℤ◌, ◌<ℤ◌, Bool, true, false, List, length, slice_index_or, slice_set, replicate}
use Rattle.std.specs.List.{Contains}
use Rattle.ff_whole.specs.declared.points.Pt.{Pt}
use Rattle.ff_whole.specs.declared.places.Place.{Place}
use Rattle.ff_whole.specs.declared.sizes.TheConstants.{SLOPE_SIZE}
use Rattle.ff_whole.specs.Sizes.{IsBelow}
use Rattle.ff_whole.specs.Points.{origin, IsNear}
use Rattle.ff_whole.specs.Convex.{point_at}
use Rattle.ff_whole.specs.Meeting.{IsReduced}
use Rattle.ff_types.specs.declared.refusals.Refusal.{Refusal}
use Rattle.ff_types.specs.declared.refusals.Refusal.TheVariants.{Inconsistent, Oversized}
use Rattle.ff_types.specs.declared.patterns.EdgeEnds.{EdgeEnds}
use Rattle.ff_types.specs.Foldings.{scaled, spread}
use Rattle.ff_reflect.specs.Images.{IsImageOf, hinge_at}
use Rattle.ff_reflect.specs.declared.image.Image.{Image}
use Rattle.ff_reflect.specs.declared.placed.Placed.{Placed}
use Rattle.ff_reflect.specs.declared.sizes.TheConstants.{LENGTH_SIZE, IMAGE_SIZE}

-- nothing is placed yet
pub record IsNothing (vertices : ℕ) (s : Placed) : Type 0 where
  pub scale : s.scale ≡ pos 1
  pub points : s.points.items ≡ replicate vertices origin
  pub placed : s.placed.items ≡ replicate vertices false

-- numbers that fit, over a positive one
pub record IsFit (image : Image) : Type 0 where
  pub positive : pos 0 <ℤ image.n
  pub x_below : IsBelow IMAGE_SIZE image.x
  pub y_below : IsBelow IMAGE_SIZE image.y
  pub n_below : IsBelow LENGTH_SIZE image.n

-- the image is the point
pub record IsHere (image : Image) (p : Pt) : Type 0 where
  pub x : image.n *ℤ p.x ≡ image.x
  pub y : image.n *ℤ p.y ≡ image.y

-- the point, which is near
pub record IsNearPoint (x y : ℤ) (p : Pt) : Type 0 where
  pub is : p ≡ record { x = x; y = y }
  pub near : IsNear p

-- all points are near
abbrev pub AreNearPoints : List Pt → Type 0
AreNearPoints points = (u : ℕ) → IsNear (point_at points u)

-- all points are the old ones times the factor, and near
pub record IsGrown (factor : ℤ) (old new : List Pt) : Type 0 where
  pub as_many : length new ≡ length old
  pub all : (u : ℕ) → point_at new u ≡ scaled factor (point_at old u)
  pub near : AreNearPoints new

-- one of them isn't near then
abbrev pub IsTooLarge : ℤ → List Pt → Type 0
IsTooLarge factor points = (u : ℕ) × (IsNear (scaled factor (point_at points u)) → ⊥)

-- the vertex is added at its image in lowest terms, and all other points and the scale grow by its denominator
pub record IsAdded (v : ℕ) (image : Image) (old new : Placed) : Type 0 where
  pub place : Place
  pub lowest : IsReduced image.x image.y image.n place
  pub scale : new.scale ≡ place.w *ℤ old.scale
  pub as_many : length new.points.items ≡ length old.points.items
  pub here : point_at new.points.items v ≡ record { x = place.x; y = place.y }
  pub others : (u : ℕ) → u ≢ v → point_at new.points.items u ≡ scaled place.w (point_at old.points.items u)
  pub near : AreNearPoints new.points.items
  pub placed : new.placed.items ≡ slice_set old.placed.items v true

-- a point isn't near then
pub record IsTooFar (image : Image) (old : Placed) : Type 0 where
  pub place : Place
  pub lowest : IsReduced image.x image.y image.n place
  pub far : (IsNear (record { x = place.x; y = place.y }) → ⊥) ⊎ IsTooLarge place.w old.points.items

-- what is placed stays as it was
pub record IsSame (old new : Placed) : Type 0 where
  pub scale : new.scale ≡ old.scale
  pub points : new.points.items ≡ old.points.items
  pub placed : new.placed.items ≡ old.placed.items

-- the vertex is placed
abbrev pub has_place : Placed → ℕ → Bool
has_place s v = slice_index_or s.placed.items v false

-- the vertex has this place, or is added
abbrev pub Puts : ℕ → Image → Placed → Placed → Type 0
Puts v image old new = ((has_place old v ≡ true) × IsHere image (point_at old.points.items v) × IsSame old new) ⊎ ((has_place old v ≡ false) × IsAdded v image old new)

-- it has another place, or a point isn't near when it is added
abbrev pub Refuses : ℕ → Image → Placed → Refusal → Type 0
Refuses v image old (Inconsistent u) = (u ≡ v) × (has_place old v ≡ true) × (IsHere image (point_at old.points.items v) → ⊥)
Refuses v image old (Oversized u) = (u ≡ v) × (has_place old v ≡ false) × IsTooFar image old
Refuses v image old _ = ⊥

-- as many points and flags as vertices, all points near, and a small scale
pub record IsSound (vertices : ℕ) (s : Placed) : Type 0 where
  pub as_many : length s.points.items ≡ vertices
  pub as_many_flags : length s.placed.items ≡ vertices
  pub near : AreNearPoints s.points.items
  pub small : IsBelow SLOPE_SIZE s.scale

-- an edge whose ends are vertices at different points
pub record IsHinge (points : List Pt) (ends : EdgeEnds) : Type 0 where
  pub first : ends.a < length points
  pub second : ends.b < length points
  pub apart : pos 0 <ℤ spread (point_at points ends.a) (point_at points ends.b) (point_at points ends.b)

-- the vertex goes where the hinge carries it
abbrev pub Carries : List Pt → EdgeEnds → Bool → ℕ → Placed → Placed → Type 0
Carries points ends up v old new = (image : Image) × IsImageOf (hinge_at points ends up old.points.items) (point_at points v) image × Puts v image old new

-- or it can't
abbrev pub StopsCarrying : List Pt → EdgeEnds → Bool → ℕ → Placed → Refusal → Type 0
StopsCarrying points ends up v old r = (image : Image) × IsImageOf (hinge_at points ends up old.points.items) (point_at points v) image × Refuses v image old r

-- the vertex is an end of the edge
abbrev pub IsEnd : EdgeEnds → ℕ → Type 0
IsEnd ends v = (v ≡ ends.a) ⊎ (v ≡ ends.b)

-- an end of the hinge stays, and any other vertex goes where the hinge carries it
abbrev pub Moves : List Pt → EdgeEnds → Bool → ℕ → Placed → Placed → Type 0
Moves points ends up v old new = (IsEnd ends v × IsSame old new) ⊎ Carries points ends up v old new

-- these vertices lie where they were drawn, at the scale 1
pub record IsLaid (points : List Pt) (front : List ℕ) (s : Placed) : Type 0 where
  pub scale : s.scale ≡ pos 1
  pub as_many : length s.points.items ≡ length points
  pub as_many_flags : length s.placed.items ≡ length points
  pub placed : (u : ℕ) → has_place s u ≡ true → Contains front u × (point_at s.points.items u ≡ point_at points u)
  pub there : (u : ℕ) → Contains front u → has_place s u ≡ true
  pub empty : (u : ℕ) → has_place s u ≡ false → point_at s.points.items u ≡ origin

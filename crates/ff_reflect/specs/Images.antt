-- Where a face's third vertex goes, from where the two ends of an edge of it go; flat folding by reflections.
-- For the proofs of this crate alone.
use Rattle.std.specs.Prelude.{◌≡◌, ◌+ℤ◌, ◌-ℤ◌, ◌*ℤ◌, ℤ, Bool, List}
use Rattle.ff_whole.specs.Convex.{point_at}
use Rattle.ff_types.specs.declared.patterns.EdgeEnds.{EdgeEnds}
use Rattle.ff_whole.specs.declared.points.Pt.{Pt}
use Rattle.ff_whole.specs.declared.places.Place.{Place}
use Rattle.ff_whole.specs.Points.{turn}
use Rattle.ff_whole.specs.Sizes.{IsBelow}
use Rattle.ff_types.specs.Foldings.{signed, spread}
use Rattle.ff_reflect.specs.declared.image.Hinge.{Hinge}
use Rattle.ff_reflect.specs.declared.image.Image.{Image}
use Rattle.ff_reflect.specs.declared.sizes.TheConstants.{LENGTH_SIZE, IMAGE_SIZE}

-- The image of r, times the squared length of the edge from p to q, where u and v are the images of p and q.
abbrev pub image_x : Bool → Pt → Pt → Pt → Pt → Pt → ℤ
image_x up p q r u v = (spread p q q *ℤ u.x) +ℤ ((spread p q r *ℤ (v.x -ℤ u.x)) -ℤ (signed up (turn p q r) *ℤ (v.y -ℤ u.y)))

-- and its y
abbrev pub image_y : Bool → Pt → Pt → Pt → Pt → Pt → ℤ
image_y up p q r u v = (spread p q q *ℤ u.y) +ℤ ((spread p q r *ℤ (v.y -ℤ u.y)) +ℤ (signed up (turn p q r) *ℤ (v.x -ℤ u.x)))

-- the place, times the scale, is the point
pub record IsAt (scale : ℤ) (s : Place) (p : Pt) : Type 0 where
  pub x : scale *ℤ s.x ≡ s.w *ℤ p.x
  pub y : scale *ℤ s.y ≡ s.w *ℤ p.y

-- the image of r that an edge with its image gives, with numbers that fit
pub record IsImageOf (hinge : Hinge) (r : Pt) (image : Image) : Type 0 where
  pub x_is : image.x ≡ image_x hinge.up hinge.p hinge.q r hinge.u hinge.v
  pub y_is : image.y ≡ image_y hinge.up hinge.p hinge.q r hinge.u hinge.v
  pub n_is : image.n ≡ spread hinge.p hinge.q hinge.q
  pub x_below : IsBelow IMAGE_SIZE image.x
  pub y_below : IsBelow IMAGE_SIZE image.y
  pub n_below : IsBelow LENGTH_SIZE image.n

-- an edge with the images of its ends, in a face that is up or down
abbrev pub hinge_at : List Pt → EdgeEnds → Bool → List Pt → Hinge
hinge_at points ends up images = record { up = up; p = point_at points ends.a; q = point_at points ends.b; u = point_at images ends.a; v = point_at images ends.b }

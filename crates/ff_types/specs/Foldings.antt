-- A folding of faces at a scale: each face keeps its shape, and lies with its first side up or down.
-- Flat folding by reflections; the scale, which makes all points whole, is this project's own.
use Rattle.std.specs.Prelude.{◌≡◌, ℕ, ◌<◌, ℤ, pos, neg_ℤ, ◌*ℤ◌, ◌≤ℤ◌, Bool, true, false, not, List, length, slice_index_or, Some}
use Rattle.ff_whole.specs.declared.points.Pt.{Pt}
use Rattle.ff_whole.specs.Points.{minus, dot, turn, IsNear}
use Rattle.ff_whole.specs.Convex.{point_at}
use Rattle.ff_types.specs.declared.patterns.Mark.{Mark}
use Rattle.ff_types.specs.declared.patterns.Mark.TheVariants.{B, M, V, F, U}
use Rattle.ff_types.specs.declared.faces.EdgeSides.{EdgeSides}
use Rattle.ff_types.specs.Rings.{corner, corners}
use Rattle.ff_types.specs.Faces.{ring_at, mark_at}
use Rattle.ff_types.specs.Sides.{sides_at}

-- marked M, V or U
abbrev pub is_folded : Mark → Bool
is_folded B = false
is_folded M = true
is_folded V = true
is_folded F = false
is_folded U = true

-- whether a face lies with its first side up; its number is to be below the length
abbrev pub is_up : List Bool → ℕ → Bool
is_up up f = slice_index_or up f true

-- the number, where the face is up, or minus it
abbrev pub signed : Bool → ℤ → ℤ
signed true z = z
signed false z = neg_ℤ z

-- the point, times a whole number
abbrev pub scaled : ℤ → Pt → Pt
scaled d p = record { x = d *ℤ p.x; y = d *ℤ p.y }

-- the dot product of the directions from p to q and from p to r: how long and how wide apart they are
abbrev pub spread : Pt → Pt → Pt → ℤ
spread p q r = dot (minus q p) (minus r p)

-- The images u, v, w of three points p, q, r have their shape, times the scale, turned over where the face is down.
pub record KeepsShape (scale : ℤ) (up : Bool) (p q r u v w : Pt) : Type 0 where
  pub dots : spread u v w ≡ (scale *ℤ scale) *ℤ spread p q r
  pub crosses : turn u v w ≡ signed up ((scale *ℤ scale) *ℤ turn p q r)

-- any three corners of a ring keep their shape
abbrev pub RingKeepsShape : ℤ → Bool → List Pt → List Pt → Type 0
RingKeepsShape scale up ring image = (i j k : ℕ) → i < length ring → j < length ring → k < length ring
    → KeepsShape scale up (point_at ring i) (point_at ring j) (point_at ring k) (point_at image i) (point_at image j) (point_at image k)

-- the number divides the other
abbrev pub Divides : ℕ → ℤ → Type 0
Divides d z = (k : ℤ) × (z ≡ pos d *ℤ k)

-- the number divides the scale and all coordinates
pub record DividesAll (d : ℕ) (scale : ℤ) (images : List Pt) : Type 0 where
  pub scale_too : Divides d scale
  pub xs : (v : ℕ) → v < length images → Divides d (point_at images v).x
  pub ys : (v : ℕ) → v < length images → Divides d (point_at images v).y

-- the two faces of a flat edge lie alike, those of a folded edge don't
abbrev pub FitFlags : Mark → Bool → Bool → Type 0
FitFlags B a b = Unit {0}
FitFlags F a b = a ≡ b
FitFlags _ a b = a ≡ not b

-- Faces have at most one folding.
pub record IsFolding (points : List Pt) (rings : List (List ℕ)) (sides : List EdgeSides) (marks : List Mark)
    (scale : ℤ) (images : List Pt) (up : List Bool) : Type 0 where
  pub positive : pos 1 ≤ℤ scale
  pub as_many_points : length images ≡ length points
  pub as_many_flags : length up ≡ length rings
  -- face 0 is up, and stands where it stood, times the scale
  pub first_up : is_up up 0 ≡ true
  pub first_stays : (i : ℕ) → i < length (ring_at rings 0)
      → point_at images (corner (ring_at rings 0) i)
      ≡ scaled scale (point_at points (corner (ring_at rings 0) i))
  -- each face keeps its shape, and is turned over where it is down
  pub shapes : (f : ℕ) → f < length rings
      → RingKeepsShape scale (is_up up f) (corners points (ring_at rings f)) (corners images (ring_at rings f))
  pub flags : (e f g : ℕ) → e < length sides → (sides_at sides e).left ≡ Some f
      → (sides_at sides e).right ≡ Some g → FitFlags (mark_at marks e) (is_up up f) (is_up up g)
  -- the scale is the least: no number above 1 divides it and all coordinates
  pub least : (d : ℕ) → 1 < d → DividesAll d scale images → ⊥

-- all folded points are within the limit
abbrev pub AreNear : List Pt → Type 0
AreNear images = (v : ℕ) → v < length images → IsNear (point_at images v)

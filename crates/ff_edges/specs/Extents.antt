-- How far edges and faces reach, from west to east and from south to north; elementary.
-- For the proofs of this crate alone.
use Rattle.std.specs.Prelude.{◌≡◌, ◌⊎◌, ℕ, ◌+◌, ◌*◌, ◌/◌, ◌<◌, ◌≤◌, ◌≤ℤ◌, List, length, slice_index_or, IsTrue}
use Rattle.ff_whole.specs.declared.points.Pt.{Pt}
use Rattle.ff_whole.specs.Points.{origin, IsNear}
use Rattle.ff_whole.specs.Convex.{point_at}
use Rattle.ff_types.specs.Rings.{corner}
use Rattle.ff_types.specs.Faces.{ring_at}
use Rattle.ff_types.specs.Sheets.{Sheet, tail, head}
use Rattle.ff_edges.specs.EdgesInside.{is_inner_edge}
use Rattle.ff_edges.specs.declared.extents.Extent.{Extent}
use Rattle.ff_edges.specs.declared.blocks.TheConstants.{BLOCK}

-- within the limits
pub record IsExtent (a : Extent) : Type 0 where
  pub low_near : IsNear a.low
  pub high_near : IsNear a.high

-- the extent has the point
pub record IsAround (p : Pt) (a : Extent) : Type 0 where
  pub west : a.low.x ≤ℤ p.x
  pub east : p.x ≤ℤ a.high.x
  pub south : a.low.y ≤ℤ p.y
  pub north : p.y ≤ℤ a.high.y

-- the first reaches no farther than the second
abbrev pub IsWithin : Extent → Extent → Type 0
IsWithin a b = (p : Pt) → IsAround p a → IsAround p b

-- round the images of both ends of the edge
pub record IsRoundEdge (g : Sheet) (e : ℕ) (a : Extent) : Type 0 where
  pub tail : IsAround (tail g e) a
  pub head : IsAround (head g e) a

-- the same, unless it is a border edge
abbrev pub IsRoundInner : Sheet → ℕ → Extent → Type 0
IsRoundInner g e a = IsTrue (is_inner_edge g e) → IsRoundEdge g e a

-- round the first n corners of the ring
abbrev pub AreRound : List Pt → List ℕ → ℕ → Extent → Type 0
AreRound points ring n a = (k : ℕ) → k < n → IsAround (point_at points (corner ring k)) a

-- round the images of all corners of the face
abbrev pub IsRoundFace : Sheet → ℕ → Extent → Type 0
IsRoundFace g f a = AreRound g.images (ring_at g.rings f) (length (ring_at g.rings f)) a

-- the first extent is on one side of the second, where they may touch
abbrev pub IsBeside : Extent → Extent → Type 0
IsBeside a b = ((a.high.x ≤ℤ b.low.x) ⊎ (b.high.x ≤ℤ a.low.x)) ⊎ ((a.high.y ≤ℤ b.low.y) ⊎ (b.high.y ≤ℤ a.low.y))

-- neither is on one side of the other, but that they may touch
abbrev pub IsTouching : Extent → Extent → Type 0
IsTouching a b = ((b.low.x ≤ℤ a.high.x) × (a.low.x ≤ℤ b.high.x)) × ((b.low.y ≤ℤ a.high.y) × (a.low.y ≤ℤ b.high.y))

-- ---- lists

-- the extent at a place, which is to be below the length
abbrev pub extent_at : List Extent → ℕ → Extent
extent_at list i = slice_index_or list i (record { low = origin; high = origin })

-- the first n extents of things that are numbered, each round the thing
pub record AreExtents (IsRound : ℕ → Extent → Type 0) (n : ℕ) (list : List Extent) : Type 0 where
  pub count : length list ≡ n
  pub within : (k : ℕ) → k < n → IsExtent (extent_at list k)
  pub round : (k : ℕ) → k < n → IsRound k (extent_at list k)

-- the extent reaches as far as all those of a list from one place up to another
abbrev pub IsRoundAll : List Extent → ℕ → ℕ → Extent → Type 0
IsRoundAll list from to a = (k : ℕ) → from ≤ k → k < to → k < length list → IsWithin (extent_at list k) a

-- the first n blocks of a list of extents, each round its items
abbrev pub AreBlocksTo : List Extent → ℕ → List Extent → Type 0
AreBlocksTo list n blocks = AreExtents (λ b. IsRoundAll list (BLOCK * b) (BLOCK * b + BLOCK)) n blocks

-- all of them; where all blocks are full, an empty one comes after them
pub record AreBlocks (list blocks : List Extent) : Type 0 where
  pub count : length blocks ≡ length list / BLOCK + 1
  pub each : AreBlocksTo list (length blocks) blocks

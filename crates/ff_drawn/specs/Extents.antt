-- How far edges and vertices reach, from west to east and from south to north, and lists of that in order.
use Rattle.std.specs.Prelude.{◌≡◌, ℕ, ◌<◌, ◌<ℤ◌, ◌≤ℤ◌, Bool, true, false, List, length, slice_index_or}
use Rattle.std.specs.List.{Contains}
use Rattle.ff_whole.specs.declared.points.Pt.{Pt}
use Rattle.ff_whole.specs.Points.{origin, IsNear}
use Rattle.ff_whole.specs.Convex.{point_at}
use Rattle.ff_types.specs.declared.patterns.EdgeEnds.{EdgeEnds}
use Rattle.ff_types.specs.Patterns.{edge_at}
use Rattle.ff_types.specs.Drawings.{first_point, last_point}
use Rattle.ff_types.specs.FaceRefusals.{CrossingAt}
use Rattle.ff_drawn.specs.declared.extents.Extent.{Extent}

-- the extent at a place, which is to be below the length
abbrev pub extent_at : List Extent → ℕ → Extent
extent_at list i = slice_index_or list i (record { low = origin; high = origin; number = 0 })

-- the extent has the point
pub record IsAround (p : Pt) (e : Extent) : Type 0 where
  pub west : e.low.x ≤ℤ p.x
  pub east : p.x ≤ℤ e.high.x
  pub south : e.low.y ≤ℤ p.y
  pub north : p.y ≤ℤ e.high.y

-- both ends of the edge that the number names are within the extent
pub record IsAroundEdge (points : List Pt) (edges : List EdgeEnds) (e : Extent) : Type 0 where
  pub low_near : IsNear e.low
  pub high_near : IsNear e.high
  pub there : e.number < length edges
  pub first : IsAround (first_point points (edge_at edges e.number)) e
  pub last : IsAround (last_point points (edge_at edges e.number)) e

-- each extent is round an edge
abbrev pub AreRound : List Pt → List EdgeEnds → List Extent → Type 0
AreRound points edges list = (i : ℕ) → i < length list → IsAroundEdge points edges (extent_at list i)

-- an extent for each edge
pub record AreEdgeExtents (points : List Pt) (edges : List EdgeEnds) (list : List Extent) : Type 0 where
  pub each : (i : ℕ) → i < length list → IsAroundEdge points edges (extent_at list i)
  pub all : (e : ℕ) → e < length edges → (i : ℕ) × (i < length list) × ((extent_at list i).number ≡ e)

-- from west to east
pub record AreInOrder (list : List Extent) : Type 0 where
  pub rises : (i j : ℕ) → i < j → j < length list → (extent_at list i).low.x ≤ℤ (extent_at list j).low.x
  -- and there from south to north
  pub ties : (i j : ℕ) → i < j → j < length list → (extent_at list i).low.x ≡ (extent_at list j).low.x → (extent_at list i).low.y ≤ℤ (extent_at list j).low.y

-- the two edges cross, whichever comes first
pub record AreNotCrossing (points : List Pt) (edges : List EdgeEnds) (e k : ℕ) : Type 0 where
  pub first : CrossingAt points edges e k → ⊥
  pub second : CrossingAt points edges k e → ⊥

-- the edge at the place i crosses none of those at the places after it, before n
abbrev pub CrossesNone : List Pt → List EdgeEnds → List Extent → ℕ → ℕ → Type 0
CrossesNone points edges list i n = (j : ℕ) → i < j → j < n → AreNotCrossing points edges (extent_at list i).number (extent_at list j).number

-- no two of the edges cross whose extents are in the list
abbrev pub NoneCross : List Pt → List EdgeEnds → List Extent → Type 0
NoneCross points edges list = (e k : Extent) → Contains list e → Contains list k → AreNotCrossing points edges e.number k.number

-- the whole extent is east of the upright line through a point, or north of the level one
abbrev pub IsBeyond : Bool → Pt → Extent → Type 0
IsBeyond true at e = at.x <ℤ e.low.x
IsBeyond false at e = at.y <ℤ e.low.y

-- a part of it is
abbrev pub Reaches : Bool → Pt → Extent → Type 0
Reaches true at e = at.x <ℤ e.high.x
Reaches false at e = at.y <ℤ e.high.y

-- the part of a list with a property, and no other extents
pub record IsPart (P : Extent → Type 0) (list part : List Extent) : Type 0 where
  pub only : (e : Extent) → Contains part e → Contains list e
  pub all : (e : Extent) → Contains list e → P e → Contains part e

-- the extent's low end is the vertex
pub record IsVertexExtent (points : List Pt) (e : Extent) : Type 0 where
  pub low_near : IsNear e.low
  pub there : e.number < length points
  pub low_is : e.low ≡ point_at points e.number

-- one extent for each vertex
pub record AreVertexExtents (points : List Pt) (list : List Extent) : Type 0 where
  pub each : (i : ℕ) → i < length list → IsVertexExtent points (extent_at list i)
  pub all : (v : ℕ) → v < length points → (i : ℕ) × (i < length list) × ((extent_at list i).number ≡ v)

-- an extent for each vertex, from west to east
pub record AreSpots (points : List Pt) (list : List Extent) : Type 0 where
  pub vertices : AreVertexExtents points list
  pub in_order : AreInOrder list

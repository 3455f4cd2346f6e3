-- Why an object spells no crease pattern within the limits: each refusal exactly where it comes, the first in the order
-- in which they are tried, at the least item. The limits and the order are this project's own.
use Rattle.std.specs.Prelude.{ℕ, ◌≡◌, ◌<◌, ◌≤◌, ◌⊎◌, List, length, take, slice_get, Option, None, Some}
use Rattle.serde_json.specs.Data.{Data}
use Rattle.ff_whole.specs.declared.points.Pt.{Pt}
use Rattle.ff_whole.specs.Points.{IsNear}
use Rattle.ff_whole.specs.Convex.{point_at}
use Rattle.ff_types.specs.declared.limits.TheConstants.{MOST_VERTICES, MOST_EDGES}
use Rattle.ff_types.specs.declared.patterns.EdgeEnds.{EdgeEnds}
use Rattle.ff_types.specs.declared.patterns.Mark.{Mark}
use Rattle.ff_types.specs.declared.refusals.Key.{Key}
use Rattle.ff_types.specs.declared.refusals.Key.TheVariants.{VerticesCoords, EdgesVertices, EdgesAssignment}
use Rattle.ff_types.specs.declared.refusals.What.TheVariants.{Vertices, Edges}
use Rattle.ff_types.specs.declared.refusals.Refusal.{Refusal}
use Rattle.ff_types.specs.declared.refusals.Refusal.TheVariants.{BadKey, BadVertex, FarVertex, BadEdge, BadMark, TooMany}
use Rattle.ff_types.specs.declared.refusals.No.{No}
use Rattle.ff_types.specs.declared.refusals.No.TheVariants as no
use Rattle.ff_types.specs.Patterns.{edge_at, Joins}
use Rattle.ff_read.specs.Spelling.{Keys, IsKeyed, vertices_in, edges_in, marks_in, point_of, ends_of, mark_of, all_of, optional_all_of}

-- ---- the first item that isn't as it must be

-- item i spells nothing, and each one before it something
pub record IsFirstBad {B A : Type 0} (f : B → Option A) (ds : List B) (i : ℕ) : Type 0 where
  pub item : B
  pub is : slice_get ds i ≡ Some item
  pub bad : f item ≡ None
  pub front : List A
  pub before : all_of f (take i ds) ≡ Some front

-- all points are within the limit of coordinates
abbrev pub AreNear : List Pt → Type 0
AreNear points = (v : ℕ) → v < length points → IsNear (point_at points v)

-- point v is far, and each one before it near
pub record IsFirstFar (points : List Pt) (v : ℕ) : Type 0 where
  pub within : v < length points
  pub far : IsNear (point_at points v) → ⊥
  pub before : (k : ℕ) → k < v → IsNear (point_at points k)

-- two edges join the same two vertices, in either direction
abbrev pub IsSameEdge : EdgeEnds → EdgeEnds → Type 0
IsSameEdge e k = ((e.a ≡ k.a) × (e.b ≡ k.b)) ⊎ ((e.a ≡ k.b) × (e.b ≡ k.a))

-- each edge joins two different of n vertices, and no two join the same two
pub record AreEdges (n : ℕ) (edges : List EdgeEnds) : Type 0 where
  pub joins : (e : ℕ) → e < length edges → Joins n (edge_at edges e)
  pub once : (k e : ℕ) → k < e → e < length edges → IsSameEdge (edge_at edges k) (edge_at edges e) → ⊥

-- the edge joins two different of n vertices that none of these joins
pub record IsNewEdge (n : ℕ) (edges : List EdgeEnds) (new : EdgeEnds) : Type 0 where
  pub joins : Joins n new
  pub once : (k : ℕ) → k < length edges → IsSameEdge (edge_at edges k) new → ⊥

-- item e spells no such edge, and each one before it does
pub record IsFirstBadEdge (n : ℕ) (ds : List Data) (e : ℕ) : Type 0 where
  pub item : Data
  pub is : slice_get ds e ≡ Some item
  pub front : List EdgeEnds
  pub before : all_of ends_of (take e ds) ≡ Some front
  pub edges : AreEdges n front
  pub bad : (new : EdgeEnds) → ends_of item ≡ Some new → IsNewEdge n front new → ⊥

-- ---- what has been read

-- the items spell these points, all of them near
pub record ArePoints (ds : List Data) (points : List Pt) : Type 0 where
  pub spelled : all_of point_of ds ≡ Some points
  pub near : AreNear points

-- the items spell these edges, which join vertices, once each
pub record HaveEdges (n : ℕ) (ds : List Data) (edges : List EdgeEnds) : Type 0 where
  pub spelled : all_of ends_of ds ≡ Some edges
  pub good : AreEdges n edges

-- the keys spell the pattern
pub record AreRead (k : Keys) (points : List Pt) (edges : List EdgeEnds) (marks : Option (List Mark)) : Type 0 where
  pub are_points : ArePoints k.vertices points
  pub have_edges : HaveEdges (length points) k.edges edges
  pub are_marks : optional_all_of mark_of k.marks ≡ Some marks

-- ---- the refusals

-- the first key that is absent or not of its form
abbrev pub RefusesKey : Data → Key → Type 0
RefusesKey d VerticesCoords = vertices_in d ≡ None
RefusesKey d EdgesVertices = (vs : List Data) × (vertices_in d ≡ Some vs) × (edges_in d ≡ None)
RefusesKey d EdgesAssignment = (vs es : List Data) × (vertices_in d ≡ Some vs) × (edges_in d ≡ Some es) × (marks_in (length es) d ≡ None)
RefusesKey d key = ⊥

-- the first item that isn't of its form, and then too many of them
abbrev pub RefusesItems : Keys → Refusal → Type 0
RefusesItems k (BadVertex v) = IsFirstBad point_of k.vertices v
RefusesItems k (FarVertex v) = (points : List Pt) × (all_of point_of k.vertices ≡ Some points) × IsFirstFar points v
RefusesItems k (BadEdge e) = (points : List Pt) × ArePoints k.vertices points × IsFirstBadEdge (length points) k.edges e
RefusesItems k (BadMark e) = (points : List Pt) × (edges : List EdgeEnds) × (ds : List Data) × ArePoints k.vertices points × HaveEdges (length points) k.edges edges × (k.marks ≡ Some ds) × IsFirstBad mark_of ds e
RefusesItems k (TooMany Vertices limit) = (points : List Pt) × (edges : List EdgeEnds) × (marks : Option (List Mark)) × AreRead k points edges marks × (MOST_VERTICES < length points) × (limit ≡ MOST_VERTICES)
RefusesItems k (TooMany Edges limit) = (points : List Pt) × (edges : List EdgeEnds) × (marks : Option (List Mark)) × AreRead k points edges marks × (length points ≤ MOST_VERTICES) × (MOST_EDGES < length edges) × (limit ≡ MOST_EDGES)
RefusesItems k r = ⊥

-- how an object is refused: by a key, or by an item
abbrev pub RefusesFold : Data → Refusal → Type 0
RefusesFold d (BadKey key) = RefusesKey d key
RefusesFold d r = (k : Keys) × IsKeyed d k × RefusesItems k r

-- why nothing was read of an object
abbrev pub IsNoFold : Data → No → Type 0
IsNoFold d (no.Refused r) = RefusesFold d r
IsNoFold d no.NoMemory = Unit {0}

-- a key is why it isn't read
abbrev pub IsNoKey : Data → No → Type 0
IsNoKey d (no.Refused (BadKey key)) = RefusesKey d key
IsNoKey d n = ⊥

-- an item is why it isn't read, or no memory
abbrev pub IsNoItem : Keys → No → Type 0
IsNoItem k (no.Refused r) = RefusesItems k r
IsNoItem k no.NoMemory = Unit {0}

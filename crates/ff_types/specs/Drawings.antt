-- A drawing: vertices and straight edges that meet only at their ends.
-- FOLD 1.1 has the keys; the limits are this project's own.
use Rattle.std.specs.Prelude.{◌≡◌, ℕ, ◌+◌, ◌<◌, ◌==◌, ◌≢◌, ◌⊎◌, ◌&&◌, ◌||◌, Bool, List, length, IsTrue}
use Rattle.std.specs.List.{list_any}
use Rattle.ff_whole.specs.declared.points.Pt.{Pt}
use Rattle.ff_whole.specs.Points.{mix, IsNear}
use Rattle.ff_whole.specs.Convex.{point_at, AreApart}
use Rattle.ff_types.specs.declared.patterns.EdgeEnds.{EdgeEnds}
use Rattle.ff_types.specs.Patterns.{edge_at, Joins}

-- the vertex is an end of the edge
abbrev pub has_end : EdgeEnds → ℕ → Bool
has_end e v = (e.a == v) || (e.b == v)

-- the edge joins the two vertices, in either direction
abbrev pub joins : ℕ → ℕ → EdgeEnds → Bool
joins u v e = ((e.a == u) && (e.b == v)) || ((e.a == v) && (e.b == u))

-- some edge joins them
abbrev pub joined : List EdgeEnds → ℕ → ℕ → Bool
joined edges u v = list_any (joins u v) edges

-- the points where an edge begins and ends
abbrev pub first_point : List Pt → EdgeEnds → Pt
first_point points e = point_at points e.a

-- where the edge ends
abbrev pub last_point : List Pt → EdgeEnds → Pt
last_point points e = point_at points e.b

-- A point of each of two edges, which is one point: (s a + t b) / (s + t) of the first and (u c + v d) / (u + v) of the
-- second. Two pairs of weights can always be brought to one sum.
pub record Common (points : List Pt) (e k : EdgeEnds) (s t u v : ℕ) : Type 0 where
  pub some : 0 < s + t
  pub sums : s + t ≡ u + v
  pub same : mix s (first_point points e) t (last_point points e)
      ≡ mix u (first_point points k) v (last_point points k)

-- the point with these weights is an end of its edge
abbrev pub IsEnd : ℕ → ℕ → Type 0
IsEnd s t = (s ≡ 0) ⊎ (t ≡ 0)

-- the common points of two edges are ends of both
abbrev pub MeetAtEnds : List Pt → EdgeEnds → EdgeEnds → Type 0
MeetAtEnds points e k = (s t u v : ℕ) → Common points e k s t u v → IsEnd s t × IsEnd u v

-- two different edges end at the vertex
abbrev pub HasTwoEdges : List EdgeEnds → ℕ → Type 0
HasTwoEdges edges v = (e k : ℕ) × (e < k) × (k < length edges) × IsTrue (has_end (edge_at edges e) v)
    × IsTrue (has_end (edge_at edges k) v)

-- a drawing: points apart, edges that join two vertices each, once, two or more at each vertex, and that meet at ends alone
pub record IsDrawing (points : List Pt) (edges : List EdgeEnds) : Type 0 where
  pub near : (v : ℕ) → v < length points → IsNear (point_at points v)
  -- no two vertices have one point
  pub apart : AreApart points
  -- an edge joins two different vertices, and no two edges join the same two
  pub edges_join : (e : ℕ) → e < length edges → Joins (length points) (edge_at edges e)
  pub once : (e k : ℕ) → e < length edges → k < length edges
      → IsTrue (joins (edge_at edges e).a (edge_at edges e).b (edge_at edges k)) → e ≡ k
  -- each vertex is an end of at least two edges
  pub two : (v : ℕ) → v < length points → HasTwoEdges edges v
  -- a point common to two edges is an end of both
  pub meet : (e k : ℕ) → e < length edges → k < length edges → e ≢ k
      → MeetAtEnds points (edge_at edges e) (edge_at edges k)

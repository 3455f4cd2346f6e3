-- One face of a drawing: a convex ring of vertices, with nothing of the drawing inside.
-- FOLD's counterclockwise faces; that they are convex is this project's own.
use Rattle.std.specs.Prelude.{◌≡◌, ℕ, ◌+◌, ◌<◌, ◌≤◌, pos, ◌+ℤ◌, ◌*ℤ◌, ◌<ℤ◌, List, map, length, slice_index, IsTrue}
use Rattle.ff_whole.specs.declared.points.Pt.{Pt}
use Rattle.ff_whole.specs.Convex.{next, point_at, left_of, IsConvex}
use Rattle.ff_types.specs.declared.patterns.EdgeEnds.{EdgeEnds}
use Rattle.ff_types.specs.Patterns.{edge_at}
use Rattle.ff_types.specs.Drawings.{joined, first_point, last_point}

-- the vertex at a place of a closed list, and the one after it
abbrev pub corner : List ℕ → ℕ → ℕ
corner ring i = slice_index ring i

-- the vertex after this place round the ring
abbrev pub after : List ℕ → ℕ → ℕ
after ring i = slice_index ring (next (length ring) i)

-- the closed list goes from u to v: the side of that edge left of u to v belongs to it
pub record Goes (ring : List ℕ) (u v : ℕ) : Type 0 where
  pub place : ℕ
  pub inside : place < length ring
  pub from : corner ring place ≡ u
  pub to : after ring place ≡ v

-- the points of its vertices
abbrev pub corners : List Pt → List ℕ → List Pt
corners points ring = map (point_at points) ring

-- a point is strictly inside the ring of points: left of each of its directed edges
abbrev pub IsStrictlyIn : List Pt → Pt → Type 0
IsStrictlyIn ring p = (i : ℕ) → i < length ring → pos 0 <ℤ left_of ring i p

-- the point (s p + t q) / (s + t) is strictly inside: how far left it is, times s + t, is s times and t times that of p and q
abbrev pub IsMixStrictlyIn : List Pt → ℕ → Pt → ℕ → Pt → Type 0
IsMixStrictlyIn ring s p t q = (i : ℕ) → i < length ring
    → pos 0 <ℤ ((pos s *ℤ left_of ring i p) +ℤ (pos t *ℤ left_of ring i q))

-- the ring of a face: different vertices, joined one after the other, convex, with no vertex and no edge strictly inside
pub record IsRing (points : List Pt) (edges : List EdgeEnds) (ring : List ℕ) : Type 0 where
  -- at least three different vertices
  pub three : 3 ≤ length ring
  pub there : (i : ℕ) → i < length ring → corner ring i < length points
  pub differ : (i j : ℕ) → i < length ring → j < length ring → corner ring i ≡ corner ring j → i ≡ j
  -- neighbours are joined by edges, the last vertex to the first
  pub joins : (i : ℕ) → i < length ring → IsTrue (joined edges (corner ring i) (after ring i))
  -- each vertex is on or left of each directed edge, and not all are on one edge's line
  pub convex : IsConvex (corners points ring)
  -- no vertex and no point of an edge is strictly inside
  pub no_vertex : (v : ℕ) → v < length points → IsStrictlyIn (corners points ring) (point_at points v) → ⊥
  pub no_point : (e : ℕ) (s t : ℕ) → e < length edges → 0 < s + t
      → IsMixStrictlyIn (corners points ring) s (first_point points (edge_at edges e)) t (last_point points (edge_at edges e)) → ⊥

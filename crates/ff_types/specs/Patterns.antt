-- What each crease pattern keeps, whatever its edges do to one another. FOLD 1.1 has the keys; the limits are this
-- project's own. No struct that keeps this is named here.
use Rattle.std.specs.Prelude.{◌≡◌, ◌≢◌, ℕ, ◌<◌, ◌≤◌, List, length, slice_index_or, Option, Some}
use Rattle.ff_whole.specs.declared.points.Pt.{Pt}
use Rattle.ff_whole.specs.Points.{IsNear}
use Rattle.ff_whole.specs.Convex.{point_at}
use Rattle.ff_types.specs.declared.limits.TheConstants.{MOST_VERTICES, MOST_EDGES}
use Rattle.ff_types.specs.declared.patterns.EdgeEnds.{EdgeEnds}
use Rattle.ff_types.specs.declared.patterns.Mark.{Mark}

-- the ends of an edge, whose number is to be below the length
abbrev pub edge_at : List EdgeEnds → ℕ → EdgeEnds
edge_at edges e = slice_index_or edges e (record { a = 0; b = 0 })

-- an edge joins two different vertices that are there
pub record Joins (vertices : ℕ) (e : EdgeEnds) : Type 0 where
  pub first : e.a < vertices
  pub second : e.b < vertices
  pub differ : e.a ≢ e.b

-- what is so of each pattern that was read: its limits, that its edges join vertices, and that there is a mark for each edge if for any
pub record IsPattern (points : List Pt) (edges : List EdgeEnds) (marks : Option (List Mark)) : Type 0 where
  pub few_points : length points ≤ MOST_VERTICES
  pub few_edges : length edges ≤ MOST_EDGES
  pub near : (v : ℕ) → v < length points → IsNear (point_at points v)
  pub joins : (e : ℕ) → e < length edges → Joins (length points) (edge_at edges e)
  -- no two edges join the same two vertices, in either direction
  pub once : (e k : ℕ) → e < length edges → k < length edges → (edge_at edges e).a ≡ (edge_at edges k).a → (edge_at edges e).b ≡ (edge_at edges k).b → e ≡ k
  pub once_back : (e k : ℕ) → e < length edges → k < length edges → (edge_at edges e).a ≡ (edge_at edges k).b → (edge_at edges e).b ≡ (edge_at edges k).a → ⊥
  pub marked : (ms : List Mark) → marks ≡ Some ms → length ms ≡ length edges

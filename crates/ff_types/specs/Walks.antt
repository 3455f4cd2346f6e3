-- Walks round a drawing, and which sides of its edges are outside. A walk of positive area is called a ring, and may
-- come to a vertex twice; the convex ring of a face is another word. This project's own.
use Rattle.std.specs.Prelude.{◌≡◌, ℕ, ◌<◌, ◌≤◌, ◌≢◌, ◌&&◌, ◌||◌, pos, ◌<ℤ◌, ◌≤ℤ◌, Bool, List, length, int_lt, IsTrue}
use Rattle.ff_whole.specs.declared.points.Pt.{Pt}
use Rattle.ff_whole.specs.Points.{minus, cross}
use Rattle.ff_whole.specs.Convex.{next, point_at}
use Rattle.ff_types.specs.declared.patterns.EdgeEnds.{EdgeEnds}
use Rattle.ff_types.specs.Drawings.{joined}
use Rattle.ff_types.specs.Rings.{corner, after, Goes}
use Rattle.ff_types.specs.Areas.{area}
use Rattle.ff_types.specs.Faces.{ring_at, list_before}

-- going counterclockwise from the direction a, the direction b comes before c: at least two of the three turn left
abbrev pub in_turn : Pt → Pt → Pt → Bool
in_turn a b c = (int_lt (pos 0) (cross a b) && int_lt (pos 0) (cross b c))
    || ((int_lt (pos 0) (cross b c) && int_lt (pos 0) (cross c a))
    || (int_lt (pos 0) (cross c a) && int_lt (pos 0) (cross a b)))

-- the way from one vertex to another
abbrev pub direction : List Pt → ℕ → ℕ → Pt
direction points v u = minus (point_at points u) (point_at points v)

-- A walk that comes along u to v goes on to w: the edge to w stands next clockwise after the edge back to u, so
-- counterclockwise it comes last.
pub record GoesOn (points : List Pt) (edges : List EdgeEnds) (u v w : ℕ) : Type 0 where
  pub along : IsTrue (joined edges u v)
  pub on : IsTrue (joined edges v w)
  pub not_back : w ≢ u
  pub next : (z : ℕ) → IsTrue (joined edges v z) → z ≢ u → z ≢ w
      → IsTrue (in_turn (direction points v u) (direction points v z) (direction points v w))

-- a closed walk, which takes no directed edge twice
pub record IsWalk (points : List Pt) (edges : List EdgeEnds) (walk : List ℕ) : Type 0 where
  pub some : 0 < length walk
  pub goes : (i : ℕ) → i < length walk
      → GoesOn points edges (corner walk i) (after walk i) (corner walk (next (length walk) (next (length walk) i)))
  pub once : (i j : ℕ) → i < length walk → j < length walk → corner walk i ≡ corner walk j
      → after walk i ≡ after walk j → i ≡ j

-- a walk with positive area is a ring, every other walk is an outer walk
pub record IsRingWalk (points : List Pt) (edges : List EdgeEnds) (walk : List ℕ) : Type 0 where
  pub walk_is : IsWalk points edges walk
  pub round : pos 0 <ℤ area points walk

-- the side left of the way from u to v is outside: the walk that goes there has no positive area
pub record IsOuterSide (points : List Pt) (edges : List EdgeEnds) (u v : ℕ) : Type 0 where
  pub walk : List ℕ
  pub walk_is : IsWalk points edges walk
  pub outer : area points walk ≤ℤ pos 0
  pub side : Goes walk u v

-- the rings as walks: all of them, each from its least vertex, sorted as lists
pub record AreRingWalks (points : List Pt) (edges : List EdgeEnds) (rings : List (List ℕ)) : Type 0 where
  pub each : (f : ℕ) → f < length rings → IsRingWalk points edges (ring_at rings f)
  pub least : (f i : ℕ) → f < length rings → i < length (ring_at rings f)
      → corner (ring_at rings f) 0 ≤ corner (ring_at rings f) i
  pub sorted : (f g : ℕ) → f < g → g < length rings → IsTrue (list_before (ring_at rings f) (ring_at rings g))
  pub all : (walk : List ℕ) (u v : ℕ) → IsRingWalk points edges walk → Goes walk u v → (f : ℕ)
      × (f < length rings) × Goes (ring_at rings f) u v

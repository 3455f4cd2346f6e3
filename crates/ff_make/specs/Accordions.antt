-- Accordions. This project's own.
use Rattle.std.specs.Prelude.{◌≡◌, ℕ, ℤ, pos, ◌+◌, ◌-◌, ◌*◌, ◌%◌, ◌<◌, ◌≤◌, List, length, slice_index_or, Option, Some}
use Rattle.ff_whole.specs.declared.points.Pt.{Pt}
use Rattle.ff_whole.specs.Convex.{point_at}
use Rattle.ff_types.specs.declared.patterns.EdgeEnds.{EdgeEnds}
use Rattle.ff_types.specs.declared.patterns.Mark.{Mark}
use Rattle.ff_types.specs.declared.patterns.Mark.TheVariants.{B, M, V}
use Rattle.ff_types.specs.Patterns.{edge_at}

-- Of a strip of n panels of width 1, p is the vertex v: vertices 0 to n lie from west to east on its lower side,
-- and the n + 1 others above them.
pub record IsVertex (n v : ℕ) (p : Pt) : Type 0 where
  pub lower : v ≤ n → p ≡ record { x = pos v; y = pos 0 }
  pub upper : (i : ℕ) → v ≡ n + 1 + i → p ≡ record { x = pos i; y = pos 1 }

-- The edge e of the strip: first once round it, along the lower side, up, back along the upper side and down, and
-- then the creases from west to east, each upwards.
pub record IsEdge (n e : ℕ) (x : EdgeEnds) : Type 0 where
  pub below : e < n → x ≡ record { a = e; b = e + 1 }
  pub right : e ≡ n → x ≡ record { a = n; b = 2 * n + 1 }
  pub above : (i : ℕ) → i < n → e ≡ n + 1 + i → x ≡ record { a = 2 * n + 1 - i; b = 2 * n - i }
  pub left : e ≡ 2 * n + 1 → x ≡ record { a = n + 1; b = 0 }
  pub crease : (i : ℕ) → 0 < i → e ≡ 2 * n + 1 + i → x ≡ record { a = i; b = n + 1 + i }

-- The mark of the edge e: the creases are by turns valleys and mountains, the first a valley.
pub record IsMark (n e : ℕ) (m : Mark) : Type 0 where
  pub border : e ≤ 2 * n + 1 → m ≡ B
  pub valley : (i : ℕ) → 0 < i → e ≡ 2 * n + 1 + i → i % 2 ≡ 1 → m ≡ V
  pub mountain : (i : ℕ) → 0 < i → e ≡ 2 * n + 1 + i → i % 2 ≡ 0 → m ≡ M

-- the first k vertices
pub record AreVertices (n k : ℕ) (points : List Pt) : Type 0 where
  pub as_many : length points ≡ k
  pub each : (v : ℕ) → v < k → IsVertex n v (point_at points v)

-- the first k edges
pub record AreEdges (n k : ℕ) (edges : List EdgeEnds) : Type 0 where
  pub as_many : length edges ≡ k
  pub each : (e : ℕ) → e < k → IsEdge n e (edge_at edges e)

-- the mark at a place
abbrev pub mark_at : List Mark → ℕ → Mark
mark_at marks e = slice_index_or marks e B

-- the marks of the first k edges
pub record AreMarks (n k : ℕ) (marks : List Mark) : Type 0 where
  pub as_many : length marks ≡ k
  pub each : (e : ℕ) → e < k → IsMark n e (mark_at marks e)

-- The accordion of n panels: the strip of n panels of width 1, with its 2 n + 2 border edges and n - 1 creases.
pub record IsAccordion (n : ℕ) (points : List Pt) (edges : List EdgeEnds) (marks : Option (List Mark)) : Type 0 where
  pub vertices : AreVertices n (2 * n + 2) points
  pub sides : AreEdges n (3 * n + 1) edges
  pub assignment : List Mark
  pub marked : marks ≡ Some assignment
  pub turns : AreMarks n (3 * n + 1) assignment

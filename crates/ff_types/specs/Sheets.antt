-- A folded sheet: what a crease pattern, its faces and their folding say together of how the paper lies.
use Rattle.std.specs.Prelude.{ℕ, ◌==◌, Bool, false, ◌||◌, List, length, nat_lt, Option, Some, None}
use Rattle.std.specs.List.{range_with_len}
use Rattle.ff_whole.specs.declared.points.Pt.{Pt}
use Rattle.ff_whole.specs.declared.lines.Line.{Line}
use Rattle.ff_whole.specs.Places.{through}
use Rattle.ff_whole.specs.Convex.{point_at}
use Rattle.ff_types.specs.declared.patterns.EdgeEnds.{EdgeEnds}
use Rattle.ff_types.specs.declared.patterns.Mark.{Mark}
use Rattle.ff_types.specs.declared.patterns.Pattern.{Pattern}
use Rattle.ff_types.specs.declared.faces.EdgeSides.{EdgeSides}
use Rattle.ff_types.specs.declared.faces.Faces.{Faces}
use Rattle.ff_types.specs.declared.faces.Folded.{Folded}
use Rattle.ff_types.specs.Patterns.{edge_at}
use Rattle.ff_types.specs.Faces.{mark_at}
use Rattle.ff_types.specs.Sides.{sides_at}
use Rattle.ff_types.specs.Foldings.{is_up}

-- The images are the folded points of the vertices, times the scale.
pub record Sheet : Type 0 where
  pub images : List Pt
  pub rings : List (List ℕ)
  pub up : List Bool
  pub edges : List EdgeEnds
  pub sides : List EdgeSides
  pub marks : List Mark

-- the sheet of a pattern with its faces and its folding
abbrev pub sheet_of : Pattern → Faces → Folded → Sheet
sheet_of pattern faces folded = record { images = folded.points; rings = faces.rings; up = folded.up; edges = pattern.edges; sides = faces.sides; marks = faces.marks }

-- the numbers of its faces and edges, in order
abbrev pub faces_of : Sheet → List ℕ
faces_of g = range_with_len 0 (length g.rings)

-- and of its edges
abbrev pub edges_of : Sheet → List ℕ
edges_of g = range_with_len 0 (length g.edges)

-- the number is a face's
abbrev pub is_face : Sheet → ℕ → Bool
is_face g f = nat_lt f (length g.rings)

-- the number is an edge's
abbrev pub is_edge : Sheet → ℕ → Bool
is_edge g e = nat_lt e (length g.edges)

-- the face lies with its upper side up
abbrev pub lies_up : Sheet → ℕ → Bool
lies_up g f = is_up g.up f

-- the images of the ends of an edge, and the line through them
abbrev pub tail : Sheet → ℕ → Pt
tail g e = point_at g.images (edge_at g.edges e).a

-- the image of the second end of an edge
abbrev pub head : Sheet → ℕ → Pt
head g e = point_at g.images (edge_at g.edges e).b

-- the line through the images of the edge's ends, in its direction
abbrev pub line_of : Sheet → ℕ → Line
line_of g e = through (tail g e) (head g e)

-- the mark of an edge
abbrev pub mark_of : Sheet → ℕ → Mark
mark_of g e = mark_at g.marks e

-- the faces beside an edge, seen from its first end to its second on the sheet as it was drawn
abbrev pub left_face : Sheet → ℕ → Option ℕ
left_face g e = (sides_at g.sides e).left

-- the face right of an edge, where there is one
abbrev pub right_face : Sheet → ℕ → Option ℕ
right_face g e = (sides_at g.sides e).right

-- it is this face
abbrev pub is_some_of : ℕ → Option ℕ → Bool
is_some_of f None = false
is_some_of f (Some h) = f == h

-- the edge is a ring edge of the face
abbrev pub bounds : Sheet → ℕ → ℕ → Bool
bounds g e f = is_some_of f (left_face g e) || is_some_of f (right_face g e)

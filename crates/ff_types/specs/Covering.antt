-- Which faces cover the paper's left and right side at a place of an edge. This project's own.
use Rattle.std.specs.Prelude.{ℕ, pos, Bool, ◌&&◌, ◌||◌, List, filter, int_le}
use Rattle.std.specs.List.{list_all, list_any}
use Rattle.ff_whole.specs.declared.places.Place.{Place}
use Rattle.ff_whole.specs.Places.{height, place_of}
use Rattle.ff_whole.specs.Convex.{point_at}
use Rattle.ff_types.specs.Faces.{ring_at}
use Rattle.ff_types.specs.Sheets.{Sheet, faces_of, edges_of, line_of, bounds}
use Rattle.ff_types.specs.Inside.{is_inside}
use Rattle.ff_types.specs.Borders.{is_on}

-- the place is on the image of one of the face's ring edges
abbrev pub is_on_ring : Sheet → ℕ → Place → Bool
is_on_ring g f s = list_any (λ k. is_on g k s && bounds g k f) (edges_of g)

-- the face lies on the left side of the edge's image, or on its right side
abbrev pub lies_left : Sheet → ℕ → ℕ → Bool
lies_left g e f = list_all (λ v. int_le (pos 0) (height (line_of g e) (place_of (point_at g.images v)))) (ring_at g.rings f)

-- so on the right side
abbrev pub lies_right : Sheet → ℕ → ℕ → Bool
lies_right g e f = list_all (λ v. int_le (height (line_of g e) (place_of (point_at g.images v))) (pos 0)) (ring_at g.rings f)

-- a face covers a side where the place is inside the face, or on its ring and the face lies on that side
abbrev pub covers_left : Sheet → ℕ → Place → ℕ → Bool
covers_left g e s f = is_inside g f s || (is_on_ring g f s && lies_left g e f)

-- so on the right side
abbrev pub covers_right : Sheet → ℕ → Place → ℕ → Bool
covers_right g e s f = is_inside g f s || (is_on_ring g f s && lies_right g e f)

-- the faces that cover the left side, in order of their numbers
abbrev pub left_faces : Sheet → ℕ → Place → List ℕ
left_faces g e s = filter (covers_left g e s) (faces_of g)

-- the faces that cover the right side, in order of their numbers
abbrev pub right_faces : Sheet → ℕ → Place → List ℕ
right_faces g e s = filter (covers_right g e s) (faces_of g)

-- The faces that a place is inside, and which faces overlap. Elementary.
use Rattle.std.specs.Prelude.{ℕ, ◌≢◌, ℤ, pos, Bool, ◌&&◌, List, [], ◌∷◌, filter, int_lt, IsTrue}
use Rattle.std.specs.List.{list_all}
use Rattle.ff_whole.specs.declared.places.Place.{Place}
use Rattle.ff_whole.specs.Places.{through, height, IsPlace}
use Rattle.ff_whole.specs.Convex.{point_at}
use Rattle.ff_types.specs.Faces.{ring_at}
use Rattle.ff_types.specs.Foldings.{signed}
use Rattle.ff_types.specs.Sheets.{Sheet, faces_of, is_face, lies_up}

-- the directed edges of a ring, as pairs of vertices
abbrev pub steps_from : ℕ → ℕ → List ℕ → List (ℕ × ℕ)
steps_from first u [] = (u, first) ∷ []
steps_from first u (v ∷ rest) = (u, v) ∷ steps_from first v rest

-- the pairs of neighbours round a ring, from its first vertex on
abbrev pub steps : List ℕ → List (ℕ × ℕ)
steps [] = []
steps (v ∷ rest) = steps_from v v rest

-- how far the place is on the inner side of the image of the face's directed edge: its left where the face is up, its right where it is down
abbrev pub depth : Sheet → ℕ → Place → ℕ × ℕ → ℤ
depth g f s step = signed (lies_up g f) (height (through (point_at g.images step.0) (point_at g.images step.1)) s)

-- f is a face, and the place is strictly on the inner side of the image of each of its ring edges
abbrev pub is_inside : Sheet → ℕ → Place → Bool
is_inside g f s = is_face g f
    && list_all (λ step. int_lt (pos 0) (depth g f s step)) (steps (ring_at g.rings f))

-- the faces that the place is inside, by number
abbrev pub over : Sheet → Place → List ℕ
over g s = filter (λ f. is_inside g f s) (faces_of g)

-- some place is inside all the faces
pub record HaveCommon (g : Sheet) (faces : List ℕ) : Type 0 where
  pub at : Place
  pub place : IsPlace at
  pub inside : IsTrue (list_all (λ f. is_inside g f at) faces)

-- Two different faces overlap. None overlaps itself.
pub record Overlap (g : Sheet) (f h : ℕ) : Type 0 where
  pub differ : f ≢ h
  pub common : HaveCommon g (f ∷ h ∷ [])

-- Plain border places: places on edges, and on no end of one, where the edges run in one direction and part the
-- paper in two sides. This project's own.
use Rattle.std.specs.Prelude.{ℕ, ◌<◌, pos, Bool, not, ◌&&◌, ◌||◌, length, int_lt, int_le, IsTrue}
use Rattle.std.specs.List.{list_all}
use Rattle.std.specs.Ordering.{int_eq}
use Rattle.ff_whole.specs.declared.places.Place.{Place}
use Rattle.ff_whole.specs.Places.{height, past, slant, IsPlace}
use Rattle.ff_types.specs.Sheets.{Sheet, edges_of, tail, head, line_of}

-- on the image of the edge, its ends counted
abbrev pub is_on : Sheet → ℕ → Place → Bool
is_on g e s = int_eq (height (line_of g e) s) (pos 0) && int_le (pos 0) (past (tail g e) (head g e) s)
    && int_le (pos 0) (past (head g e) (tail g e) s)

-- strictly between the images of its ends
abbrev pub is_between : Sheet → ℕ → Place → Bool
is_between g e s = int_eq (height (line_of g e) s) (pos 0) && int_lt (pos 0) (past (tail g e) (head g e) s)
    && int_lt (pos 0) (past (head g e) (tail g e) s)

-- the images of the two edges have one direction, or opposite ones
abbrev pub are_parallel : Sheet → ℕ → ℕ → Bool
are_parallel g e k = int_eq (slant (line_of g e) (line_of g k)) (pos 0)

-- the image of the edge k doesn't hold the place, or it does strictly between its ends and runs along that of e
abbrev pub is_plain_at : Sheet → ℕ → Place → ℕ → Bool
is_plain_at g e s k = not (is_on g k s) || (is_between g k s && are_parallel g k e)

-- A plain border place on the image of the edge e, and of others: every edge whose image holds it has it strictly
-- between the images of its ends, and all these images are parallel. The edge e says which side is called left;
-- what is said of such places is said for each edge that holds them.
pub record IsPlainBorder (g : Sheet) (e : ℕ) (s : Place) : Type 0 where
  pub place : IsPlace s
  pub edge : e < length g.edges
  pub on : IsTrue (is_on g e s)
  pub plain : IsTrue (list_all (is_plain_at g e s) (edges_of g))

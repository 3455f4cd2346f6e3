-- Where the images of two edges run along each other, and where an edge runs inside a face. This project's own.
use Rattle.std.specs.Prelude.{◌≡◌, ℕ, ◌<◌, false, ◌&&◌, IsTrue}
use Rattle.ff_whole.specs.declared.places.Place.{Place}
use Rattle.ff_whole.specs.Places.{IsPlace, same_place, blend}
use Rattle.ff_types.specs.Sheets.{Sheet}
use Rattle.ff_types.specs.Inside.{is_inside}
use Rattle.ff_types.specs.Borders.{is_on}

-- The images of two edges have a common part of positive length: two different places are on both.
pub record ShareSegment (g : Sheet) (e k : ℕ) : Type 0 where
  pub s : Place
  pub t : Place
  pub s_place : IsPlace s
  pub t_place : IsPlace t
  pub differ : same_place s t ≡ false
  pub first : IsTrue (is_on g e s && is_on g e t)
  pub second : IsTrue (is_on g k s && is_on g k t)

-- A part of the edge's image of positive length is inside the face: all places strictly between two different ones are.
pub record HasEdgeInside (g : Sheet) (face e : ℕ) : Type 0 where
  pub s : Place
  pub t : Place
  pub s_place : IsPlace s
  pub t_place : IsPlace t
  pub differ : same_place s t ≡ false
  pub on : IsTrue (is_on g e s && is_on g e t)
  pub inside : (i j : ℕ) → 0 < i → 0 < j → IsTrue (is_inside g face (blend i s j t))

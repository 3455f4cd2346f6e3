-- Which chords there are at a border place. Non-crossing connections at the two sides of a border place.
use Rattle.std.specs.Prelude.{◌≡◌, ◌≢◌, ℕ, ◌<◌, ◌↔◌, ◌⊎◌, length, IsTrue, Some}
use Rattle.std.specs.List.{Contains}
use Rattle.ff_whole.specs.declared.places.Place.{Place}
use Rattle.ff_types.specs.declared.patterns.Mark.TheVariants.{B}
use Rattle.ff_types.specs.Sheets.{Sheet, mark_of, left_face, right_face}
use Rattle.ff_types.specs.Inside.{is_inside}
use Rattle.ff_types.specs.Borders.{is_on}
use Rattle.ff_types.specs.Covering.{covers_left, covers_right, left_faces, right_faces}
use Rattle.ff_types.specs.Crossings.{Side, face_chord, entry, chords}

-- the chord of a face with the place inside
pub record IsFaceChord (g : Sheet) (s : Place) (c : Side × Side) : Type 0 where
  pub face : ℕ
  pub inside : IsTrue (is_inside g face s)
  pub same : c ≡ face_chord face

-- the chord of an edge there that isn't a border edge
pub record IsEdgeChord (g : Sheet) (e : ℕ) (s : Place) (c : Side × Side) : Type 0 where
  pub edge : ℕ
  pub is_edge : edge < length g.edges
  pub on : IsTrue (is_on g edge s)
  pub inner : mark_of g edge ≢ B
  pub left : ℕ
  pub right : ℕ
  pub left_is : left_face g edge ≡ Some left
  pub right_is : right_face g edge ≡ Some right
  pub same : c ≡ (entry g e s left, entry g e s right)

-- these are all
abbrev pub ChordsAre : Type 0
ChordsAre = (g : Sheet) (e : ℕ) (s : Place) (c : Side × Side)
    → Contains (chords g e s) c ↔ (IsFaceChord g s c ⊎ IsEdgeChord g e s c)

-- the faces that cover a side are the list of that side
abbrev pub SidesAre : Type 0
SidesAre = (g : Sheet) (e f : ℕ) (s : Place)
    → (Contains (left_faces g e s) f ↔ ((f < length g.rings) × IsTrue (covers_left g e s f)))
    × (Contains (right_faces g e s) f ↔ ((f < length g.rings) × IsTrue (covers_right g e s f)))

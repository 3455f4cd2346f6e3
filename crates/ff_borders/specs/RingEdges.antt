-- How a face meets a plain border place: inside, or on exactly one of its ring edges, or not at all.
-- This project's own.
use Rattle.std.specs.Prelude.{◌≡◌, ℕ, ◌<◌, ◌⊎◌, false, length, IsTrue}
use Rattle.ff_whole.specs.declared.places.Place.{Place}
use Rattle.ff_whole.specs.Places.{IsPlace}
use Rattle.ff_types.specs.Sheets.{Sheet, bounds}
use Rattle.ff_types.specs.Inside.{is_inside}
use Rattle.ff_types.specs.Borders.{is_on, is_between, IsPlainBorder}
use Rattle.ff_types.specs.Covering.{is_on_ring}

-- the images of two edges of one face cross or overlap nowhere: none has a place strictly between both ends
abbrev pub RingEdgesDontCross : Sheet → Type 0
RingEdgesDontCross g = (e k f : ℕ) (s : Place) → e < length g.edges → k < length g.edges → IsPlace s
    → IsTrue (bounds g e f) → IsTrue (bounds g k f) → IsTrue (is_between g e s) → IsTrue (is_between g k s)
    → e ≡ k

-- the place is on this ring edge of the face, and on no other
pub record IsOnlyEdge (g : Sheet) (f : ℕ) (s : Place) (k : ℕ) : Type 0 where
  pub edge : k < length g.edges
  pub on : IsTrue (is_on g k s)
  pub of_face : IsTrue (bounds g k f)
  pub only : (l : ℕ) → l < length g.edges → IsTrue (is_on g l s) → IsTrue (bounds g l f) → l ≡ k

-- the place is inside the face, or on exactly one of its ring edges, or neither
abbrev pub MeetsOnce : Sheet → ℕ → Place → Type 0
MeetsOnce g f s = (IsTrue (is_inside g f s) × (is_on_ring g f s ≡ false))
    ⊎ ((((k : ℕ) × IsOnlyEdge g f s k) × (is_inside g f s ≡ false))
    ⊎ ((is_inside g f s ≡ false) × (is_on_ring g f s ≡ false)))

-- so each face meets each plain border place
abbrev pub FacesMeetOnce : Sheet → Type 0
FacesMeetOnce g = (e f : ℕ) (s : Place) → IsPlainBorder g e s → MeetsOnce g f s

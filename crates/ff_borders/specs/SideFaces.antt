-- The faces that cover one side of a plain border place have a common place beside it. This project's own.
use Rattle.std.specs.Prelude.{ℕ, ◌≢◌, IsTrue, [], ◌∷◌}
use Rattle.ff_whole.specs.declared.places.Place.{Place}
use Rattle.ff_whole.specs.Places.{IsPlace}
use Rattle.ff_types.specs.Sheets.{Sheet}
use Rattle.ff_types.specs.Inside.{is_inside, HaveCommon, Overlap}
use Rattle.ff_types.specs.Borders.{IsPlainBorder}
use Rattle.ff_types.specs.Covering.{covers_left, covers_right}

-- one place inside every face that covers the left side, and one for the right side
abbrev pub HasPlacesBeside : Sheet → ℕ → Place → Type 0
HasPlacesBeside g e s =
    ((t : Place) × IsPlace t × ((f : ℕ) → IsTrue (covers_left g e s f) → IsTrue (is_inside g f t)))
    × ((t : Place) × IsPlace t × ((f : ℕ) → IsTrue (covers_right g e s f) → IsTrue (is_inside g f t)))

-- each plain border place has places beside it
abbrev pub SidesHavePlaces : Sheet → Type 0
SidesHavePlaces g = (e : ℕ) (s : Place) → IsPlainBorder g e s → HasPlacesBeside g e s

-- two faces that cover one side overlap
abbrev pub SideFacesOverlap : Sheet → Type 0
SideFacesOverlap g = (e f h : ℕ) (s : Place) → IsPlainBorder g e s → f ≢ h
    → (IsTrue (covers_left g e s f) → IsTrue (covers_left g e s h) → Overlap g f h)
    × (IsTrue (covers_right g e s f) → IsTrue (covers_right g e s h) → Overlap g f h)

-- three have a common place
abbrev pub SideFacesHaveCommon : Sheet → Type 0
SideFacesHaveCommon g = (e f h k : ℕ) (s : Place) → IsPlainBorder g e s
    → (IsTrue (covers_left g e s f) → IsTrue (covers_left g e s h) → IsTrue (covers_left g e s k)
    → HaveCommon g (f ∷ h ∷ k ∷ []))
    × (IsTrue (covers_right g e s f) → IsTrue (covers_right g e s h) → IsTrue (covers_right g e s k)
    → HaveCommon g (f ∷ h ∷ k ∷ []))

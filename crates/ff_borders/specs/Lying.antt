-- On which side of an edge's image the faces lie whose edges hold a plain border place. This project's own.
use Rattle.std.specs.Prelude.{◌≡◌, ℕ, ◌<◌, ◌⊎◌, false, List, length, IsTrue}
use Rattle.ff_whole.specs.declared.places.Place.{Place}
use Rattle.ff_types.specs.Sheets.{Sheet, bounds}
use Rattle.ff_types.specs.Inside.{is_inside}
use Rattle.ff_types.specs.Borders.{is_on, is_between, are_parallel, IsPlainBorder}
use Rattle.ff_types.specs.Covering.{lies_left, lies_right}
use Rattle.ff_types.specs.Cites.{is_folded_edge, is_flat_edge, lesser, greater, on_one_side}

-- the face lies on one side of the edge's image, and not on the other
abbrev pub IsLeftAlone : Sheet → ℕ → ℕ → Type 0
IsLeftAlone g e f = IsTrue (lies_left g e f) × (lies_right g e f ≡ false)

-- the face lies on the right side alone
abbrev pub IsRightAlone : Sheet → ℕ → ℕ → Type 0
IsRightAlone g e f = IsTrue (lies_right g e f) × (lies_left g e f ≡ false)

-- the two edges run in one direction, or back: left and right of one are left and right of the other, or
-- right and left
abbrev pub SidesAgree : Sheet → ℕ → ℕ → Type 0
SidesAgree g e k = ((f : ℕ) → (lies_left g k f ≡ lies_left g e f) × (lies_right g k f ≡ lies_right g e f))
    ⊎ ((f : ℕ) → (lies_left g k f ≡ lies_right g e f) × (lies_right g k f ≡ lies_left g e f))

-- whether faces are on one side is the same for both
abbrev pub OneSideAgrees : Sheet → Type 0
OneSideAgrees g = (e k : ℕ) (faces : List ℕ) → SidesAgree g e k
    → on_one_side g k faces ≡ on_one_side g e faces

-- the edge k runs along e there, and serves as well to say which side is left
pub record RunsAlong (g : Sheet) (e : ℕ) (s : Place) (k : ℕ) : Type 0 where
  pub between : IsTrue (is_between g k s)
  pub parallel : IsTrue (are_parallel g k e)
  pub plain : IsPlainBorder g k s
  pub sides : SidesAgree g e k

-- every edge that holds a plain border place runs along every other one
abbrev pub EdgesRunAlong : Sheet → Type 0
EdgesRunAlong g = (e k : ℕ) (s : Place) → IsPlainBorder g e s → k < length g.edges → IsTrue (is_on g k s)
    → RunsAlong g e s k

-- a face of such an edge lies on exactly one side, and the place isn't inside it
abbrev pub RingFacesLieAside : Sheet → Type 0
RingFacesLieAside g = (e k f : ℕ) (s : Place) → IsPlainBorder g e s → k < length g.edges
    → IsTrue (is_on g k s)
    → IsTrue (bounds g k f) → (IsLeftAlone g e f ⊎ IsRightAlone g e f) × (is_inside g f s ≡ false)

-- the two faces of a flat edge there lie on different sides
abbrev pub FlatFacesPart : Sheet → Type 0
FlatFacesPart g = (e k : ℕ) (s : Place) → IsPlainBorder g e s → IsTrue (is_on g k s)
    → IsTrue (is_flat_edge g k)
    → (IsLeftAlone g e (lesser g k) × IsRightAlone g e (greater g k))
    ⊎ (IsRightAlone g e (lesser g k) × IsLeftAlone g e (greater g k))

-- the two faces of a folded edge there lie on one side
abbrev pub FoldedFacesMeet : Sheet → Type 0
FoldedFacesMeet g = (e k : ℕ) (s : Place) → IsPlainBorder g e s → IsTrue (is_on g k s)
    → IsTrue (is_folded_edge g k)
    → (IsLeftAlone g e (lesser g k) × IsLeftAlone g e (greater g k))
    ⊎ (IsRightAlone g e (lesser g k) × IsRightAlone g e (greater g k))

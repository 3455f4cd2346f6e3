-- Places on lines, and how two lines lie to each other. Elementary; the refusals are this project's own.
use Rattle.std.specs.Prelude.{◌≡◌, ◌≢◌, ◌⊎◌, ℕ, ◌<◌, pos, ◌≤ℤ◌, List, slice_get, Some, IsTrue, false}
use Rattle.ff_whole.specs.declared.points.Pt.{Pt}
use Rattle.ff_whole.specs.Points.{IsNear}
use Rattle.ff_whole.specs.declared.places.Place.{Place}
use Rattle.ff_whole.specs.Places.{through, height, past, place_of, same_place, IsPlace}
use Rattle.ff_lines.specs.declared.items.LineItem.{LineItem}

-- the ends are different points within the limit
pub record IsProper (l : LineItem) : Type 0 where
  pub p_near : IsNear l.p
  pub q_near : IsNear l.q
  pub apart : l.p ≢ l.q

-- the place is on the way from p to q, its ends counted
pub record LiesOn (p q : Pt) (s : Place) : Type 0 where
  pub on : height (through p q) s ≡ pos 0
  pub after : pos 0 ≤ℤ past p q s
  pub before : pos 0 ≤ℤ past q p s

-- the place is an end of the way from a to b
abbrev pub IsEndAt : Pt → Pt → Place → Type 0
IsEndAt a b s = IsTrue (same_place s (place_of a)) ⊎ IsTrue (same_place s (place_of b))

-- on the line
abbrev pub IsOnLine : LineItem → Place → Type 0
IsOnLine l s = LiesOn l.p l.q s

-- a common place of two lines
pub record IsCommon (k l : LineItem) (s : Place) : Type 0 where
  pub place : IsPlace s
  pub first : IsOnLine k s
  pub second : IsOnLine l s

-- their only one
pub record IsOnlyCommon (k l : LineItem) (s : Place) : Type 0 where
  pub is : IsCommon k l s
  pub only : (t : Place) → IsCommon k l t → IsTrue (same_place t s)

-- they share a segment of positive length: two different places are common
pub record ShareSegment (k l : LineItem) : Type 0 where
  pub s : Place
  pub t : Place
  pub differ : same_place s t ≡ false
  pub first : IsCommon k l s
  pub second : IsCommon k l t

-- the only common place isn't a whole point
abbrev pub AreOffGrid : LineItem → LineItem → Type 0
AreOffGrid k l = (s : Place) × IsOnlyCommon k l s × ((v : Pt) → IsTrue (same_place (place_of v) s) → ⊥)

-- a shared segment would have two letters
abbrev pub AreOverlapping : LineItem → LineItem → Type 0
AreOverlapping k l = ShareSegment k l × (k.mark ≢ l.mark)

-- the two lines of these numbers, the lesser first
pub record AreLines (lines : List LineItem) (i j : ℕ) (k l : LineItem) : Type 0 where
  pub order : i < j
  pub first : slice_get lines i ≡ Some k
  pub second : slice_get lines j ≡ Some l

abbrev pub OffGridAt : List LineItem → ℕ → ℕ → Type 0
OffGridAt lines i j = (k l : LineItem) × AreLines lines i j k l × AreOffGrid k l

abbrev pub OverlapAt : List LineItem → ℕ → ℕ → Type 0
OverlapAt lines i j = (k l : LineItem) × AreLines lines i j k l × AreOverlapping k l

abbrev pub StopsAt : List LineItem → ℕ → ℕ → Type 0
StopsAt lines i j = OffGridAt lines i j ⊎ OverlapAt lines i j

-- the pair (a, b) comes before (i, j)
abbrev pub ComesBefore : ℕ → ℕ → ℕ → ℕ → Type 0
ComesBefore a b i j = (a < i) ⊎ ((a ≡ i) × (b < j))

-- no pair before (i, j) stops
abbrev pub NoneBefore : List LineItem → ℕ → ℕ → Type 0
NoneBefore lines i j = (a b : ℕ) → ComesBefore a b i j → StopsAt lines a b → ⊥

-- where two lines have one common place alone it is a whole point
abbrev pub MeetInWholes : List LineItem → Type 0
MeetInWholes lines = (i j : ℕ) (k l : LineItem) → AreLines lines i j k l → (s : Place) → IsOnlyCommon k l s
    → (v : Pt) × IsTrue (same_place (place_of v) s)

-- no pair stops: lines meet in whole points, and no shared segment has two letters
pub record NoneStops (lines : List LineItem) : Type 0 where
  pub wholes : MeetInWholes lines
  pub letters : (i j : ℕ) → OverlapAt lines i j → ⊥

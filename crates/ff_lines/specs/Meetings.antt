-- How two lines lie to each other, as far as their drawing asks.
-- For the proofs of this crate alone.
use Rattle.std.specs.Prelude.{◌≡◌, ◌⊎◌, pos, ◌<ℤ◌, IsTrue}
use Rattle.ff_whole.specs.declared.points.Pt.{Pt}
use Rattle.ff_whole.specs.declared.places.Place.{Place}
use Rattle.ff_whole.specs.Points.{IsNear, turn}
use Rattle.ff_whole.specs.Places.{place_of, same_place}
use Rattle.ff_lines.specs.declared.items.LineItem.{LineItem}
use Rattle.ff_lines.specs.declared.pairs.Meeting.{Meeting}
use Rattle.ff_lines.specs.declared.pairs.Meeting.TheVariants.{Plain, Overlapping, OffGrid, At}
use Rattle.ff_lines.specs.Lines.{AreOffGrid, AreOverlapping, IsCommon, IsEndAt, IsOnlyCommon}

-- the ends of l are strictly on one side of k
abbrev pub AreBeside : LineItem → LineItem → Type 0
AreBeside k l = ((pos 0 <ℤ turn k.p k.q l.p) × (pos 0 <ℤ turn k.p k.q l.q)) ⊎ ((turn k.p k.q l.p <ℤ pos 0) × (turn k.p k.q l.q <ℤ pos 0))

-- they have no common place
abbrev pub AreApart : LineItem → LineItem → Type 0
AreApart k l = (s : Place) → IsCommon k l s → ⊥

-- the point is an end of the line
abbrev pub IsEnd : LineItem → Pt → Type 0
IsEnd l v = (v ≡ l.p) ⊎ (v ≡ l.q)

abbrev pub HaveCommonEnd : LineItem → LineItem → Type 0
HaveCommonEnd k l = (v : Pt) × IsEnd k v × IsEnd l v

-- nothing stops, and where they have one common place alone it is a whole point
pub record MeetInWhole (k l : LineItem) : Type 0 where
  pub whole : (s : Place) → IsOnlyCommon k l s → (v : Pt) × IsTrue (same_place (place_of v) s)
  pub letters : AreOverlapping k l → ⊥

-- nothing stops, and their only common place, where there is one, is an end of one of them
pub record ArePlain (k l : LineItem) : Type 0 where
  pub ends : (s : Place) → IsOnlyCommon k l s → IsEndAt k.p k.q s ⊎ IsEndAt l.p l.q s
  pub letters : AreOverlapping k l → ⊥

-- the point is their only common place
pub record MeetAt (k l : LineItem) (v : Pt) : Type 0 where
  pub near : IsNear v
  pub only : IsOnlyCommon k l (place_of v)

-- the two lines lie to each other as it says
abbrev pub IsMeeting : LineItem → LineItem → Meeting → Type 0
IsMeeting k l Plain = ArePlain k l
IsMeeting k l Overlapping = AreOverlapping k l
IsMeeting k l OffGrid = AreOffGrid k l
IsMeeting k l (At v) = MeetAt k l v

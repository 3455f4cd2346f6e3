-- What of the way from one point to another is left of lines; elementary.
-- For the proofs of this crate alone.
use Rattle.std.specs.Prelude.{◌≡◌, ◌⊎◌, ℕ, ◌<◌, ℤ, pos, ◌-ℤ◌, ◌*ℤ◌, ◌<ℤ◌, ◌≤ℤ◌, Bool, true, false, List, length, IsTrue}
use Rattle.ff_whole.specs.declared.points.Pt.{Pt}
use Rattle.ff_whole.specs.declared.lines.Line.{Line}
use Rattle.ff_whole.specs.declared.places.Place.{Place}
use Rattle.ff_whole.specs.Sizes.{IsSmallPlace}
use Rattle.ff_whole.specs.Convex.{point_at}
use Rattle.ff_whole.specs.Places.{IsPlace, place_of, through, height, past}
use Rattle.ff_whole.specs.Meeting.{HasNoDivisor}
use Rattle.ff_types.specs.Rings.{corner, after}
use Rattle.ff_edges.specs.Ways.{is_on_way}

-- how far t is past s on the way from p to q, times their denominators and the distance of p and q
abbrev pub gap : Pt → Pt → Place → Place → ℤ
gap p q s t = (past p q t *ℤ s.w) -ℤ (past p q s *ℤ t.w)

-- a place of the way from p to q, in lowest terms
pub record IsEndOn (p q : Pt) (s : Place) : Type 0 where
  pub on : height (through p q) s ≡ pos 0
  pub after : pos 0 ≤ℤ past p q s
  pub before : pos 0 ≤ℤ past q p s
  pub small : IsSmallPlace s
  pub lowest : HasNoDivisor s

-- two places of the way, the second farther from p
pub record IsPart (p q : Pt) (s t : Place) : Type 0 where
  pub first : IsEndOn p q s
  pub second : IsEndOn p q t
  pub goes : pos 0 <ℤ gap p q s t

-- no farther from p than t, and no nearer than s
pub record IsWithin (p q : Pt) (s t m : Place) : Type 0 where
  pub from : pos 0 ≤ℤ gap p q s m
  pub to : pos 0 ≤ℤ gap p q m t

-- neither place is right of the line, and one is left of it
pub record AreLeftOf (l : Line) (s t : Place) : Type 0 where
  pub first : pos 0 ≤ℤ height l s
  pub second : pos 0 ≤ℤ height l t
  pub one : (pos 0 <ℤ height l s) ⊎ (pos 0 <ℤ height l t)

-- the part from s to t, without what is right of the line
pub record IsClip (p q : Pt) (l : Line) (s t u v : Place) : Type 0 where
  pub part : IsPart p q u v
  pub left : AreLeftOf l u v
  pub keeps : (k : Line) → AreLeftOf k s t → AreLeftOf k u v
  pub all : (m : Place) → IsPlace m → IsTrue (is_on_way p q m) → pos 0 <ℤ height l m → IsWithin p q s t m → IsWithin p q u v m

-- neither point is left of the line
abbrev pub AreNotLeft : Line → Pt → Pt → Type 0
AreNotLeft l p q = (height l (place_of p) ≤ℤ pos 0) × (height l (place_of q) ≤ℤ pos 0)

-- the line through the images of two vertices, with the inner side of a face on its left: the face goes from the first
-- to the second, and lies up or down
abbrev pub inner_line : List Pt → Bool → ℕ → ℕ → Line
inner_line points true u v = through (point_at points u) (point_at points v)
inner_line points false u v = through (point_at points v) (point_at points u)

-- the line of the ring's edge at a place
abbrev pub border_line : List Pt → Bool → List ℕ → ℕ → Line
border_line points up ring k = inner_line points up (corner ring k) (after ring k)

-- neither end of the way from p to q is on the inner side of the ring's edge at a place
abbrev pub IsPast : List Pt → Bool → List ℕ → ℕ → Pt → Pt → Type 0
IsPast points up ring k p q = AreNotLeft (border_line points up ring k) p q

-- the place is strictly on the inner side of the first n edges of the ring
abbrev pub IsInnerTo : List Pt → Bool → List ℕ → ℕ → Place → Type 0
IsInnerTo points up ring n m = (k : ℕ) → k < n → pos 0 <ℤ height (border_line points up ring k) m

-- the part of the way from p to q on the inner side of the first n edges of the ring
pub record IsPartInside (points : List Pt) (up : Bool) (ring : List ℕ) (n : ℕ) (p q : Pt) (s t : Place) : Type 0 where
  pub part : IsPart p q s t
  pub left : (k : ℕ) → k < n → AreLeftOf (border_line points up ring k) s t
  pub all : (m : Place) → IsPlace m → IsTrue (is_on_way p q m) → IsInnerTo points up ring n m → IsWithin p q s t m

-- no place of the way is on the inner side of all edges of the ring
abbrev pub IsNoneInside : List Pt → Bool → List ℕ → Pt → Pt → Type 0
IsNoneInside points up ring p q = (m : Place) → IsPlace m → IsTrue (is_on_way p q m) → IsInnerTo points up ring (length ring) m → ⊥

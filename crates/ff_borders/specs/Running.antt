-- One place tells that an edge runs inside a face, or that two edges run along each other.
-- This project's own.
use Rattle.std.specs.Prelude.{ℕ, ◌<◌, ◌≢◌, ◌↔◌, length, IsTrue}
use Rattle.ff_whole.specs.declared.places.Place.{Place}
use Rattle.ff_whole.specs.Places.{IsPlace}
use Rattle.ff_types.specs.declared.cites.Cite.{Cite}
use Rattle.ff_types.specs.Sheets.{Sheet, bounds}
use Rattle.ff_types.specs.Inside.{is_inside}
use Rattle.ff_types.specs.Borders.{is_on, is_between, are_parallel, IsPlainBorder}
use Rattle.ff_types.specs.Segments.{ShareSegment, HasEdgeInside}
use Rattle.ff_types.specs.Cites.{Holds, Witnessed}
use Rattle.ff_borders.specs.Lying.{SidesAgree}

-- the place is on the edge and inside the face
pub record IsOnInside (g : Sheet) (f e : ℕ) (s : Place) : Type 0 where
  pub place : IsPlace s
  pub on : IsTrue (is_on g e s)
  pub inside : IsTrue (is_inside g f s)

-- an edge has a part inside a face exactly where a place is on the one and inside the other
abbrev pub InsideByOnePlace : Sheet → Type 0
InsideByOnePlace g = (f e : ℕ) → e < length g.edges → HasEdgeInside g f e ↔ ((s : Place) × IsOnInside g f e s)

-- the place is strictly between the ends of both
pub record IsBetweenBoth (g : Sheet) (e k : ℕ) (s : Place) : Type 0 where
  pub place : IsPlace s
  pub first : IsTrue (is_between g e s)
  pub second : IsTrue (is_between g k s)

-- two edges share a segment exactly where they are parallel, and a place is strictly between the ends of both
abbrev pub SharingByOnePlace : Sheet → Type 0
SharingByOnePlace g = (e k : ℕ) → e < length g.edges → k < length g.edges
    → ShareSegment g e k ↔ (IsTrue (are_parallel g e k) × ((s : Place) × IsBetweenBoth g e k s))

-- which edges share with which is told by each, and they agree on their sides
abbrev pub SharingAgrees : Sheet → Type 0
SharingAgrees g = (e k : ℕ) → e < length g.edges → k < length g.edges → ShareSegment g e k
    → ShareSegment g k e × SidesAgree g e k

-- so it is at a plain border place: an edge that holds it runs inside each face that has it inside, and
-- shares with each edge that holds it
abbrev pub PlainPlacesTell : Sheet → Type 0
PlainPlacesTell g = (e k : ℕ) (s : Place) → IsPlainBorder g e s → k < length g.edges → IsTrue (is_on g k s)
    → ((f : ℕ) → IsTrue (is_inside g f s) → HasEdgeInside g f k)
    × ((l : ℕ) → l < length g.edges → IsTrue (is_on g l s) → ShareSegment g k l)

-- places that witness a cite show that it holds
abbrev pub WitnessedHold : Sheet → Type 0
WitnessedHold g = (c : Cite) → Witnessed g c → Holds g c

-- no edge runs inside a face of its own
abbrev pub NoneInsideOwn : Sheet → Type 0
NoneInsideOwn g = (f e : ℕ) → e < length g.edges → HasEdgeInside g f e → IsTrue (bounds g e f) → ⊥

-- different edges that share a segment have no common face
abbrev pub SharingHaveNoCommon : Sheet → Type 0
SharingHaveNoCommon g = (e k f : ℕ) → e < length g.edges → k < length g.edges → e ≢ k → ShareSegment g e k
    → IsTrue (bounds g e f) → IsTrue (bounds g k f) → ⊥

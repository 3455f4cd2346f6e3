-- Where there are plain border places. This project's own.
use Rattle.std.specs.Prelude.{ℕ, ◌<◌, length, IsTrue}
use Rattle.ff_whole.specs.declared.places.Place.{Place}
use Rattle.ff_types.specs.Sheets.{Sheet}
use Rattle.ff_types.specs.Inside.{is_inside}
use Rattle.ff_types.specs.Borders.{is_between, IsPlainBorder}
use Rattle.ff_types.specs.Segments.{ShareSegment, HasEdgeInside}

-- a plain border place strictly between the ends of the edge's image
abbrev pub IsPlainBetween : Sheet → ℕ → Place → Type 0
IsPlainBetween g e s = IsPlainBorder g e s × IsTrue (is_between g e s)

-- each edge has one
abbrev pub EdgesHavePlain : Sheet → Type 0
EdgesHavePlain g = (e : ℕ) → e < length g.edges → (s : Place) × IsPlainBetween g e s

-- a part of an edge inside a face has one
abbrev pub PartsInsideHavePlain : Sheet → Type 0
PartsInsideHavePlain g = (f e : ℕ) → e < length g.edges → HasEdgeInside g f e
    → (s : Place) × IsPlainBetween g e s × IsTrue (is_inside g f s)

-- a segment that two edges share has one for both
abbrev pub SegmentsHavePlain : Sheet → Type 0
SegmentsHavePlain g = (e k : ℕ) → e < length g.edges → k < length g.edges → ShareSegment g e k
    → (s : Place) × IsPlainBetween g e s × IsPlainBetween g k s

-- Where the row of a constraint isn't there, paper crosses, at a place on what its cite names. Non-crossing connections
-- at the two sides of a border place; that a cite tells where they cross is this project's own.
use Rattle.std.specs.Prelude.{◌≡◌, ℕ, ◌⊎◌, Bool, List}
use Rattle.ff_whole.specs.declared.places.Place.{Place}
use Rattle.ff_types.specs.declared.cites.Cite.{Cite}
use Rattle.ff_types.specs.declared.cites.Cite.TheVariants.{Transitivity, TacoTaco, TacoFace, TacoEdge, FlatFace, FlatEdge}
use Rattle.ff_types.specs.Sheets.{Sheet}
use Rattle.ff_types.specs.Borders.{IsPlainBorder}
use Rattle.ff_types.specs.Covering.{left_faces, right_faces}
use Rattle.ff_types.specs.Stackings.{IsListing, IsStacking}
use Rattle.ff_types.specs.Crossings.{Side, circle, Alternate}
use Rattle.ff_types.specs.Cites.{Holds}
use Rattle.ff_types.specs.Terms.{HasItsRow}
use Rattle.ff_crossings.specs.ChordMembers.{IsFaceChord, IsEdgeChord}

-- what has a chord at a border place: a face with the place inside, or an edge there
pub data Bearer : Type 0 where
  OfFace : ℕ → Bearer
  OfEdge : ℕ → Bearer

-- the chord is that of the face, or of the edge
abbrev pub IsChordOf : Sheet → ℕ → Place → Bearer → Side × Side → Type 0
IsChordOf g e s (OfFace f) c = (h : IsFaceChord g s c) × (h.face ≡ f)
IsChordOf g e s (OfEdge k) c = (h : IsEdgeChord g e s c) × (h.edge ≡ k)

-- At a plain border place, whose two sides are listed, the chords of these two alternate.
pub record AreCrossed (g : Sheet) (above : ℕ → ℕ → Bool) (first second : Bearer) : Type 0 where
  pub edge : ℕ
  pub at : Place
  pub plain : IsPlainBorder g edge at
  pub left : List ℕ
  pub right : List ℕ
  pub left_is : IsListing above (left_faces g edge at) left
  pub right_is : IsListing above (right_faces g edge at) right
  pub chord : Side × Side
  pub other : Side × Side
  pub chord_is : IsChordOf g edge at first chord
  pub other_is : IsChordOf g edge at second other
  pub alternate : Alternate (circle left right) chord other

-- The two that the cite names are crossed. Faces with a common place never are.
abbrev pub IsCrossed : Sheet → (ℕ → ℕ → Bool) → Cite → Type 0
IsCrossed g above (Transitivity f h k at) = ⊥
IsCrossed g above (TacoTaco k l) = AreCrossed g above (OfEdge k) (OfEdge l)
IsCrossed g above (TacoFace k f at) = AreCrossed g above (OfEdge k) (OfFace f)
IsCrossed g above (TacoEdge k l) = AreCrossed g above (OfEdge k) (OfEdge l)
IsCrossed g above (FlatFace k f at) = AreCrossed g above (OfEdge k) (OfFace f)
IsCrossed g above (FlatEdge k l) = AreCrossed g above (OfEdge k) (OfEdge l)

-- in a stacking each constraint that holds has its row, or what its cite names is crossed
abbrev pub CitesHaveRowsOrCross : Sheet → Type 0
CitesHaveRowsOrCross g = (above : ℕ → ℕ → Bool) → IsStacking g above → (c : Cite) → Holds g c
    → HasItsRow g above c ⊎ IsCrossed g above c

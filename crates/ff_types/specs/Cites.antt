-- The constraints of a folded sheet, each by what it rests on: where one holds, and what witnesses it. The families'
-- names are those of Flat-Folder's documentation; the exact conditions are this project's own.
use Rattle.std.specs.Prelude.{◌≡◌, ℕ, ◌<◌, Bool, true, false, ◌&&◌, ◌||◌, List, [], ◌∷◌, slice_get, min, max, IsTrue, Option, Some, None}
use Rattle.std.specs.List.{list_all, All}
use Rattle.ff_whole.specs.Sizes.{IsSmallPlace}
use Rattle.ff_types.specs.declared.patterns.Mark.{Mark}
use Rattle.ff_types.specs.declared.patterns.Mark.TheVariants.{F}
use Rattle.ff_types.specs.declared.cites.Cite.{Cite}
use Rattle.ff_types.specs.declared.cites.Cite.TheVariants.{Transitivity, TacoTaco, TacoFace, TacoEdge, FlatFace, FlatEdge}
use Rattle.ff_types.specs.Foldings.{is_folded}
use Rattle.ff_types.specs.Sheets.{Sheet, is_edge, mark_of, left_face, right_face}
use Rattle.ff_types.specs.Inside.{HaveCommon}
use Rattle.ff_types.specs.Witnesses.{IsWitness}
use Rattle.ff_types.specs.Borders.{is_on}
use Rattle.ff_types.specs.Covering.{lies_left, lies_right}
use Rattle.ff_types.specs.Segments.{ShareSegment, HasEdgeInside}

-- an edge marked M, V or U, or an edge marked F
abbrev pub is_folded_edge : Sheet → ℕ → Bool
is_folded_edge g e = is_edge g e && is_folded (mark_of g e)

-- the mark of an edge that stays flat
abbrev pub is_flat : Mark → Bool
is_flat F = true
is_flat _ = false

-- an edge of the sheet that stays flat
abbrev pub is_flat_edge : Sheet → ℕ → Bool
is_flat_edge g e = is_edge g e && is_flat (mark_of g e)

-- the face, and 0 where there is none
abbrev pub face_or : Option ℕ → ℕ
face_or (Some f) = f
face_or None = 0

-- the two faces of an edge that isn't a border edge, the lesser number first
abbrev pub lesser : Sheet → ℕ → ℕ
lesser g e = min (face_or (left_face g e)) (face_or (right_face g e))

-- the face beside the edge with the greater number
abbrev pub greater : Sheet → ℕ → ℕ
greater g e = max (face_or (left_face g e)) (face_or (right_face g e))

-- the faces lie on one side of the edge's image
abbrev pub on_one_side : Sheet → ℕ → List ℕ → Bool
on_one_side g e faces = list_all (lies_left g e) faces || list_all (lies_right g e) faces

-- Where there is such a constraint, whatever places its cite names.
abbrev pub Holds : Sheet → Cite → Type 0
-- three faces have a common place
Holds g (Transitivity f h k at) = (f < h) × (h < k) × HaveCommon g (f ∷ h ∷ k ∷ [])
-- two folded edges share a segment, all four faces on one side
Holds g (TacoTaco e k) = (e < k) × IsTrue (is_folded_edge g e && is_folded_edge g k) × ShareSegment g e k
    × IsTrue (on_one_side g e (lesser g e ∷ greater g e ∷ lesser g k ∷ greater g k ∷ []))
-- a face, or the two faces of a flat edge, run through where a folded edge is
Holds g (TacoFace e face at) = IsTrue (is_folded_edge g e) × HasEdgeInside g face e
Holds g (TacoEdge e flat) = IsTrue (is_folded_edge g e) × IsTrue (is_flat_edge g flat) × ShareSegment g e flat
-- the same where a flat edge is
Holds g (FlatFace flat face at) = IsTrue (is_flat_edge g flat) × HasEdgeInside g face flat
Holds g (FlatEdge flat flat2) = (flat < flat2) × IsTrue (is_flat_edge g flat && is_flat_edge g flat2)
    × ShareSegment g flat flat2

-- The places that the cite names, if any, witness it.
abbrev pub Witnessed : Sheet → Cite → Type 0
Witnessed g (Transitivity f h k at) = (f < h) × (h < k) × IsWitness g (f ∷ h ∷ k ∷ []) at
Witnessed g (TacoTaco e k) = Holds g (TacoTaco e k)
Witnessed g (TacoFace e face at) = IsTrue (is_folded_edge g e) × IsTrue (list_all (is_on g e) at)
    × IsWitness g (face ∷ []) at
Witnessed g (TacoEdge e flat) = Holds g (TacoEdge e flat)
Witnessed g (FlatFace flat face at) = IsTrue (is_flat_edge g flat) × IsTrue (list_all (is_on g flat) at)
    × IsWitness g (face ∷ []) at
Witnessed g (FlatEdge flat flat2) = Holds g (FlatEdge flat flat2)

-- Its places have numbers of a size whose side may be asked. So it is of every cite that a call takes or gives.
abbrev pub HasSmallPlaces : Cite → Type 0
HasSmallPlaces (Transitivity f h k at) = All IsSmallPlace at
HasSmallPlaces (TacoFace e face at) = All IsSmallPlace at
HasSmallPlaces (FlatFace flat face at) = All IsSmallPlace at
HasSmallPlaces _ = Unit {0}

-- so do the places of each cite of a list
abbrev pub AreSmall : List Cite → Type 0
AreSmall cites = (n : ℕ) (c : Cite) → slice_get cites n ≡ Some c → HasSmallPlaces c

-- The edges that have a part inside a face, and the ends of that part. This project's own.
use Rattle.std.specs.Prelude.{◌≡◌, ◌⊎◌, ℕ, ◌+◌, ◌<◌, pos, ◌*ℤ◌, ◌<ℤ◌, Bool, ◌||◌, List, [], ◌∷◌, length, slice_get, slice_index_or, Some, IsTrue}
use Rattle.std.specs.List.{list_all, All}
use Rattle.ff_whole.specs.declared.places.Place.{Place}
use Rattle.ff_whole.specs.Places.{IsPlace, same_place, blend}
use Rattle.ff_whole.specs.Sizes.{IsSmallPlace}
use Rattle.ff_whole.specs.Meeting.{HasNoDivisor}
use Rattle.ff_types.specs.declared.refusals.No.{No}
use Rattle.ff_types.specs.declared.refusals.No.TheVariants.{Refused, NoMemory}
use Rattle.ff_types.specs.declared.refusals.Refusal.TheVariants.{TooMany}
use Rattle.ff_types.specs.declared.refusals.What.TheVariants.{Constraints}
use Rattle.ff_types.specs.Sheets.{Sheet}
use Rattle.ff_types.specs.Inside.{is_inside}
use Rattle.ff_types.specs.Borders.{is_on}
use Rattle.ff_types.specs.Witnesses.{IsWitness}
use Rattle.ff_types.specs.Cites.{is_folded_edge, is_flat_edge}
use Rattle.ff_types.specs.Segments.{HasEdgeInside}
use Rattle.ff_edges.specs.declared.edge_face.EdgeFace.{EdgeFace}
use Rattle.ff_types.specs.declared.limits.TheConstants.{MOST_CONSTRAINTS}
use Rattle.ff_edges.specs.Listing.{HasKey, AreInOrder, IsListedTo}

-- marked M, V, U or F: any edge but a border edge
abbrev pub is_inner_edge : Sheet → ℕ → Bool
is_inner_edge g e = is_folded_edge g e || is_flat_edge g e

-- s comes before t in the order of x and then of y
abbrev pub ComesBefore : Place → Place → Type 0
ComesBefore s t = ((s.x *ℤ t.w) <ℤ (t.x *ℤ s.w)) ⊎ ((s.x *ℤ t.w ≡ t.x *ℤ s.w) × ((s.y *ℤ t.w) <ℤ (t.y *ℤ s.w)))

-- m is on the way from s to t, its ends counted
pub record LiesBetween (s t m : Place) : Type 0 where
  pub i : ℕ
  pub j : ℕ
  pub some : 0 < i + j
  pub same : IsTrue (same_place m (blend i s j t))

-- the place with this number
abbrev pub place_at : List Place → ℕ → Place
place_at places i = slice_index_or places i (record { x = pos 0; y = pos 0; w = pos 1 })

-- An edge with a part inside a face, and two places in lowest terms: all that is on the edge and inside the face lies
-- between them, and all that lies strictly between them is so.
pub record IsEdgeFace (g : Sheet) (c : EdgeFace) : Type 0 where
  pub inner : IsTrue (is_inner_edge g c.e)
  pub inside : HasEdgeInside g c.face c.e
  pub two : length c.at ≡ 2
  pub on : IsTrue (list_all (is_on g c.e) c.at)
  pub witness : IsWitness g (c.face ∷ []) c.at
  pub small : All IsSmallPlace c.at
  pub lowest : All HasNoDivisor c.at
  pub goes : ComesBefore (place_at c.at 0) (place_at c.at 1)
  pub all : (m : Place) → IsPlace m → IsTrue (is_on g c.e m) → IsTrue (is_inside g c.face m) → LiesBetween (place_at c.at 0) (place_at c.at 1) m

-- the edge and the face of an entry
abbrev pub edge_and_face : EdgeFace → ℕ × ℕ
edge_and_face c = (c.e, c.face)

-- some such edges and faces, in order, so that none stands twice
pub record AreSomeEdgeFaces (g : Sheet) (list : List EdgeFace) : Type 0 where
  pub each : (n : ℕ) (c : EdgeFace) → slice_get list n ≡ Some c → IsEdgeFace g c
  pub sorted : AreInOrder edge_and_face list

-- all of them
pub record AreEdgeFaces (g : Sheet) (list : List EdgeFace) : Type 0 where
  pub some : AreSomeEdgeFaces g list
  pub all : (e f : ℕ) → IsTrue (is_inner_edge g e) → HasEdgeInside g f e → HasKey edge_and_face list (e, f)

-- an edge and a face that are to be listed
pub record IsCrossed (g : Sheet) (e f : ℕ) : Type 0 where
  pub inner : IsTrue (is_inner_edge g e)
  pub inside : HasEdgeInside g f e

-- those that come before (e, f)
abbrev pub AreFacesTo : Sheet → ℕ → ℕ → List EdgeFace → Type 0
AreFacesTo g e f list = IsListedTo edge_and_face (IsEdgeFace g) (IsCrossed g) e f list

-- Why there is no list: there are more than the limit, or memory was refused.
abbrev pub AreNoEdgeFaces : Sheet → No → Type 0
AreNoEdgeFaces g NoMemory = Unit {0}
AreNoEdgeFaces g (Refused r) = (r ≡ TooMany Constraints MOST_CONSTRAINTS)
    × ((list : List EdgeFace) × AreSomeEdgeFaces g list × (MOST_CONSTRAINTS < length list))

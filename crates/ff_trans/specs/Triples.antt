-- The transitivity constraints: the triples of faces that stand together in a cell. This project's own.
use Rattle.std.specs.Prelude.{◌≡◌, ℕ, ◌<◌, List, [], ◌∷◌, length, slice_get, Some, IsTrue}
use Rattle.std.specs.List.{Contains}
use Rattle.ff_whole.specs.declared.places.Place.{Place}
use Rattle.ff_types.specs.declared.cites.Cite.{Cite}
use Rattle.ff_types.specs.declared.cites.Cite.TheVariants.{Transitivity}
use Rattle.ff_types.specs.declared.cites.Listed.{Listed}
use Rattle.ff_types.specs.declared.refusals.No.{No}
use Rattle.ff_types.specs.declared.refusals.No.TheVariants.{Refused, NoMemory}
use Rattle.ff_types.specs.declared.refusals.Refusal.TheVariants.{TooMany}
use Rattle.ff_types.specs.declared.refusals.What.TheVariants.{Constraints}
use Rattle.ff_types.specs.Faces.{list_before}
use Rattle.ff_types.specs.Sheets.{Sheet}
use Rattle.ff_types.specs.Cites.{Holds, Witnessed, HasSmallPlaces}
use Rattle.ff_types.specs.Cases.{key, IsConstraintOf}
use Rattle.ff_cells.specs.declared.cell.Cell.{Cell}
use Rattle.ff_cells.specs.FaceSets.{HaveFaceSets}
use Rattle.ff_types.specs.declared.limits.TheConstants.{MOST_CONSTRAINTS}

-- the cell at the place has all three faces
pub record HasThree (cells : List Cell) (i f h k : ℕ) : Type 0 where
  pub cell : Cell
  pub there : slice_get cells i ≡ Some cell
  pub first : Contains cell.faces f
  pub second : Contains cell.faces h
  pub third : Contains cell.faces k

-- Three faces in increasing order that stand together in a cell; the cite names the corners of the first such cell.
pub record IsTriple (cells : List Cell) (c : Cite) : Type 0 where
  pub f : ℕ
  pub h : ℕ
  pub k : ℕ
  pub low : f < h
  pub high : h < k
  pub place : ℕ
  pub has : HasThree cells place f h k
  pub first : (i : ℕ) → i < place → HasThree cells i f h k → ⊥
  pub cite : c ≡ Transitivity f h k has.cell.at

-- the list has a constraint with this key
abbrev pub HasCite : List Listed → List ℕ → Type 0
HasCite list ks = (n : ℕ) × (l : Listed) × (slice_get list n ≡ Some l) × (key l.cite ≡ ks)

-- the constraints stand in order of their keys, so that none stands twice
abbrev pub AreInOrder : List Listed → Type 0
AreInOrder list = (m n : ℕ) (l o : Listed) → m < n → slice_get list m ≡ Some l → slice_get list n ≡ Some o
    → IsTrue (list_before (key l.cite) (key o.cite))

-- some such triples in order, with their constraints
pub record AreSomeTriples (cells : List Cell) (pairs : List (ℕ × ℕ)) (list : List Listed) : Type 0 where
  pub each : (n : ℕ) (l : Listed) → slice_get list n ≡ Some l → IsTriple cells l.cite
  pub constraints_are : (n : ℕ) (l : Listed) → slice_get list n ≡ Some l → (g : Sheet) → IsConstraintOf g pairs l.cite l.constraint
  pub sorted : AreInOrder list

-- Where the cells have the face sets of a sheet, these are transitivity cites that hold, witnessed.
pub record AreWitnessed (g : Sheet) (list : List Listed) : Type 0 where
  pub witnessed : (n : ℕ) (l : Listed) → slice_get list n ≡ Some l → Witnessed g l.cite
  pub holds : (n : ℕ) (l : Listed) → slice_get list n ≡ Some l → Holds g l.cite
  pub small : (n : ℕ) (l : Listed) → slice_get list n ≡ Some l → HasSmallPlaces l.cite

-- and they are all of them
pub record AreTriples (cells : List Cell) (pairs : List (ℕ × ℕ)) (list : List Listed) : Type 0 where
  pub some : AreSomeTriples cells pairs list
  pub witnessed : (g : Sheet) → HaveFaceSets g cells → AreWitnessed g list
  pub all : (f h k : ℕ) → f < h → h < k → (i : ℕ) → HasThree cells i f h k → HasCite list (0 ∷ f ∷ h ∷ k ∷ [])
  pub complete : (g : Sheet) → HaveFaceSets g cells → (f h k : ℕ) (at : List Place) → Holds g (Transitivity f h k at)
      → HasCite list (0 ∷ f ∷ h ∷ k ∷ [])

-- Why there is no list: there are more than the limit, or memory was refused.
abbrev pub WhyNoTriples : List Cell → List (ℕ × ℕ) → No → Type 0
WhyNoTriples cells pairs NoMemory = Unit {0}
WhyNoTriples cells pairs (Refused r) = (r ≡ TooMany Constraints MOST_CONSTRAINTS)
    × ((list : List Listed) × AreSomeTriples cells pairs list × (MOST_CONSTRAINTS < length list)
    × ((g : Sheet) → HaveFaceSets g cells → AreWitnessed g list))

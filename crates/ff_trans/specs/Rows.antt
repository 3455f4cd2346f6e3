-- How the triples are found: for each pair the faces above it that share a cell with both.
-- For the proofs of this crate alone.
use Rattle.std.specs.Prelude.{◌≡◌, ℕ, ◌+◌, ◌<◌, ◌≤◌, true, ◌⊎◌, List, [], ◌∷◌, ◌++◌, length, slice_get, slice_index, slice_index_or, Option, Some, None}
use Rattle.std.specs.List.{Contains}
use Rattle.ff_basics.specs.NumberedLists.{list_at}
use Rattle.ff_types.specs.declared.cites.Cite.TheVariants.{Transitivity}
use Rattle.ff_types.specs.declared.cites.Listed.{Listed}
use Rattle.ff_types.specs.Sheets.{Sheet}
use Rattle.ff_types.specs.Cases.{IsConstraintOf}
use Rattle.ff_cells.specs.declared.cell.Cell.{Cell}
use Rattle.ff_types.specs.declared.limits.TheConstants.{MOST_CONSTRAINTS}
use Rattle.ff_whole.specs.declared.places.Place.{Place}
use Rattle.ff_trans.specs.declared.found.Found.{Found}
use Rattle.ff_trans.specs.Triples.{HasThree, HasCite, AreInOrder}

-- the cell at the place has the face
pub record HasFace (cells : List Cell) (i f : ℕ) : Type 0 where
  pub cell : Cell
  pub there : slice_get cells i ≡ Some cell
  pub face : Contains cell.faces f

-- those of the first n cells that have the face, in order
pub record AreCellsOf (cells : List Cell) (n f : ℕ) (list : List ℕ) : Type 0 where
  pub rising : (x y : ℕ) → x < y → y < length list → slice_index list x < slice_index list y
  pub each : (x : ℕ) → x < length list → (slice_index list x < n) × HasFace cells (slice_index list x) f
  pub all : (i : ℕ) → i < n → HasFace cells i f → (x : ℕ) × (x < length list) × (slice_index list x ≡ i)

-- numbers of cells, in order
pub record AreNumbered (cells : List Cell) (list : List ℕ) : Type 0 where
  pub rising : (x y : ℕ) → x < y → y < length list → slice_index list x < slice_index list y
  pub within : (x : ℕ) → x < length list → slice_index list x < length cells

-- the cells that have both faces, in order
pub record HoldBoth (cells : List Cell) (f h : ℕ) (list : List ℕ) : Type 0 where
  pub rising : (x y : ℕ) → x < y → y < length list → slice_index list x < slice_index list y
  pub each : (x : ℕ) → x < length list → HasFace cells (slice_index list x) f × HasFace cells (slice_index list x) h
  pub all : (i : ℕ) → HasFace cells i f → HasFace cells i h → (x : ℕ) × (x < length list) × (slice_index list x ≡ i)

-- so it is for each face below w
pub record AreIndexed (cells : List Cell) (n w : ℕ) (lists : List (List ℕ)) : Type 0 where
  pub long : length lists ≡ w
  pub each : (f : ℕ) → f < w → AreCellsOf cells n f (list_at lists f)

-- the cell has joined the lists of the faces from one place to before another, and no others
pub record IsPut (faces : List ℕ) (from n cell : ℕ) (old new : List (List ℕ)) : Type 0 where
  pub long : length new ≡ length old
  pub put : (j : ℕ) → from ≤ j → j < n → list_at new (slice_index faces j) ≡ list_at old (slice_index faces j) ++ cell ∷ []
  pub same : (f : ℕ) → ((j : ℕ) → from ≤ j → j < n → slice_index faces j ≡ f → ⊥) → list_at new f ≡ list_at old f

-- the place from which on the faces are above f
pub record IsPlaceAbove (faces : List ℕ) (f from : ℕ) : Type 0 where
  pub low : (j : ℕ) → j < from → slice_index faces j ≤ f
  pub high : (j : ℕ) → from ≤ j → j < length faces → f < slice_index faces j

-- the cell has joined the lists of the faces above f
abbrev pub IsPutAbove : List ℕ → ℕ → ℕ → List (List ℕ) → List (List ℕ) → Type 0
IsPutAbove faces f cell old new = (from : ℕ) × IsPlaceAbove faces f from × IsPut faces from (length faces) cell old new

-- those of the first n cells of the list that have the face, in order
pub record AreAmong (cells : List Cell) (list : List ℕ) (n h : ℕ) (some : List ℕ) : Type 0 where
  pub rising : (x y : ℕ) → x < y → y < length some → slice_index some x < slice_index some y
  pub each : (x : ℕ) → x < length some
      → ((y : ℕ) × (y < n) × (slice_index list y ≡ slice_index some x)) × HasFace cells (slice_index some x) h
  pub all : (y : ℕ) → y < n → HasFace cells (slice_index list y) h → (x : ℕ) × (x < length some) × (slice_index some x ≡ slice_index list y)

-- so it is for each face above f and below w
pub record AreSharedTo (cells : List Cell) (list : List ℕ) (n f w : ℕ) (lists : List (List ℕ)) : Type 0 where
  pub long : length lists ≡ w
  pub each : (h : ℕ) → f < h → h < w → AreAmong cells list n h (list_at lists h)

-- for each face above f and below w the cells that have both
pub record AreShared (cells : List Cell) (f w : ℕ) (lists : List (List ℕ)) : Type 0 where
  pub long : length lists ≡ w
  pub each : (h : ℕ) → f < h → h < w → HoldBoth cells f h (list_at lists h)

-- the entry of a row
abbrev pub row_at : List (Option ℕ) → ℕ → Option ℕ
row_at row k = slice_index_or row k None

-- no face has a cell
abbrev pub IsClear : List (Option ℕ) → Type 0
IsClear row = (k : ℕ) → row_at row k ≡ None

-- those of the faces from one place to before another that had no cell have this one now
pub record IsMarked (faces : List ℕ) (from n cell : ℕ) (old new : List (Option ℕ)) : Type 0 where
  pub long : length new ≡ length old
  pub kept : (k x : ℕ) → row_at old k ≡ Some x → row_at new k ≡ Some x
  pub marked : (j : ℕ) → from ≤ j → j < n → row_at old (slice_index faces j) ≡ None → row_at new (slice_index faces j) ≡ Some cell
  pub only : (k : ℕ) → row_at old k ≡ None
      → (row_at new k ≡ None) ⊎ ((row_at new k ≡ Some cell) × ((j : ℕ) × (from ≤ j) × (j < n) × (slice_index faces j ≡ k)))

-- so it is with the faces above h
abbrev pub IsMarkedAbove : List ℕ → ℕ → ℕ → List (Option ℕ) → List (Option ℕ) → Type 0
IsMarkedAbove faces h cell old new = (from : ℕ) × IsPlaceAbove faces h from × IsMarked faces from (length faces) cell old new

-- no face at `reach` or after has a cell
pub record IsReach (row : List (Option ℕ)) (reach : ℕ) : Type 0 where
  pub within : reach ≤ length row
  pub none : (k : ℕ) → reach ≤ k → row_at row k ≡ None

-- the rows are the same from there on
abbrev pub AreSameFrom : ℕ → List (Option ℕ) → List (Option ℕ) → Type 0
AreSameFrom from old new = (k : ℕ) → from ≤ k → row_at new k ≡ row_at old k

-- the first of the first n cells of the list that has the face
abbrev pub IsFirstOf : List Cell → List ℕ → ℕ → ℕ → Option ℕ → Type 0
IsFirstOf cells list n k None = (x : ℕ) → x < n → HasFace cells (slice_index list x) k → ⊥
IsFirstOf cells list n k (Some i) = ((x : ℕ) × (x < n) × (slice_index list x ≡ i)) × HasFace cells i k
    × ((x : ℕ) → x < n → slice_index list x < i → HasFace cells (slice_index list x) k → ⊥)

-- so it is for each face above h
pub record IsRowTo (cells : List Cell) (list : List ℕ) (n h w : ℕ) (row : List (Option ℕ)) : Type 0 where
  pub long : length row ≡ w
  pub each : (k : ℕ) → h < k → k < w → IsFirstOf cells list n k (row_at row k)
  pub low : (k : ℕ) → k ≤ h → row_at row k ≡ None

-- the first of all cells
abbrev pub IsFirst : List Cell → ℕ → ℕ → ℕ → Option ℕ → Type 0
IsFirst cells f h k None = (i : ℕ) → HasThree cells i f h k → ⊥
IsFirst cells f h k (Some i) = HasThree cells i f h k × ((j : ℕ) → j < i → HasThree cells j f h k → ⊥)

-- for each face above h the first cell that has it and both f and h
pub record IsRow (cells : List Cell) (f h w : ℕ) (row : List (Option ℕ)) : Type 0 where
  pub long : length row ≡ w
  pub each : (k : ℕ) → h < k → k < w → IsFirst cells f h k (row_at row k)
  pub low : (k : ℕ) → k ≤ h → row_at row k ≡ None

-- before the pair with the number n, or with it and a face below k
abbrev pub IsPrior : ℕ → ℕ → ℕ → ℕ → Type 0
IsPrior m d n k = (m < n) ⊎ ((m ≡ n) × (d < k))

-- a triple whose pair and third face come before n and k, with its constraint
pub record IsListedBefore (cells : List Cell) (pairs : List (ℕ × ℕ)) (n k : ℕ) (l : Listed) : Type 0 where
  pub f : ℕ
  pub h : ℕ
  pub third : ℕ
  pub number : ℕ
  pub pair : slice_get pairs number ≡ Some (f, h)
  pub above : h < third
  pub prior : IsPrior number third n k
  pub place : ℕ
  pub has : HasThree cells place f h third
  pub first : (i : ℕ) → i < place → HasThree cells i f h third → ⊥
  pub cite : l.cite ≡ Transitivity f h third has.cell.at
  pub constraint : (g : Sheet) → IsConstraintOf g pairs l.cite l.constraint

-- all of them, in order
pub record IsListedTo (cells : List Cell) (pairs : List (ℕ × ℕ)) (n k : ℕ) (list : List Listed) : Type 0 where
  pub only : (m : ℕ) (l : Listed) → slice_get list m ≡ Some l → IsListedBefore cells pairs n k l
  pub sorted : AreInOrder list
  pub all : (m f h third i : ℕ) → slice_get pairs m ≡ Some (f, h) → h < third → HasThree cells i f h third → IsPrior m third n k
      → HasCite list (0 ∷ f ∷ h ∷ third ∷ [])

-- the triples found so far are all of them; they are listed, where they are kept
pub record AreFoundTo (cells : List Cell) (pairs : List (ℕ × ℕ)) (n k : ℕ) (found : Found) : Type 0 where
  pub list : List Listed
  pub to : IsListedTo cells pairs n k list
  pub count : found.count ≡ length list
  pub kept : found.keeps ≡ true → found.list ≡ list
  pub room : length list ≤ MOST_CONSTRAINTS

-- an unkept triple counts, a kept one is listed too
pub record IsTaken (x : Listed) (old new : Found) : Type 0 where
  pub count : new.count ≡ old.count + 1
  pub keeps : new.keeps ≡ old.keeps
  pub listed : old.keeps ≡ true → new.list ≡ old.list ++ x ∷ []

-- a constraint of these faces, with the corners of a cell
pub record IsOfFaces (pairs : List (ℕ × ℕ)) (f h k : ℕ) (at : List Place) (x : Listed) : Type 0 where
  pub cite : x.cite ≡ Transitivity f h k at
  pub constraint : (g : Sheet) → IsConstraintOf g pairs x.cite x.constraint

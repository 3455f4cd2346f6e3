-- The sets of faces that lie over the places of a folded sheet. Layer orders over each cell; elementary.
use Rattle.std.specs.Prelude.{◌≡◌, ℕ, ◌-◌, ◌<◌, slice_index, pos, ◌≢◌, ◌⊎◌, Bool, not, List, length, IsTrue}
use Rattle.std.specs.List.{list_all, All, Contains}
use Rattle.std.specs.List.Sorted.{IsStrictlyIncreasing}
use Rattle.ff_whole.specs.declared.places.Place.{Place}
use Rattle.ff_whole.specs.declared.lines.Line.{Line}
use Rattle.ff_whole.specs.Places.{height, IsPlace}
use Rattle.ff_whole.specs.Sizes.{IsSmallPlace}
use Rattle.ff_types.specs.declared.limits.TheConstants.{MOST_FACES}
use Rattle.ff_types.specs.Sheets.{Sheet, edges_of}
use Rattle.ff_types.specs.Inside.{over}
use Rattle.ff_types.specs.Borders.{is_on}
use Rattle.ff_types.specs.Witnesses.{IsWitness}
use Rattle.ff_cells.specs.declared.cell.Cell.{Cell}

-- on no edge's image
abbrev pub is_off : Sheet → Place → Bool
is_off g s = list_all (λ e. not (is_on g e s)) (edges_of g)

-- A place on no edge's image and the faces over it: one of the sheet's face sets, where it isn't empty.
pub record IsFaceSet (g : Sheet) (faces : List ℕ) : Type 0 where
  pub at : Place
  pub place : IsPlace at
  pub off : IsTrue (is_off g at)
  pub same : faces ≡ over g at

-- a line has a direction
abbrev pub HasDirection : Line → Type 0
HasDirection l = (l.a ≢ pos 0) ⊎ (l.b ≢ pos 0)

-- no line holds all the places
abbrev pub AreOffLines : List Place → Type 0
AreOffLines places = (l : Line) → HasDirection l → All (λ s. height l s ≡ pos 0) places → ⊥

-- a face's number, above the one before
pub record IsNextFace (faces : List ℕ) (n : ℕ) : Type 0 where
  pub few : slice_index faces n < MOST_FACES
  pub after : 0 < n → slice_index faces (n - 1) < slice_index faces n

-- the cell's faces are numbers of faces, in increasing order
pub record IsFaceList (c : Cell) : Type 0 where
  pub rising : IsStrictlyIncreasing c.faces
  pub few : All (λ f. f < MOST_FACES) c.faces

-- The cell has a face set that isn't empty, and three corners that aren't on one line and witness it.
pub record IsCell (g : Sheet) (c : Cell) : Type 0 where
  pub some : 0 < length c.faces
  pub faces : IsFaceSet g c.faces
  pub witness : IsWitness g c.faces c.at
  pub apart : AreOffLines c.at
  -- of a size whose side may be asked
  pub small : All IsSmallPlace c.at

-- The cells have the face sets of the sheet, and no others.
pub record HaveFaceSets (g : Sheet) (cells : List Cell) : Type 0 where
  pub each : (c : Cell) → Contains cells c → IsCell g c
  -- over every place on no edge's image, unless no face lies there
  pub all : (s : Place) → IsPlace s → IsTrue (is_off g s) → 0 < length (over g s)
      → (c : Cell) × Contains cells c × (c.faces ≡ over g s)
  -- the faces over any other place are together in some face set too
  pub together : (s : Place) → IsPlace s → 0 < length (over g s)
      → (c : Cell) × Contains cells c × ((f : ℕ) → Contains (over g s) f → Contains c.faces f)

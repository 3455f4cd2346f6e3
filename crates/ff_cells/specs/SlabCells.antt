-- Slab cells: the parts of the folded sheet between neighbouring borders, which run from below to above, and
-- neighbouring images of edges. This project's own; slabs are those of plane sweeps.
use Rattle.std.specs.Prelude.{ℕ, ◌≡◌, ◌≢◌, ◌⊎◌, ◌<◌, ◌≤◌, pos, ◌*ℤ◌, ◌<ℤ◌, false, List, [], ◌∷◌, map, length, slice_index_or, IsTrue}
use Rattle.std.specs.List.{All, Contains, sum_by}
use Rattle.ff_whole.specs.declared.places.Place.{Place}
use Rattle.ff_whole.specs.Places.{place_of, IsPlace}
use Rattle.ff_whole.specs.Sizes.{IsSmallPlace}
use Rattle.ff_whole.specs.Convex.{point_at}
use Rattle.ff_types.specs.Sheets.{Sheet}
use Rattle.ff_types.specs.Inside.{over}
use Rattle.ff_types.specs.Borders.{is_on, are_parallel}
use Rattle.ff_types.specs.Witnesses.{IsWitness}
use Rattle.ff_types.specs.declared.refusals.No.{No}
use Rattle.ff_types.specs.declared.refusals.No.TheVariants.{Refused, NoMemory}
use Rattle.ff_types.specs.declared.refusals.Refusal.TheVariants.{TooMany}
use Rattle.ff_types.specs.declared.refusals.What.TheVariants.{Cells, Entries}
use Rattle.ff_cells.specs.declared.cell.Cell.{Cell}
use Rattle.ff_types.specs.declared.limits.TheConstants.{MOST_CELLS, MOST_ENTRIES}
use Rattle.ff_cells.specs.FaceSets.{is_off, AreOffLines}
use Rattle.ff_cells.specs.Gap.{run}
use Rattle.ff_cells.specs.Sheet.{total}

-- on the images of two edges that aren't parallel
pub record IsCrossing (g : Sheet) (e k : ℕ) (s : Place) : Type 0 where
  pub first : e < length g.edges
  pub second : k < length g.edges
  pub across : are_parallel g e k ≡ false
  pub on_first : IsTrue (is_on g e s)
  pub on_second : IsTrue (is_on g k s)

-- A border runs through the place: the image of a vertex, or a place on the images of two edges that aren't
-- parallel.
abbrev pub IsOnBorder : Sheet → Place → Type 0
IsOnBorder g b = ((v : ℕ) × (v < length g.images) × (b ≡ place_of (point_at g.images v)))
    ⊎ ((e k : ℕ) × IsCrossing g e k b)

-- some border is strictly between s on the left and t on the right; `run p q` is how far q is right of p
abbrev pub IsLeftOf : Sheet → Place → Place → Type 0
IsLeftOf g s t = (b : Place) × IsPlace b × IsOnBorder g b × (pos 0 <ℤ run s b) × (pos 0 <ℤ run b t)

-- the image of the edge passes strictly below the place, or strictly above it
abbrev pub PassesBelow : Sheet → ℕ → Place → Type 0
PassesBelow g e s = (t : Place) × IsPlace t × IsTrue (is_on g e t) × (run s t ≡ pos 0)
    × ((t.y *ℤ s.w) <ℤ (s.y *ℤ t.w))

-- the edge passes above the place
abbrev pub PassesAbove : Sheet → ℕ → Place → Type 0
PassesAbove g e s = (t : Place) × IsPlace t × IsTrue (is_on g e t) × (run s t ≡ pos 0)
    × ((s.y *ℤ t.w) <ℤ (t.y *ℤ s.w))

-- some edge's image passes between s below and t above
abbrev pub IsBelow : Sheet → Place → Place → Type 0
IsBelow g s t = (e : ℕ) × (e < length g.edges) × PassesAbove g e s × PassesBelow g e t

-- strictly inside a slab cell: off borders and off edges' images, and inside some face
pub record IsInCell (g : Sheet) (s : Place) : Type 0 where
  pub place : IsPlace s
  pub between : (b : Place) → IsPlace b → IsOnBorder g b → run b s ≢ pos 0
  pub off : IsTrue (is_off g s)
  pub some : 0 < length (over g s)

-- From left to right, and then upwards. Two places in slab cells of which none comes before the other are in
-- one cell.
abbrev pub IsBefore : Sheet → Place → Place → Type 0
IsBefore g s t = IsLeftOf g s t ⊎ ((IsLeftOf g t s → ⊥) × IsBelow g s t)

-- each comes before all that follow it
abbrev pub AreInOrder : Sheet → List Place → Type 0
AreInOrder g [] = Unit {0}
AreInOrder g (s ∷ places) = All (IsBefore g s) places × AreInOrder g places

-- places in different slab cells, in the order of these
pub record StandInCells (g : Sheet) (places : List Place) : Type 0 where
  pub each : All (IsInCell g) places
  pub in_order : AreInOrder g places

-- One place in each slab cell. So any two such lists have one length: the number of slab cells.
pub record AreOneEach (g : Sheet) (places : List Place) : Type 0 where
  pub stand : StandInCells g places
  pub all : (s : Place) → IsInCell g s
      → (t : Place) × Contains places t × (IsBefore g s t → ⊥) × (IsBefore g t s → ⊥)

-- the entries of these slab cells: the faces over each
abbrev pub entries : Sheet → List Place → ℕ
entries g places = sum_by (λ s. length (over g s)) places

-- s is a corner of the slab cell in which m is
pub record IsCornerOf (g : Sheet) (m s : Place) : Type 0 where
  -- it is on a border, and none is strictly between
  pub border : (b : Place) × IsPlace b × IsOnBorder g b × (run b s ≡ pos 0)
  pub not_left : IsLeftOf g s m → ⊥
  pub not_right : IsLeftOf g m s → ⊥
  -- it is on the image of an edge that passes below the cell or above it, and no other passes between
  pub on : (e : ℕ) × (e < length g.edges) × IsTrue (is_on g e s) × (PassesBelow g e m ⊎ PassesAbove g e m)
  pub not_below : IsBelow g s m → ⊥
  pub not_above : IsBelow g m s → ⊥

-- a place in the middle of the three places, or nearly so
abbrev pub middle : List Place → Place
middle (a ∷ b ∷ c ∷ []) = total a b c
middle _ = record { x = pos 0; y = pos 0; w = pos 0 }

-- The cell has the faces over a slab cell, and three corners of it that aren't on one line and witness them.
pub record IsSlabCell (g : Sheet) (c : Cell) : Type 0 where
  pub faces : c.faces ≡ over g (middle c.at)
  pub corners : All (IsCornerOf g (middle c.at)) c.at
  pub apart : AreOffLines c.at
  pub witness : IsWitness g c.faces c.at
  -- of a size whose side may be asked
  pub small : All IsSmallPlace c.at

-- s comes before t, or both are in one slab cell
abbrev pub IsNotAfter : Sheet → Place → Place → Type 0
IsNotAfter g s t = IsBefore g s t ⊎ ((IsBefore g s t → ⊥) × (IsBefore g t s → ⊥))

-- The first slab cell of each different set of faces, each once, in the order of the slab cells.
pub record AreCells (g : Sheet) (cells : List Cell) : Type 0 where
  pub each : All (IsSlabCell g) cells
  -- in different slab cells, in the order of these
  pub stand : StandInCells g (map (λ c. middle c.at) cells)
  -- with different sets
  pub apart : (m n : ℕ) (d : Cell) → m < n → n < length cells
      → (slice_index_or cells m d).faces ≢ (slice_index_or cells n d).faces
  -- the set over each slab cell, at that slab cell or at one before it
  pub first : (s : Place) → IsInCell g s → (c : Cell) × Contains cells c × (c.faces ≡ over g s)
      × IsNotAfter g (middle c.at) s

-- slab cells and entries within their limits
pub record HasFewCells (g : Sheet) : Type 0 where
  pub places : List Place
  pub one_each : AreOneEach g places
  pub few : length places ≤ MOST_CELLS
  pub few_entries : entries g places ≤ MOST_ENTRIES

-- Why there are no cells: there are too many slab cells, or not too many but too many entries, or memory was
-- refused.
abbrev pub WhyNoCells : Sheet → No → Type 0
WhyNoCells g NoMemory = Unit {0}
WhyNoCells g (Refused r) =
    ((r ≡ TooMany Cells MOST_CELLS)
    × ((places : List Place) × StandInCells g places × (MOST_CELLS < length places)))
    ⊎ ((r ≡ TooMany Entries MOST_ENTRIES) × ((places : List Place) × AreOneEach g places
    × (length places ≤ MOST_CELLS) × (MOST_ENTRIES < entries g places)))

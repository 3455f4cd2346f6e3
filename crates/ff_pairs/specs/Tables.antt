-- A square table of flags, a row for each face: which pairs have been met in the cells so far.
-- For the proofs of this crate alone.
use Rattle.std.specs.Prelude.{◌≡◌, ℕ, ◌+◌, ◌*◌, ◌<◌, ◌≤◌, ◌⊎◌, ◌↔◌, Bool, false, List, length, slice_index_or, slice_get, Some, IsTrue}
use Rattle.ff_types.specs.Pairs.{AreSorted}
use Rattle.ff_cells.specs.declared.cell.Cell.{Cell}
use Rattle.ff_pairs.specs.Together.{IsListed}

-- the pair is marked in the table
abbrev pub is_marked : ℕ → List Bool → ℕ → ℕ → Bool
is_marked width table f h = slice_index_or table (f * width + h) false

-- the new table has besides what the old one has the pairs that are related
pub record Adds (width : ℕ) (old new : List Bool) (Related : ℕ → ℕ → Type 0) : Type 0 where
  pub long : length new ≡ length old
  pub adds : (f h : ℕ) → f < width → h < width
      → IsTrue (is_marked width new f h) ↔ (IsTrue (is_marked width old f h) ⊎ Related f h)

-- x stands at the place k
abbrev pub StandsAt : List ℕ → ℕ → ℕ → Type 0
StandsAt xs k x = (k < length xs) × (slice_index_or xs k x ≡ x)

-- f stands at the place i of the list, and h behind it before the place n
abbrev pub IsBehind : List ℕ → ℕ → ℕ → ℕ → ℕ → Type 0
IsBehind faces i n f h = StandsAt faces i f × ((k : ℕ) × (i < k) × (k < n) × StandsAt faces k h)

-- h stands at the place i of the list, and f before it and the place n
abbrev pub IsAhead : List ℕ → ℕ → ℕ → ℕ → ℕ → Type 0
IsAhead faces i n f h = StandsAt faces i h × ((k : ℕ) × (k < i) × (k < n) × StandsAt faces k f)

-- f stands before h, and one of the two at the place i of the list
abbrev pub IsAside : List ℕ → ℕ → ℕ → ℕ → Type 0
IsAside faces i f h = IsAhead faces i i f h ⊎ IsBehind faces i (length faces) f h

-- f stands before the place n of the list, and h behind it
abbrev pub IsOrdered : List ℕ → ℕ → ℕ → ℕ → Type 0
IsOrdered faces n f h = (i : ℕ) × (i < n) × IsBehind faces i (length faces) f h

-- so it is in one of the first n cells
abbrev pub IsInCells : List Cell → ℕ → ℕ → ℕ → Type 0
IsInCells cells n f h = (k : ℕ) × (c : Cell) × (k < n) × (slice_get cells k ≡ Some c) × IsOrdered c.faces (length c.faces) f h

-- S relates each pair that R does
abbrev pub IsWithin : (ℕ → ℕ → Type 0) → (ℕ → ℕ → Type 0) → Type 0
IsWithin R S = (f h : ℕ) → R f h → S f h

-- the table has the pairs that are related
abbrev pub AreAllMarked : ℕ → List Bool → (ℕ → ℕ → Type 0) → Type 0
AreAllMarked width table Related = (f h : ℕ) → f < width → h < width → Related f h → IsTrue (is_marked width table f h)

-- each face's reach is past all faces that are marked with it
pub record IsReach (width : ℕ) (table : List Bool) (reach : List ℕ) : Type 0 where
  pub long : length reach ≡ width
  pub past : (f h : ℕ) → f < width → h < width → IsTrue (is_marked width table f h) → h < slice_index_or reach f 0
  pub small : (f : ℕ) → slice_index_or reach f 0 ≤ width

-- no reach is smaller than before, none of the first n faces' is below `past`, and none goes above both
pub record AreRaised (old new faces : List ℕ) (n past : ℕ) : Type 0 where
  pub long : length new ≡ length old
  pub kept : (f : ℕ) → slice_index_or old f 0 ≤ slice_index_or new f 0
  pub raised : (i : ℕ) → i < n → past ≤ slice_index_or new (slice_index_or faces i 0) 0
  pub small : (f w : ℕ) → past ≤ w → slice_index_or old f 0 ≤ w → slice_index_or new f 0 ≤ w

-- the pair comes before (f, h)
abbrev pub IsPrior : ℕ × ℕ → ℕ → ℕ → Type 0
IsPrior p f h = (p.0 < f) ⊎ ((p.0 ≡ f) × (p.1 < h))

-- both are faces, and the table has them
abbrev pub AreMarked : ℕ → List Bool → ℕ → ℕ → Type 0
AreMarked width table f h = (f < width) × (h < width) × IsTrue (is_marked width table f h)

-- the list has the pairs of the table before (f, h), in order
pub record IsListedTo (width : ℕ) (table : List Bool) (f h : ℕ) (list : List (ℕ × ℕ)) : Type 0 where
  pub sorted : AreSorted list
  pub only : (n : ℕ) (p : ℕ × ℕ) → slice_get list n ≡ Some p → AreMarked width table p.0 p.1 × IsPrior p f h
  pub all : (a b : ℕ) → a < b → AreMarked width table a b → IsPrior (a, b) f h → IsListed list a b

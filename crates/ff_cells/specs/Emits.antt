-- The cells of a slab: one for each gap between neighbours that is open and in a face.
-- For the proofs of this crate alone.
use Rattle.std.specs.Prelude.{ℕ, zero, suc, ◌≡◌, ◌⊎◌, ◌↔◌, ◌+◌, ◌<◌, List, [], ◌∷◌, ◌++◌, length, slice_index_or, pos, ◌<ℤ◌}
use Rattle.std.specs.List.{Contains}
use Rattle.std.specs.List.Sorted.{IsStrictlyIncreasing}
use Rattle.ff_whole.specs.declared.lines.Line.{Line}
use Rattle.ff_whole.specs.declared.places.Place.{Place}
use Rattle.ff_cells.specs.declared.bars.Bar.{Bar}
use Rattle.ff_cells.specs.declared.cell.Cell.{Cell}
use Rattle.ff_cells.specs.Gap.{gap}
use Rattle.ff_cells.specs.Sheet.{IsCorners}
use Rattle.ff_cells.specs.Next.{IsOpenAfter}

-- the gap between the lines is open at the place, which is one of the two
abbrev pub OpensAt : Place → Place → Line → Line → Place → Type 0
OpensAt left right k l top = ((top ≡ left) × (pos 0 <ℤ gap k l left)) ⊎ ((top ≡ right) × (pos 0 <ℤ gap k l right))

-- the cell has these faces, and corners of the gap between the lines
pub record IsGapCell (faces : List ℕ) (left right : Place) (k l : Line) (c : Cell) : Type 0 where
  pub faces_are : c.faces ≡ faces
  pub low_left : Place
  pub low_right : Place
  pub top : Place
  pub at_is : c.at ≡ low_left ∷ low_right ∷ top ∷ []
  pub corners : IsCorners left right k l low_left low_right top

-- the cell of the gap below the bar n
pub record IsCellAt (v : List Bar) (left right : Place) (n : ℕ) (c : Cell) : Type 0 where
  pub low : Bar
  pub high : Bar
  pub within : n < length v
  pub first : 0 < n
  pub low_is : (k : ℕ) → k + 1 ≡ n → slice_index_or v k low ≡ low
  pub high_is : slice_index_or v n high ≡ high
  pub opens : (pos 0 <ℤ gap low.line high.line left) ⊎ (pos 0 <ℤ gap low.line high.line right)
  pub rising : IsStrictlyIncreasing c.faces
  pub some : 0 < length c.faces
  pub faces : (f : ℕ) → Contains c.faces f ↔ IsOpenAfter v n f
  pub low_left : Place
  pub low_right : Place
  pub top : Place
  pub at_is : c.at ≡ low_left ∷ low_right ∷ top ∷ []
  pub corners : IsCorners left right low.line high.line low_left low_right top

-- there is none: no bar below it, no face over it, or both bars coincide in the slab
abbrev pub HasNone : List Bar → Place → Place → ℕ → Type 0
HasNone v left right n = (n ≡ 0) ⊎ (((f : ℕ) → IsOpenAfter v n f → ⊥)
    ⊎ ((k : ℕ) → k + 1 ≡ n → (d : Bar)
    → (gap (slice_index_or v k d).line (slice_index_or v n d).line left ≡ pos 0)
    × (gap (slice_index_or v k d).line (slice_index_or v n d).line right ≡ pos 0)))

-- the cells below the first n bars, from below to above
abbrev pub IsEmitted : List Bar → Place → Place → ℕ → List Cell → Type 0
IsEmitted v left right zero cs = cs ≡ []
IsEmitted v left right (suc n) cs = (IsEmitted v left right n cs × HasNone v left right n)
    ⊎ ((before : List Cell) × (c : Cell) × (cs ≡ before ++ c ∷ []) × IsEmitted v left right n before
    × IsCellAt v left right n c)

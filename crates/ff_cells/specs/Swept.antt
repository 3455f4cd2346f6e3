-- The cells of the slabs of a strip, from left to right.
-- For the proofs of this crate alone.
use Rattle.std.specs.Prelude.{ℕ, zero, suc, ◌≡◌, ◌++◌, List, [], length, pos, ◌<ℤ◌}
use Rattle.std.specs.List.Sorted.{IsPermutation}
use Rattle.ff_whole.specs.declared.places.Place.{Place}
use Rattle.ff_cells.specs.declared.bars.Bar.{Bar}
use Rattle.ff_cells.specs.declared.cell.Cell.{Cell}
use Rattle.ff_cells.specs.Next.{StartsUp, IsNext}
use Rattle.ff_cells.specs.Emits.{IsEmitted}

-- one slab: the bars in order at its left border, its right border and its cells
pub record IsSlabOf (bars : List Bar) (limit left right : Place) (cs : List Cell) : Type 0 where
  pub stack : List Bar
  pub same : IsPermutation bars stack
  pub positive : pos 0 <ℤ left.w
  pub ends : pos 0 <ℤ right.w
  pub starts : StartsUp left stack
  pub next : IsNext left limit stack (length stack) right
  pub emitted : IsEmitted stack left right (length stack) cs

-- n slabs from the first border on, the last of which ends at left
abbrev pub IsSwept : List Bar → Place → Place → ℕ → Place → List Cell → Type 0
IsSwept bars from limit zero left cs = (left ≡ from) × (cs ≡ [])
IsSwept bars from limit (suc n) left cs = (prev : Place) × (before : List Cell) × (more : List Cell)
    × (cs ≡ before ++ more) × IsSwept bars from limit n prev before × IsSlabOf bars limit prev left more

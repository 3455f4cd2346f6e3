-- The bars of a strip between two neighbouring ends of bars.
-- For the proofs of this crate alone.
use Rattle.std.specs.Prelude.{ℕ, zero, suc, ◌+◌, ◌≡◌, List, [], ◌++◌, filter, slice_index_or, ℤ, pos, Bool, false, ◌&&◌, int_le}
use Rattle.ff_whole.specs.declared.places.Place.{Place}
use Rattle.ff_cells.specs.Before.{x_before}
use Rattle.ff_cells.specs.declared.cell.Cell.{Cell}
use Rattle.ff_cells.specs.Swept.{IsSwept}
use Rattle.ff_cells.specs.declared.bars.Bar.{Bar}

-- the bar goes from one border of the strip to the other
abbrev pub spans_strip : ℤ → ℤ → Bar → Bool
spans_strip a c b = int_le b.lo.x a && int_le c b.hi.x

-- the place of an x
abbrev pub at_x : ℤ → Place
at_x x = record { x = x; y = pos 0; w = pos 1 }

-- an x of the list, whose number is to be below the length
abbrev pub x_at : List ℤ → ℕ → ℤ
x_at xs n = slice_index_or xs n (pos 0)

-- the bars that span the n-th strip
abbrev pub bars_of_strip : List Bar → List ℤ → ℕ → List Bar
bars_of_strip bars xs n = filter (spans_strip (x_at xs n) (x_at xs (n + 1))) bars

-- the cells of the first n strips, from left to right
abbrev pub IsCells : List Bar → List ℤ → ℕ → List Cell → Type 0
IsCells bars xs zero cs = cs ≡ []
IsCells bars xs (suc n) cs = (before : List Cell) × (more : List Cell) × (cs ≡ before ++ more)
    × IsCells bars xs n before
    × (m : ℕ) × (last : Place) × (x_before last (at_x (x_at xs (n + 1))) ≡ false)
    × IsSwept (bars_of_strip bars xs n) (at_x (x_at xs n)) (at_x (x_at xs (n + 1))) m last more

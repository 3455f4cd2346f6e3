-- The first cell of each different set of faces, in the order of the cells.
-- For the proofs of this crate alone.
use Rattle.std.specs.Prelude.{ℕ, ◌≡◌, Bool, List, [], ◌∷◌, ◌++◌, Vec, is_some, if◌then◌else◌}
use Rattle.std.specs.List.{list_any}
use Rattle.std.specs.Ordering.{is_eq, nat_cmp}
use Rattle.std.specs.declared.cmp.Ordering.{Ordering}
use Rattle.std.specs.Cmp.Lexicographic.{slice_cmp}
use Rattle.std.specs.BTreeMap.{BTreeMap, get}
use Rattle.std.specs.declared.alloc.Global.{Global}
use Rattle.ff_cells.specs.declared.cell.Cell.{Cell}

-- whether the lists are equal
abbrev pub are_same : List ℕ → List ℕ → Bool
are_same xs ys = is_eq (slice_cmp nat_cmp xs ys)

-- whether one of the cells has these faces
abbrev pub has_set : List Cell → List ℕ → Bool
has_set cells faces = list_any (λ c. are_same c.faces faces) cells

-- with the next cell, unless one of the cells kept has its faces
abbrev pub with_next : List Cell → Cell → List Cell
with_next kept c = if has_set kept c.faces then kept else kept ++ c ∷ []

-- with those of further cells of which none of the cells kept has the faces
abbrev pub firsts_from : List Cell → List Cell → List Cell
firsts_from kept [] = kept
firsts_from kept (c ∷ cs) = firsts_from (with_next kept c) cs

-- the first cell of each set
abbrev pub firsts : List Cell → List Cell
firsts cs = firsts_from [] cs

-- how lists of faces are compared
abbrev pub faces_cmp : Vec ℕ Global → Vec ℕ Global → Ordering
faces_cmp x y = slice_cmp nat_cmp x.items y.items

-- the map has the sets of these cells
abbrev pub AreNumbered : List Cell → BTreeMap (Vec ℕ Global) ℕ → Type 0
AreNumbered cells places = (q : Vec ℕ Global) → is_some (get faces_cmp places q) ≡ has_set cells q.items

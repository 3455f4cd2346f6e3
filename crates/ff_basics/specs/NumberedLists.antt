-- A list for each number, as vectors in a vector. This project's own.
use Rattle.std.specs.Prelude.{ℕ, List, [], map, slice_index_or, Vec}
use Rattle.std.specs.declared.alloc.Global.{Global}

-- the lists that the vectors hold
abbrev pub lists_in : List (Vec ℕ Global) → List (List ℕ)
lists_in vs = map (λ v. v.items) vs

-- the list of a number, and none past the last
abbrev pub list_at : List (List ℕ) → ℕ → List ℕ
list_at lists v = slice_index_or lists v []

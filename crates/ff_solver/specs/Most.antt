-- How many nodes are left at most.
-- For the proofs of this crate alone.
use Rattle.std.specs.Prelude.{ℕ, ◌+◌, ◌-◌, zero, suc, List, [], ◌∷◌, length, Option, Some, None}
use Rattle.ff_solver.specs.declared.path.Path.{Path}

-- how many nodes a tree has at most whose branches decide so many variables
abbrev pub most_nodes : ℕ → ℕ
most_nodes zero = 1
most_nodes (suc n) = suc (most_nodes n + most_nodes n)

-- how many are left at most below the branches
abbrev pub most_left : ℕ → List ℕ → ℕ
most_left vars [] = 0
most_left vars (m ∷ marks) = most_nodes (vars - suc m) + most_left vars marks

-- how many are left at most below the next node, where there is one
abbrev pub most_below : ℕ → ℕ → Option ℕ → ℕ
most_below vars steps None = 0
most_below vars steps (Some head) = most_nodes (vars - steps)

-- how many are left at most
abbrev pub most_of : ℕ → Path → ℕ
most_of vars p = most_below vars (length p.trail.steps.items) p.next + most_left vars p.branches.items

-- The decision tree of a part, its turns and the ends of its pages. This project's own.
use Rattle.std.specs.Prelude.{◌≡◌, ℕ, zero, suc, ◌+◌, ◌*◌, ◌<◌, ◌≤◌, ◌⊎◌, List, [], ◌∷◌, ◌++◌, length, slice_index, slice_index_or, Option, Some, None, Contains, filter_map, take, drop}
use Rattle.ff_tables.specs.declared.orders.Order.{Order}
use Rattle.ff_tables.specs.declared.orders.Order.TheVariants.{Below, Above}
use Rattle.ff_tables.specs.declared.terms.Constraint.{Constraint}
use Rattle.ff_propagate.specs.Closure.{InClosure, Clashes}

-- a leaf with a clash, a leaf with all the part's variables decided, or a node with two children
pub data Tree : Type 0 where
  Clash : Tree
  Full : List Order → Tree
  Fork : Tree → Tree → Tree

-- what a board has, and the values that were tried
abbrev pub With : (ℕ → Order → Type 0) → List (ℕ × Order) → ℕ → Order → Type 0
With base tried v s = base v s ⊎ Contains tried (v, s)

-- The set of a node is the closure of its parent's set and the tried value, which is that of the board and of
-- all that was tried on the way.
abbrev pub AtNode : List Constraint → (ℕ → Order → Type 0) → List (ℕ × Order) → ℕ → Order → Type 0
AtNode cons base tried v s = InClosure cons (With base tried) v s

-- what was tried clashes
abbrev pub IsClashNode : List Constraint → (ℕ → Order → Type 0) → List (ℕ × Order) → Type 0
IsClashNode cons base tried = Clashes cons (With base tried)

-- the variable has a value once what was tried is closed
abbrev pub IsDecidedAt : List Constraint → (ℕ → Order → Type 0) → List (ℕ × Order) → ℕ → Type 0
IsDecidedAt cons base tried v = (s : Order) × AtNode cons base tried v s

-- the values are those that the node has of the part's variables
pub record HasValues (cons : List Constraint) (base : ℕ → Order → Type 0) (tried : List (ℕ × Order))
    (vars : List ℕ) (values : List Order) : Type 0 where
  pub as_many : length values ≡ length vars
  pub has : (j : ℕ) → j < length vars → AtNode cons base tried (slice_index vars j) (slice_index_or values j Below)

-- the least undecided variable of the part
pub record IsBranching (cons : List Constraint) (base : ℕ → Order → Type 0) (tried : List (ℕ × Order))
    (vars : List ℕ) (v : ℕ) : Type 0 where
  pub place : ℕ
  pub inside : place < length vars
  pub is : slice_index vars place ≡ v
  pub undecided : IsDecidedAt cons base tried v → ⊥
  pub earlier : (j : ℕ) → j < place → IsDecidedAt cons base tried (slice_index vars j)

-- The tree below a node where these values were tried.
abbrev pub IsTreeAt : List Constraint → (ℕ → Order → Type 0) → List ℕ → List (ℕ × Order) → Tree → Type 0
IsTreeAt cons base vars tried Clash = IsClashNode cons base tried
IsTreeAt cons base vars tried (Full values) = (IsClashNode cons base tried → ⊥)
    × HasValues cons base tried vars values
IsTreeAt cons base vars tried (Fork below above) = (IsClashNode cons base tried → ⊥)
    × ((v : ℕ) × IsBranching cons base tried vars v
    × IsTreeAt cons base vars ((v, Below) ∷ tried) below × IsTreeAt cons base vars ((v, Above) ∷ tried) above)

-- The decision tree of the part, with the board at its root.
abbrev pub IsTree : List Constraint → (ℕ → Option Order) → List ℕ → Tree → Type 0
IsTree cons value vars tree = IsTreeAt cons (λ v s. value v ≡ Some s) vars [] tree

-- the nodes in tree order: node, first child, second child; each with its solution, where it is one
abbrev pub visits : Tree → List (Option (List Order))
visits Clash = None ∷ []
visits (Full values) = Some values ∷ []
visits (Fork below above) = None ∷ (visits below ++ visits above)

-- the node as it is
abbrev pub same : Option (List Order) → Option (List Order)
same o = o

-- the solutions among the first nodes
abbrev pub found : List (Option (List Order)) → List (List Order)
found nodes = filter_map same nodes

-- each node costs as many turns as the part has variables
abbrev pub turns_of : List ℕ → Tree → ℕ
turns_of vars tree = length vars * length (visits tree)

-- how many nodes there are up to the solution with this number, or in all where there are fewer solutions
abbrev pub nodes_to : ℕ → List (Option (List Order)) → ℕ
nodes_to n [] = 0
nodes_to n (None ∷ nodes) = 1 + nodes_to n nodes
nodes_to zero (Some values ∷ nodes) = 1
nodes_to (suc n) (Some values ∷ nodes) = 1 + nodes_to n nodes

-- the turns of the end of a page of 64
abbrev pub turns_to_page : List ℕ → Tree → ℕ → ℕ
turns_to_page vars tree k = length vars * nodes_to (64 * k + 63) (visits tree)

-- the budget covers all nodes of the tree
abbrev pub IsFinished : List ℕ → Tree → ℕ → Type 0
IsFinished vars tree budget = turns_of vars tree ≤ budget

-- the solutions of a page
abbrev pub page_of : ℕ → List (List Order) → List (List Order)
page_of k solutions = take 64 (drop (64 * k) solutions)

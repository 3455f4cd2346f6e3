-- Where a search stands in its decision tree.
use Rattle.std.specs.Prelude.{◌≡◌, ℕ, ◌<◌, ◌≤◌, ◌++◌, List, [], ◌∷◌, length, reverse, slice_get, slice_index, slice_index_or, Option, Some, None, vec_capacity}
use Rattle.ff_tables.specs.declared.orders.Order.{Order}
use Rattle.ff_tables.specs.declared.orders.Order.TheVariants.{Below, Above}
use Rattle.ff_tables.specs.declared.terms.Constraint.{Constraint}
use Rattle.ff_tables.specs.Forces.{Knows}
use Rattle.ff_propagate.specs.declared.trail.Trail.{Trail}
use Rattle.ff_propagate.specs.Trails.{known, step_at, cut, IsTrail, IsSilent, AreReady}
use Rattle.ff_propagate.specs.Trees.{Tree, With, AtNode, IsTreeAt, visits}
use Rattle.ff_solver.specs.declared.path.Path.{Path}

-- no constraint forces more
abbrev pub AreSilent : List Constraint → (ℕ → Option Order) → Type 0
AreSilent cons f = (c : ℕ) (con : Constraint) → slice_get cons c ≡ Some con → IsSilent f con

-- The values are within the closure of a board's values and those that were tried, and hold these.
pub record IsAtNode (cons : List Constraint) (value : ℕ → Option Order) (tried : List (ℕ × Order))
    (f : ℕ → Option Order) : Type 0 where
  pub inside : (v : ℕ) (s : Order) → f v ≡ Some s → AtNode cons (Knows value) tried v s
  pub holds : (v : ℕ) (s : Order) → With (Knows value) tried v s → f v ≡ Some s

-- the marks, the last first: at each of them, when the trail had this length, no constraint forced more
abbrev pub AreMarks : List Constraint → Trail → ℕ → List ℕ → Type 0
AreMarks cons t bound [] = Unit {0}
AreMarks cons t bound (m ∷ marks) = (m < bound) × AreSilent cons (cut t m) × AreMarks cons t m marks

-- a trail with a mark for each branch, and room for as many branches as there are variables
pub record IsPath (vars : ℕ) (cons : List Constraint) (p : Path) : Type 0 where
  pub trail : IsTrail vars p.trail
  pub marks : AreMarks cons p.trail (length p.trail.steps.items) (reverse p.branches.items)
  pub room : vars ≤ vec_capacity p.branches

-- the tree is below the other value of the variable that was decided at the mark
pub record IsBranch (cons : List Constraint) (value : ℕ → Option Order) (part : List ℕ) (t : Trail) (m : ℕ)
    (tree : Tree) : Type 0 where
  pub tried : List (ℕ × Order)
  pub node : IsAtNode cons value tried (cut t m)
  pub below : IsTreeAt cons (Knows value) part (((step_at t m).var, Above) ∷ tried) tree

-- the trees of the branches that are left, the last first
abbrev pub AreBranches : List Constraint → (ℕ → Option Order) → List ℕ → Trail → List ℕ → List Tree → Type 0
AreBranches cons value part t [] [] = Unit {0}
AreBranches cons value part t (m ∷ marks) (tree ∷ trees) = IsBranch cons value part t m tree
    × AreBranches cons value part t marks trees
AreBranches cons value part t _ _ = ⊥

-- the nodes of a tree in order, each with the solution that it is or none
abbrev pub Nodes : Type 0
Nodes = List (Option (List Order))

-- the nodes of the trees, one tree after the other
abbrev pub nodes_of : List Tree → Nodes
nodes_of [] = []
nodes_of (tree ∷ trees) = visits tree ++ nodes_of trees

-- the nodes of the branches that are left
pub record ArePending (cons : List Constraint) (value : ℕ → Option Order) (part : List ℕ) (p : Path)
    (nodes : Nodes) : Type 0 where
  pub trees : List Tree
  pub branches : AreBranches cons value part p.trail (reverse p.branches.items) trees
  pub are : nodes ≡ nodes_of trees

-- the nodes of the tree below the present node, whose closure is to be made, and those of the branches that are left
pub record AreNext (cons : List Constraint) (value : ℕ → Option Order) (part : List ℕ) (p : Path)
    (nodes : Nodes) : Type 0 where
  pub tried : List (ℕ × Order)
  pub tree : Tree
  pub later : Nodes
  pub node : IsAtNode cons value tried (known p.trail)
  pub below : IsTreeAt cons (Knows value) part tried tree
  pub pending : ArePending cons value part p later
  pub are : nodes ≡ visits tree ++ later

-- the nodes that are left to be visited, in tree order
abbrev pub AreLeft : List Constraint → (ℕ → Option Order) → List ℕ → Path → Option ℕ → Nodes → Type 0
AreLeft cons value part p None nodes = nodes ≡ []
AreLeft cons value part p (Some head) nodes = AreNext cons value part p nodes

-- each constraint waits for a variable decided as the head-th or later, or forces no more
abbrev pub IsReady : List Constraint → Trail → Option ℕ → Type 0
IsReady cons t None = Unit {0}
IsReady cons t (Some head) = (head ≤ length t.steps.items) × AreReady cons t head

-- all variables of the part have values
abbrev pub AreDecided : List ℕ → Trail → Type 0
AreDecided part t = (j : ℕ) → j < length part → known t (slice_index part j) ≡ None → ⊥

-- these are the values of the part's variables
pub record AreValues (part : List ℕ) (t : Trail) (values : List Order) : Type 0 where
  pub as_many : length values ≡ length part
  pub each : (j : ℕ) → j < length part → known t (slice_index part j) ≡ Some (slice_index_or values j Below)

-- the node that was visited is no solution
pub record IsPassed (cons : List Constraint) (value : ℕ → Option Order) (part : List ℕ) (p : Path)
    (nodes : Nodes) : Type 0 where
  pub later : Nodes
  pub left : AreLeft cons value part p p.next later
  pub are : nodes ≡ None ∷ later

-- the node that was visited is a solution
pub record IsSolved (cons : List Constraint) (value : ℕ → Option Order) (part : List ℕ) (p : Path)
    (nodes : Nodes) : Type 0 where
  pub values : List Order
  pub later : Nodes
  pub are_values : AreValues part p.trail values
  pub pending : ArePending cons value part p later
  pub are : nodes ≡ Some values ∷ later

-- the first place of the part whose variable has no value
pub record IsFirstOpen (part : List ℕ) (t : Trail) (v : ℕ) : Type 0 where
  pub place : ℕ
  pub inside : place < length part
  pub is : slice_index part place ≡ v
  pub open_yet : known t v ≡ None
  pub earlier : (j : ℕ) → j < place → known t (slice_index part j) ≡ None → ⊥

-- that variable, where not all of the part have values
abbrev pub FirstOpen : List ℕ → Trail → Option ℕ → Type 0
FirstOpen part t None = AreDecided part t
FirstOpen part t (Some v) = IsFirstOpen part t v

-- the variables of the part are among those of the system
abbrev pub AreWithin : ℕ → List ℕ → Type 0
AreWithin vars part = (j : ℕ) → j < length part → slice_index part j < vars

-- What a search tells of its decision tree.
use Rattle.std.specs.Prelude.{◌≡◌, ◌↔◌, ℕ, ◌+◌, ◌*◌, ◌<◌, ◌≤◌, ◌^◌, ◌++◌, Bool, IsTrue, List, [], ◌∷◌, length, drop, take, replicate, Option, Some, None}
use Rattle.ff_tables.specs.declared.orders.Order.{Order}
use Rattle.ff_tables.specs.declared.terms.Constraint.{Constraint}
use Rattle.ff_propagate.specs.Trees.{Tree, IsTree, visits, found}
use Rattle.ff_propagate.specs.Solutions.{solutions_of}
use Rattle.ff_propagate.specs.Uses.{AreUses}
use Rattle.ff_solver.specs.declared.state.Search.{Search}
use Rattle.ff_solver.specs.declared.state.Advance.{Advance}
use Rattle.ff_solver.specs.declared.state.Advance.TheVariants.{Found, Finished, Spent}
use Rattle.ff_solver.specs.Paths.{IsPath, IsReady, AreLeft, AreWithin, AreDecided, Nodes}

-- nodes that are no solutions
abbrev pub idle : ℕ → Nodes
idle n = replicate n None

-- Of the nodes that are left before a call, it visits the first ones, each for the cost of a node, up to the next solution, and
-- leaves the others.
pub record IsFound (cost turns : ℕ) (before after : Nodes) (steps : ℕ) (values : List Order) : Type 0 where
  pub earlier : ℕ
  pub counted : steps ≡ earlier + 1
  pub nodes : before ≡ idle earlier ++ Some values ∷ after
  pub covered : cost * steps ≤ turns

-- It visits all of them, and none is a solution.
pub record IsFinished (cost turns : ℕ) (before after : Nodes) (steps : ℕ) : Type 0 where
  pub nodes : before ≡ idle steps
  pub ended : after ≡ []
  pub covered : cost * steps ≤ turns

-- It visits the first ones until the turns that are left don't cover a node. More nodes are left, and none of those visited is a
-- solution.
pub record IsSpent (cost turns : ℕ) (before after : Nodes) (steps : ℕ) : Type 0 where
  pub nodes : before ≡ idle steps ++ after
  pub goes_on : after ≡ [] → ⊥
  pub covered : cost * steps ≤ turns
  pub not_covered : turns < cost * (steps + 1)

-- Which of these it is, the answer says.
abbrev pub Advances : ℕ → ℕ → Nodes → Nodes → ℕ → Advance → Type 0
Advances cost turns before after steps (Found values) = IsFound cost turns before after steps values
Advances cost turns before after steps Finished = IsFinished cost turns before after steps
Advances cost turns before after steps Spent = IsSpent cost turns before after steps

-- What the parts of a search keep for the constraints of its own system.
pub record IsSearch (s : Search) : Type 0 where
  pub few : length s.system.constraints < 2 ^ 32
  pub path : IsPath s.system.vars s.system.constraints s.path
  pub ready : IsReady s.system.constraints s.path.trail s.path.next
  pub uses : AreUses s.system.vars s.system.constraints s.uses
  pub part : AreWithin s.system.vars s.places
  pub as_many : length s.places ≡ length s.part.vars
  pub some : 0 < length s.part.vars

-- what the call leaves as it was
pub record IsSameSearch (old new : Search) : Type 0 where
  pub system : new.system ≡ old.system
  pub places : new.places ≡ old.places
  pub part : new.part ≡ old.part

-- The nodes that are left to a search in its own system, from these values of that system.
abbrev pub AreLeftIn : (ℕ → Option Order) → Search → Nodes → Type 0
AreLeftIn value s nodes = AreLeft s.system.constraints value s.places s.path s.path.next nodes

-- the nodes that were left, and those that are left after a number of visits, none of which was a solution
pub record IsGoneOn (value : ℕ → Option Order) (old now : Search) (steps : ℕ) (nodes : Nodes) : Type 0 where
  pub later : Nodes
  pub left : AreLeft old.system.constraints value old.places now.path now.path.next later
  pub are : nodes ≡ idle steps ++ later

-- what holds in the midst of a call
pub record IsRunning (turns : ℕ) (old now : Search) (left : ℕ) : Type 0 where
  pub search : IsSearch now
  pub same : IsSameSearch old now
  pub steps : ℕ
  pub counted : now.visited ≡ old.visited + steps
  pub paid : left + length old.part.vars * steps ≡ turns
  pub gone : (value : ℕ → Option Order) (nodes : Nodes) → AreLeftIn value old nodes
      → IsGoneOn value old now steps nodes

-- the end of a call, in terms of the nodes that are left
pub record IsRun (value : ℕ → Option Order) (turns : ℕ) (old new : Search) (nodes : Nodes) (answer : Advance)
    : Type 0 where
  pub steps : ℕ
  pub later : Nodes
  pub counted : new.visited ≡ old.visited + steps
  pub left : AreLeft old.system.constraints value old.places new.path new.path.next later
  pub advances : Advances (length old.part.vars) turns nodes later steps answer

-- a search at a node that is a solution
pub record IsAtSolution (s : Search) : Type 0 where
  pub few : length s.system.constraints < 2 ^ 32
  pub path : IsPath s.system.vars s.system.constraints s.path
  pub uses : AreUses s.system.vars s.system.constraints s.uses
  pub part : AreWithin s.system.vars s.places
  pub as_many : length s.places ≡ length s.part.vars
  pub some : 0 < length s.part.vars
  pub decided : AreDecided s.places s.path.trail

-- Where a search stands in the decision tree of its part under these values of a board: of the tree's nodes it has visited as
-- many as it says, and goes on from the next one. The solutions at the tree's leaves, in tree order, are the part's solutions in
-- their order.
pub record IsIn (cons : List Constraint) (value : ℕ → Option Order) (s : Search) (tree : Tree) : Type 0 where
  pub is_tree : IsTree cons value s.part.vars tree
  pub within : s.visited ≤ length (visits tree)
  pub own_value : ℕ → Option Order
  pub left : AreLeftIn own_value s (drop s.visited (visits tree))
  pub solutions : found (visits tree) ≡ solutions_of cons value s.part.vars

-- the search stands at its node of the tree for these constraints and these values of a board
pub record StandsAt (cons : List Constraint) (value : ℕ → Option Order) (s : Search) : Type 0 where
  pub search : IsSearch s
  pub tree : Tree
  pub is_in : IsIn cons value s tree

-- the solution that a call found
abbrev pub solution_in : Advance → List (List Order)
solution_in (Found values) = values ∷ []
solution_in Finished = []
solution_in Spent = []

-- In the tree, the call visits the first of the nodes that were left, and leaves the others. The solutions among the nodes that
-- were visited are those before the call and the one that it found.
pub record IsAdvance (tree : Tree) (cost turns before after : ℕ) (answer : Advance) : Type 0 where
  pub steps : ℕ
  pub counted : after ≡ before + steps
  pub advances : Advances cost turns (drop before (visits tree)) (drop after (visits tree)) steps answer
  pub solutions : found (take after (visits tree)) ≡ found (take before (visits tree)) ++ solution_in answer

-- the same, of whichever tree is the part's under these values
abbrev pub AdvancesIn : List Constraint → (ℕ → Option Order) → Search → ℕ → Search → Advance → Type 0
AdvancesIn cons value old turns new answer = (tree : Tree) → IsTree cons value old.part.vars tree
    → IsAdvance tree (length old.part.vars) turns old.visited new.visited answer

-- From wherever the old search stands, the call goes on in the tree: the new one stands there.
abbrev pub GoesOn : List Constraint → Search → Search → Type 0
GoesOn cons old new = (value : ℕ → Option Order) → StandsAt cons value old → StandsAt cons value new

-- From wherever the old search stands, the call answers what is in the tree.
abbrev pub AnswersIn : List Constraint → Search → ℕ → Search → Advance → Type 0
AnswersIn cons old turns new answer = (value : ℕ → Option Order) → StandsAt cons value old
    → AdvancesIn cons value old turns new answer

-- a search of the part that has visited no node
pub record Starts (part : List ℕ) (s : Search) : Type 0 where
  pub part_is : s.part.vars ≡ part
  pub unvisited : s.visited ≡ 0

-- Wherever the search stands, this is whether all nodes of the tree are visited.
abbrev pub TellsFinished : Search → Bool → Type 0
TellsFinished s finished = (cons : List Constraint) (value : ℕ → Option Order) → StandsAt cons value s → (tree : Tree)
    → IsTree cons value s.part.vars tree → IsTrue finished ↔ (drop s.visited (visits tree) ≡ [])

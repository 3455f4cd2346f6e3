-- Pages of a part's solutions. This project's own.
use Rattle.std.specs.Prelude.{◌≡◌, ℕ, ◌+◌, ◌*◌, ◌<◌, ◌≤◌, ◌⊎◌, ◌↔◌, Bool, IsTrue, List, [], ◌++◌, length, take, drop, Option, Some, None}
use Rattle.ff_tables.specs.declared.orders.Order.{Order}
use Rattle.ff_tables.specs.declared.terms.Constraint.{Constraint}
use Rattle.ff_propagate.specs.declared.facts.Fact.{Fact}
use Rattle.ff_propagate.specs.Boards.{IsBoardOf}
use Rattle.ff_propagate.specs.Facts.{value_at}
use Rattle.ff_propagate.specs.Parts.{IsPart, AreTouching}
use Rattle.ff_propagate.specs.Solutions.{solutions_of}
use Rattle.ff_propagate.specs.Trees.{Tree, IsTree, visits, found, turns_of, turns_to_page, page_of}
use Rattle.ff_solver.specs.declared.state.Search.{Search}
use Rattle.ff_solver.specs.declared.state.Advance.{Advance}
use Rattle.ff_solver.specs.declared.state.Advance.TheVariants as advance
use Rattle.ff_solver.specs.Searches.{StandsAt, AnswersIn, IsAdvance, solution_in}
use Rattle.ff_types.specs.declared.cases.Case.{Case}
use Rattle.ff_types.specs.declared.pins.Pin.{Pin}
use Rattle.ff_tables.specs.declared.givens.Given.{Given}
use Rattle.ff_log.specs.Grounds.{IsAcceptedIn}
use Rattle.ff_refute.specs.Givens.{SayPins}
use Rattle.ff_alike.specs.Alike.{HaveSameRim}
use Rattle.ff_pages.specs.declared.pages.Gone.{Gone}
use Rattle.ff_pages.specs.declared.pages.Gone.TheVariants as gone
use Rattle.ff_pages.specs.declared.pages.Pages.{Pages}
use Rattle.ff_pages.specs.declared.pages.PageAnswer.{PageAnswer}
use Rattle.ff_pages.specs.declared.pages.PageAnswer.TheVariants as answer

-- how many nodes a search has visited
abbrev pub visited_by : Option Search → ℕ
visited_by None = 0
visited_by (Some s) = s.visited

-- how many nodes were visited
abbrev pub visited_of : Pages → ℕ
visited_of p = visited_by p.search

-- A search stands in the tree of the part, which is its tree under the values of the board that the search began with, too.
pub record IsSearchIn (cons : List Constraint) (part : List ℕ) (tree : Tree) (s : Search) : Type 0 where
  pub value : ℕ → Option Order
  pub stands : StandsAt cons value s
  pub part_is : s.part.vars ≡ part
  pub is_tree : IsTree cons value part tree

-- so it is where there is a search
abbrev pub MaySearch : List Constraint → List ℕ → Tree → Option Search → Type 0
MaySearch cons part tree None = Unit {0}
MaySearch cons part tree (Some s) = IsSearchIn cons part tree s

-- Where the value stands in the tree of its part: it has visited the first nodes, for no more turns than the budget, and has
-- their solutions.
pub record IsIn (cons : List Constraint) (p : Pages) (tree : Tree) : Type 0 where
  pub is_tree : IsTree cons (value_at p.facts.value) p.part.vars tree
  pub solutions : found (visits tree) ≡ solutions_of cons (value_at p.facts.value) p.part.vars
  pub search : MaySearch cons p.part.vars tree p.search
  pub within : visited_of p ≤ length (visits tree)
  pub found_are : p.found.items ≡ found (take (visited_of p) (visits tree))
  pub paid : length p.part.vars * visited_of p ≤ p.budget

-- The pages are of a part of a board of these constraints, for a budget of at most a thousand million turns, and stand in the
-- part's tree.
pub record StandsIn (vars : ℕ) (cons : List Constraint) (p : Pages) : Type 0 where
  pub board : IsBoardOf vars cons p.facts.value
  pub part : IsPart vars cons (value_at p.facts.value) p.part.vars
  pub touching : AreTouching cons p.part.vars p.part.touching
  pub few : p.budget ≤ 1000000000
  pub tree : Tree
  pub is_in : IsIn cons p tree

-- what a call leaves as it was
pub record IsSamePages (old new : Pages) : Type 0 where
  pub givens : new.givens ≡ old.givens
  pub facts : new.facts ≡ old.facts
  pub part : new.part ≡ old.part
  pub budget : new.budget ≡ old.budget

-- the page, in a tree
abbrev pub IsPageIn : List ℕ → ℕ → Tree → ℕ → PageAnswer → Type 0
IsPageIn part budget tree k (answer.Page solutions) = (turns_to_page part tree k ≤ budget)
    × (solutions ≡ page_of k (found (visits tree))) × (0 < length solutions)
IsPageIn part budget tree k (answer.Past count) = (turns_to_page part tree k ≤ budget)
    × (count ≡ length (found (visits tree))) × (0 < count) × (page_of k (found (visits tree)) ≡ [])
IsPageIn part budget tree k (answer.None log) = (turns_of part tree ≤ budget) × (found (visits tree) ≡ [])
IsPageIn part budget tree k answer.Unfinished = budget < turns_to_page part tree k

-- the same, of the part's tree; its solutions in tree order are the part's solutions in their order
abbrev pub IsPage : List Constraint → List (Option Fact) → List ℕ → ℕ → ℕ → PageAnswer → Type 0
IsPage cons facts part budget k a = (tree : Tree) × IsTree cons (value_at facts) part tree
    × (found (visits tree) ≡ solutions_of cons (value_at facts) part) × IsPageIn part budget tree k a

-- Where no page has a solution, the log is accepted for the case and the pins among the givens.
abbrev pub HasLog : Case → List Given → PageAnswer → Type 0
HasLog case givens (answer.None log) = (pins : List Pin) → SayPins case givens pins → IsAcceptedIn case pins log.lines
HasLog case givens _ = Unit {0}

-- The pages can be kept for another part of another board: it has the same variables, and the constraints that touch it have the
-- same values on the others.
pub record CanKeep (cons : List Constraint) (p : Pages) (value : ℕ → Option Order) (part : List ℕ) : Type 0 where
  pub vars_are : part ≡ p.part.vars
  pub rim : HaveSameRim cons (value_at p.facts.value) value p.part.vars

-- what an answer of a search tells
abbrev pub IsSort : Advance → Gone → Type 0
IsSort (advance.Found values) gone.Found = Unit {0}
IsSort advance.Finished gone.Finished = Unit {0}
IsSort advance.Spent gone.Spent = Unit {0}
IsSort a g = ⊥

-- a search goes on, and the solution that it finds is put to those found
abbrev pub HasGone : List Constraint → Search → List (List Order) → ℕ → Search → List (List Order) → Gone → Type 0
HasGone cons old solutions turns new more g = (a : Advance) × AnswersIn cons old turns new a
    × (more ≡ solutions ++ solution_in a) × IsSort a g

-- nodes of the part's tree are visited
abbrev pub GoesOn : List Constraint → List (Option Fact) → List ℕ → ℕ → ℕ → ℕ → Gone → Type 0
GoesOn cons facts part turns before after g = (tree : Tree) → IsTree cons (value_at facts) part tree
    → (a : Advance) × IsAdvance tree (length part) turns before after a × IsSort a g

-- so many solutions are found; or the tree has ended; or the next node needs more turns than the budget
abbrev pub FindsIn : Tree → ℕ → Pages → Gone → Type 0
FindsIn tree wanted p gone.Found = wanted ≤ length p.found.items
FindsIn tree wanted p gone.Finished = drop (visited_of p) (visits tree) ≡ []
FindsIn tree wanted p gone.Spent = (length p.found.items < wanted) × (drop (visited_of p) (visits tree) ≡ [] → ⊥)
    × (p.budget < length p.part.vars * (visited_of p + 1))

-- how the search finds the wanted solution, in the tree
abbrev pub Finds : List Constraint → ℕ → Pages → Gone → Type 0
Finds cons wanted p g = (tree : Tree) → IsTree cons (value_at p.facts.value) p.part.vars tree → FindsIn tree wanted p g

-- the search has begun
abbrev pub IsBegun : Pages → Type 0
IsBegun p = (s : Search) × (p.search ≡ Some s)

-- all nodes of the tree are visited
abbrev pub HasEnded : List Constraint → Pages → Type 0
HasEnded cons p = (tree : Tree) → IsTree cons (value_at p.facts.value) p.part.vars tree → drop (visited_of p) (visits tree) ≡ []

-- a page of 64 ends, or the list does
abbrev pub IsEndOf : ℕ → ℕ → ℕ → Type 0
IsEndOf count first end = ((end ≡ count) × (count ≤ first + 64)) ⊎ ((end ≡ first + 64) × (first + 64 ≤ count))

-- whether all nodes are visited, or what is left of the budget doesn't cover the next
abbrev pub TellsClosed : List Constraint → Pages → Bool → Type 0
TellsClosed cons p closed = (tree : Tree) → IsTree cons (value_at p.facts.value) p.part.vars tree
    → IsTrue closed ↔ ((drop (visited_of p) (visits tree) ≡ []) ⊎ (p.budget < length p.part.vars * (visited_of p + 1)))

-- Nodes were visited while so many turns in all cover the next, up to the end of the tree.
abbrev pub RunsTo : List Constraint → ℕ → Pages → Type 0
RunsTo cons target p = (length p.part.vars * visited_of p ≤ target)
    × ((tree : Tree) → IsTree cons (value_at p.facts.value) p.part.vars tree → (drop (visited_of p) (visits tree) ≡ [])
    ⊎ (target < length p.part.vars * (visited_of p + 1)))

-- Pages of an earlier board, what is kept of them for the parts of another, and the turns of searches. This project's own.
use Rattle.std.specs.Prelude.{◌≡◌, ℕ, ◌+◌, ◌*◌, ◌<◌, ◌≤◌, List, [], ◌∷◌, length, slice_get, slice_index, Option, Some, None}
use Rattle.ff_tables.specs.declared.terms.Constraint.{Constraint}
use Rattle.ff_types.specs.declared.cases.Case.{Case}
use Rattle.ff_propagate.specs.Facts.{value_at}
use Rattle.ff_pages.specs.declared.pages.Pages.{Pages}
use Rattle.ff_pages.specs.Paging.{StandsIn, CanKeep, IsSamePages, visited_of}

-- the turns of the nodes that the search has visited
abbrev pub turns_by : Pages → ℕ
turns_by p = length p.part.vars * visited_of p

-- those of all searches together
abbrev pub turns_in : List Pages → ℕ
turns_in [] = 0
turns_in (p ∷ pages) = turns_by p + turns_in pages

-- no search has visited a node
abbrev pub AreUnvisited : List Pages → Type 0
AreUnvisited pages = (i : ℕ) (p : Pages) → slice_get pages i ≡ Some p → visited_of p ≡ 0

-- Pages of different parts of the case, each for this budget, in order of their least variables.
pub record AreOrdered (case : Case) (budget : ℕ) (pages : List Pages) : Type 0 where
  pub stand : (i : ℕ) (p : Pages) → slice_get pages i ≡ Some p → StandsIn case.system.vars case.system.constraints p
  pub budgeted : (i : ℕ) (p : Pages) → slice_get pages i ≡ Some p → p.budget ≡ budget
  pub rising : (k l : ℕ) (p q : Pages) → k < l → slice_get pages k ≡ Some p → slice_get pages l ≡ Some q
      → slice_index p.part.vars 0 < slice_index q.part.vars 0

-- two lists of such pages, for one budget
abbrev pub AreAlongside : Case → List Pages → List Pages → Type 0
AreAlongside case pages earlier = (budget : ℕ) × AreOrdered case budget pages × AreOrdered case budget earlier

-- the earlier pages can be kept for the part of these
abbrev pub CanKeepFor : List Constraint → Pages → Pages → Type 0
CanKeepFor cons earlier p = CanKeep cons earlier (value_at p.facts.value) p.part.vars

-- Pages of a part have taken over what one earlier search has visited, exactly where its pages can be kept for the part.
pub record HasTaken (cons : List Constraint) (earlier old new : Pages) : Type 0 where
  pub same : IsSamePages old new
  pub taken : CanKeepFor cons earlier old → visited_of new ≡ visited_of earlier
  pub left : (CanKeepFor cons earlier old → ⊥) → visited_of new ≡ visited_of old

-- so it is of each of the pages
pub record HaveTaken (cons : List Constraint) (earlier : Pages) (old new : List Pages) : Type 0 where
  pub as_many : length new ≡ length old
  pub each : (i : ℕ) (p q : Pages) → slice_get old i ≡ Some p → slice_get new i ≡ Some q → HasTaken cons earlier p q

-- one of the earlier pages, from the n-th on, can be kept for the part of these
pub record SomeKeeps (cons : List Constraint) (earlier : List Pages) (n : ℕ) (p : Pages) : Type 0 where
  pub place : ℕ
  pub from : n ≤ place
  pub pages : Pages
  pub there : slice_get earlier place ≡ Some pages
  pub can : CanKeepFor cons pages p

-- Pages of a part have taken over what one of these earlier searches, from the n-th on, has visited: the one whose pages can be kept
-- for the part. They are as they were exactly where none can.
pub record HasTakenFrom (cons : List Constraint) (earlier : List Pages) (n : ℕ) (old new : Pages) : Type 0 where
  pub same : IsSamePages old new
  pub taken : (k : SomeKeeps cons earlier n old) → visited_of new ≡ visited_of k.pages
  pub left : (SomeKeeps cons earlier n old → ⊥) → visited_of new ≡ visited_of old

-- so it is of each of the pages
pub record HaveTakenFrom (cons : List Constraint) (earlier : List Pages) (n : ℕ) (old new : List Pages) : Type 0 where
  pub as_many : length new ≡ length old
  pub each : (i : ℕ) (p q : Pages) → slice_get old i ≡ Some p → slice_get new i ≡ Some q → HasTakenFrom cons earlier n p q

-- for no part of these pages can the earlier ones be kept
abbrev pub NoneTakes : List Constraint → Pages → List Pages → Type 0
NoneTakes cons earlier pages = (i : ℕ) (p : Pages) → slice_get pages i ≡ Some p → CanKeepFor cons earlier p → ⊥

-- the earlier pages can be kept for the part of the i-th
abbrev pub TakesAt : List Constraint → Pages → List Pages → ℕ → Type 0
TakesAt cons earlier pages i = (p : Pages) × (slice_get pages i ≡ Some p) × CanKeepFor cons earlier p

-- none of these pages is of a part with this least variable
abbrev pub NoneLeast : List Pages → ℕ → Type 0
NoneLeast pages var = (i : ℕ) (p : Pages) → slice_get pages i ≡ Some p → slice_index p.part.vars 0 ≡ var → ⊥

-- the i-th of them are of such a part
abbrev pub LeastAt : List Pages → ℕ → ℕ → Type 0
LeastAt pages var i = (p : Pages) × (slice_get pages i ≡ Some p) × (slice_index p.part.vars 0 ≡ var)

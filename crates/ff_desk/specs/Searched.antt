-- Parts that are marked and open.
-- For the proofs of this crate alone.
use Rattle.std.specs.Prelude.{◌≡◌, ◌≢◌, ℕ, ◌+◌, ◌*◌, ◌<◌, Bool, List, length, max, min, slice_get, Some}
use Rattle.ff_tables.specs.declared.terms.Constraint.{Constraint}
use Rattle.ff_types.specs.declared.cases.Case.{Case}
use Rattle.ff_pages.specs.declared.pages.Pages.{Pages}
use Rattle.ff_pages.specs.Paging.{StandsIn, IsSamePages, visited_of, RunsTo}
use Rattle.ff_desk.specs.declared.loans.Turn.{Turn}
use Rattle.ff_desk.specs.declared.loans.Turn.TheVariants as turn
use Rattle.ff_desk.specs.Demands.{IsClosed}
use Rattle.ff_desk.specs.Steps.{HasGoneOn}
use Rattle.ff_desk.specs.Marks.{IsMarked}

-- all of the pages stand
abbrev pub AllStand : Case → List Pages → Type 0
AllStand case pages = (i : ℕ) (p : Pages) → slice_get pages i ≡ Some p → StandsIn case.system.vars case.system.constraints p

-- the p-th part is marked and open
pub record IsOpenMarked (cons : List Constraint) (list : List Pages) (marks : List Bool) (p : ℕ) : Type 0 where
  pub pages : Pages
  pub there : slice_get list p ≡ Some pages
  pub marked : IsMarked marks p
  pub open_yet : IsClosed cons pages → ⊥

-- the p-th part is the least such
abbrev pub IsLeastMarked : List Constraint → List Pages → List Bool → ℕ → Type 0
IsLeastMarked cons list marks p = IsOpenMarked cons list marks p × ((q : ℕ) → q < p → IsOpenMarked cons list marks q → ⊥)

-- the pages of one part went on
pub record WentOn (cons : List Constraint) (old new : Pages) : Type 0 where
  pub ran : RunsTo cons (min (length old.part.vars * visited_of old + max 4096 (length old.part.vars)) old.budget) new
  pub visited : visited_of old < visited_of new

-- the pages of the p-th part went on, and those of the others are the same
abbrev pub HasWentOn : List Constraint → ℕ → List Pages → List Pages → Type 0
HasWentOn cons p old new = (g : HasGoneOn p (Some old) (Some new)) × WentOn cons g.before g.after

-- how a search of the marked parts goes
abbrev pub SearchesIn : List Constraint → List Pages → List Bool → List Pages → Turn → Type 0
SearchesIn cons old marks new turn.Idle = (new ≡ old) × ((q : ℕ) → IsOpenMarked cons old marks q → ⊥)
SearchesIn cons old marks new turn.Did = (p : ℕ) × IsLeastMarked cons old marks p × HasWentOn cons p old new

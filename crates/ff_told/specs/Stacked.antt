-- What the numbers of a `stack` give, part by part. This project's own.
use Rattle.std.specs.Prelude.{◌≡◌, ℕ, ◌<◌, ◌≤◌, List, length, map, take, slice_get, slice_index, slice_index_or, Option, Some, None}
use Rattle.ff_tables.specs.declared.orders.Order.{Order}
use Rattle.ff_tables.specs.declared.givens.Given.{Given}
use Rattle.ff_types.specs.declared.cases.Case.{Case}
use Rattle.ff_propagate.specs.declared.facts.Fact.{Fact}
use Rattle.ff_propagate.specs.Facts.{seen}
use Rattle.ff_pages.specs.declared.pages.Pages.{Pages}
use Rattle.ff_viewer.specs.declared.replies.Reply.{Reply}
use Rattle.ff_viewer.specs.declared.replies.Reply.TheVariants as reply
use Rattle.ff_journal.specs.Replies.{HasSolution, HaveSolutions, IsStop, IsFirstStop, IsStackOf}
use Rattle.ff_told.specs.declared.stacking.Chosen.{Chosen}
use Rattle.ff_told.specs.declared.stacking.Chosen.TheVariants as chosen
use Rattle.ff_told.specs.declared.stacking.Picks.{Picks}
use Rattle.ff_told.specs.declared.stacking.Picks.TheVariants as picks
use Rattle.ff_told.specs.Paged.{AreAllPages, parts_of}

-- the solution at the place of a page, or that the part has none there
abbrev pub IsPicked : List (List Order) → ℕ → ℕ → Chosen → Type 0
IsPicked solutions part i (chosen.Solution solution) = slice_get solutions i ≡ Some solution
IsPicked solutions part i (chosen.Stop told) = (length solutions ≤ i) × (told ≡ reply.PartPast part)

-- what the number k gives for the part p, of these variables
abbrev pub IsChosenBy : Case → List (Option Order) → ℕ → ℕ → List ℕ → ℕ → Chosen → Type 0
IsChosenBy case board budget p vars k (chosen.Solution solution) = HasSolution case board budget vars k solution
IsChosenBy case board budget p vars k (chosen.Stop told) = IsStop case board budget p vars k told

-- the same by the pages of all parts
abbrev pub IsChosen : Case → List Pages → ℕ → ℕ → Chosen → Type 0
IsChosen case pages p k c = (budget : ℕ) (gs : List Given) (fs : List (Option Fact)) (vars : List ℕ) → AreAllPages case budget gs fs pages
    → slice_get (parts_of pages) p ≡ Some vars → IsChosenBy case (map seen fs) budget p vars k c

-- the first n numbers give these solutions
abbrev pub AreChosen : Case → List Pages → List ℕ → ℕ → List (List Order) → Type 0
AreChosen case pages choice n solutions = (budget : ℕ) (gs : List Given) (fs : List (Option Fact)) → AreAllPages case budget gs fs pages
    → HaveSolutions case (map seen fs) budget (take n (parts_of pages)) (take n choice) solutions

-- all numbers give these solutions, or the first one that gives none is told
abbrev pub ArePicks : Case → List Pages → List ℕ → Picks → Type 0
ArePicks case pages choice (picks.All solutions) = (budget : ℕ) (gs : List Given) (fs : List (Option Fact)) → AreAllPages case budget gs fs pages
    → HaveSolutions case (map seen fs) budget (parts_of pages) choice solutions
ArePicks case pages choice (picks.Stop told) = (budget : ℕ) (gs : List Given) (fs : List (Option Fact)) → AreAllPages case budget gs fs pages
    → IsFirstStop case (map seen fs) budget 0 (parts_of pages) choice told

-- the list has the values, one for each variable
pub record AreValues (value : ℕ → Option Order) (values : List (Option Order)) : Type 0 where
  pub each : (v : ℕ) → v < length values → slice_index_or values v None ≡ value v

-- the pages are those of all parts of these facts
abbrev pub AreFactsIn : Case → List (Option Fact) → List Pages → Type 0
AreFactsIn case fs pages = (budget : ℕ) × (gs : List Given) × AreAllPages case budget gs fs pages

-- each solution is as long as its part, whose variables are below n
abbrev pub AreLongAs : ℕ → List (List ℕ) → List (List Order) → Type 0
AreLongAs n parts solutions = (k : ℕ) (vars : List ℕ) (solution : List Order) → slice_get parts k ≡ Some vars → slice_get solutions k ≡ Some solution
    → (length solution ≡ length vars) × ((j : ℕ) → j < length vars → slice_index vars j < n)

-- the reply to `stack` by the pages of all parts of the facts
abbrev pub IsStackTold : Case → List (Option Fact) → List Pages → List ℕ → Reply → Type 0
IsStackTold case fs pages choice told = (budget : ℕ) (gs : List Given) → AreAllPages case budget gs fs pages
    → IsStackOf case (map seen fs) budget (parts_of pages) choice told

-- The state of the core, and for which cases it stands. This project's own.
use Rattle.std.specs.Prelude.{◌≡◌, ℕ, ◌+◌, ◌<◌, ◌≤◌, List, length, slice_get, Option, Some, None}
use Rattle.ff_tables.specs.declared.orders.Order.{Order}
use Rattle.ff_tables.specs.declared.givens.Given.{Given}
use Rattle.ff_types.specs.declared.cases.Case.{Case}
use Rattle.ff_propagate.specs.declared.facts.Fact.{Fact}
use Rattle.ff_propagate.specs.declared.facts.Reason.TheVariants as reason
use Rattle.ff_propagate.specs.Facts.{fact_at}
use Rattle.ff_propagate.specs.Giving.{NoneBefore}
use Rattle.ff_journal.specs.declared.entries.Entry.{Entry}
use Rattle.ff_journal.specs.declared.entries.Outcome.{Outcome}
use Rattle.ff_journal.specs.declared.entries.Outcome.TheVariants as outcome
use Rattle.ff_pages.specs.declared.pages.Pages.{Pages}
use Rattle.ff_told.specs.Paged.{AreAllPages}
use Rattle.ff_journal.specs.Epochs.{last_begun, givens_of}
use Rattle.ff_journal.specs.Publications.{published, IsLast}
use Rattle.ff_journal.specs.Shown.{AreFactsOf, AreShown}
use Rattle.ff_journal.specs.Journals.{IsLegal}

-- its journal and budget, the facts of the epoch that it works on, those of the last published epoch, and the pages of that
-- board's parts, once one was asked for
pub record State : Type 0 where
  pub journal : List Entry
  pub budget : ℕ
  pub working : Option (List (Option Fact))
  pub shown : Option (List (Option Fact))
  pub pages : Option (List Pages)

-- it works on the least unpublished epoch, and on none where all are published
abbrev pub WorksOn : Case → List Entry → Option (List (Option Fact)) → Type 0
WorksOn case journal None = published journal ≡ last_begun journal + 1
WorksOn case journal (Some fs) = (published journal ≤ last_begun journal) × AreFactsOf case journal (published journal) fs

-- what is shown are facts of the last publication, and nothing before the first
abbrev pub ShowsLast : Case → List Entry → Option (List (Option Fact)) → Type 0
ShowsLast case journal None = published journal ≡ 0
ShowsLast case journal (Some fs) = (e : ℕ) × (last : Outcome) × IsLast journal e last × AreShown case journal e last fs

-- where pages are kept they are those of the last published board
abbrev pub KeepsPages : Case → ℕ → List Entry → Option (List (Option Fact)) → Option (List Pages) → Type 0
KeepsPages case budget journal shown None = Unit {0}
KeepsPages case budget journal None (Some pages) = ⊥
KeepsPages case budget journal (Some fs) (Some pages) = (e : ℕ) × (board : List (Option Order)) × IsLast journal e (outcome.Board board)
    × AreAllPages case budget (givens_of case journal e) fs pages

-- the cases for which a core stands
pub record StandsFor (case : Case) (core : State) : Type 0 where
  pub turns : core.budget ≤ 1000000000
  pub legal : IsLegal case core.budget core.journal
  pub works : WorksOn case core.journal core.working
  pub shows : ShowsLast case core.journal core.shown
  pub keeps : KeepsPages case core.budget core.journal core.shown core.pages

-- the pages are there
abbrev pub IsLaid : State → Type 0
IsLaid core = (pages : List Pages) × (core.pages ≡ Some pages)

-- all but the pages is the same
pub record IsSameButPages (old new : State) : Type 0 where
  pub journal : new.journal ≡ old.journal
  pub budget : new.budget ≡ old.budget
  pub working : new.working ≡ old.working
  pub shown : new.shown ≡ old.shown

-- the first given of the variable, with its fact
pub record IsFirstGiven (gs : List Given) (v : ℕ) (h : Fact) : Type 0 where
  pub place : ℕ
  pub given : Given
  pub there : slice_get gs place ≡ Some given
  pub of_variable : given.var ≡ v
  pub first : NoneBefore gs v place
  pub is : h ≡ record { value = given.value; level = 0; reason = reason.Given place }

-- the facts are the first n givens, of which the first of a variable counts
pub record AreOpeningTo (vars : ℕ) (gs : List Given) (n : ℕ) (fs : List (Option Fact)) : Type 0 where
  pub wide : length fs ≡ vars
  pub given : (v : ℕ) (h : Fact) → fact_at fs v ≡ Some h → IsFirstGiven gs v h
  pub all : (i : ℕ) (g : Given) → i < n → slice_get gs i ≡ Some g → (h : Fact) × (fact_at fs g.var ≡ Some h)

-- the facts are the givens, of which the first of a variable counts
pub record AreOpening (vars : ℕ) (gs : List Given) (fs : List (Option Fact)) : Type 0 where
  pub wide : length fs ≡ vars
  pub given : (v : ℕ) (h : Fact) → fact_at fs v ≡ Some h → IsFirstGiven gs v h
  pub all : (i : ℕ) (g : Given) → slice_get gs i ≡ Some g → (h : Fact) × (fact_at fs g.var ≡ Some h)

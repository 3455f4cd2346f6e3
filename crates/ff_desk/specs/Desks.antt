-- What each desk keeps. This project's own.
use Rattle.std.specs.Prelude.{◌≡◌, ℕ, ◌+◌, ◌-◌, ◌*◌, ◌^◌, ◌<◌, ◌≤◌, Bool, List, [], length, replicate, slice_index, Option, Some, None}
use Rattle.std.specs.Arc.{arc_value}
use Rattle.ff_tables.specs.declared.orders.Order.{Order}
use Rattle.ff_tables.specs.declared.givens.Given.{Given}
use Rattle.ff_types.specs.declared.cases.Case.{Case}
use Rattle.ff_propagate.specs.declared.facts.Fact.{Fact}
use Rattle.ff_propagate.specs.Facts.{fact_at}
use Rattle.ff_propagate.specs.FactRule.{MeetsFactRule}
use Rattle.ff_propagate.specs.Agreeing.{Agree}
use Rattle.ff_carry.specs.Carrying.{IsCarried}
use Rattle.ff_board.specs.declared.opening.Opening.{Opening}
use Rattle.ff_board.specs.Answer.{fact_seen}
use Rattle.ff_board.specs.Standing.{top_level}
use Rattle.ff_pages.specs.declared.pages.Pages.{Pages}
use Rattle.ff_journal.specs.declared.entries.Entry.{Entry}
use Rattle.ff_journal.specs.declared.entries.Outcome.TheVariants as outcome
use Rattle.ff_journal.specs.Epochs.{last_begun, givens_of}
use Rattle.ff_journal.specs.Publications.{published, IsLast}
use Rattle.ff_journal.specs.Journals.{IsLegal, commands_of}
use Rattle.ff_journal.specs.Shown.{AreShown}
use Rattle.ff_told.specs.Paged.{AreAllPages}
use Rattle.ff_told.specs.Earlier.{AreOrdered}
use Rattle.ff_desk.specs.Views.{BaseView, HomeView, EarlierView, DeskView, total}
use Rattle.ff_desk.specs.Demands.{AreDemanded}

-- Few enough: at most 2^18 variables, 2^22 constraints and fewer than 2^21 starts; a budget of at most a thousand million turns; at most
-- 64 viewers with at most 1024 commands in all.
pub record IsFew (b : BaseView) : Type 0 where
  pub vars : b.case.system.vars ≤ 2 ^ 18
  pub constraints : length b.case.system.constraints ≤ 2 ^ 22
  pub starts : length b.case.starts < 2 ^ 21
  pub turns : b.budget ≤ 1000000000
  pub viewers : length b.lengths ≤ 64
  pub commands : total b.lengths ≤ 1024

-- a board was opened for this epoch of the journal, with facts of levels that are low enough
pub record IsOpeningOf (case : Case) (journal : List Entry) (e : ℕ) (o : Opening) : Type 0 where
  pub begun : e ≤ last_begun journal
  pub case_is : arc_value o.case ≡ case
  pub its : o.givens ≡ givens_of case journal e
  pub low : top_level o.facts ≤ e * 2 ^ 18

-- of the published epochs from this one on, the givens contradict each other
abbrev pub ContradictFrom : Case → List Entry → ℕ → Type 0
ContradictFrom case journal first = (e : ℕ) → first ≤ e → e < published journal → Agree (givens_of case journal e) → ⊥

-- What is kept is of the last published epoch whose givens don't contradict each other: its givens, facts by the fact rule under
-- them, and a board of it with a seat that has seen exactly these facts.
pub record IsKeptOf (case : Case) (journal : List Entry) (gs : List Given) (fs : List (Option Fact)) (home : HomeView) : Type 0 where
  pub epoch : ℕ
  pub is_published : epoch < published journal
  pub later : ContradictFrom case journal (epoch + 1)
  pub its : gs ≡ givens_of case journal epoch
  pub agree : Agree gs
  pub rule : MeetsFactRule case.system.vars case.system.constraints gs fs
  pub of_case : arc_value home.board.opening.case ≡ case
  pub of_givens : home.board.opening.givens ≡ gs
  pub seen : (v : ℕ) → v < case.system.vars → fact_at fs v ≡ fact_seen home.seat.view v

-- So it is, or no facts and no givens are kept, where there is no such epoch.
abbrev pub IsKept : Case → List Entry → List Given → List (Option Fact) → Option HomeView → Type 0
IsKept case journal gs fs None = (gs ≡ []) × (fs ≡ replicate case.system.vars None) × ContradictFrom case journal 0
IsKept case journal gs fs (Some home) = IsKeptOf case journal gs fs home

-- A board of the least unpublished epoch, whose givens agree, opened with the facts that are carried to them from the kept ones.
pub record IsPresentOf (case : Case) (journal : List Entry) (kept : List (Option Fact)) (o : Opening) : Type 0 where
  pub unpublished : published journal ≤ last_begun journal
  pub case_is : arc_value o.case ≡ case
  pub its : o.givens ≡ givens_of case journal (published journal)
  pub agree : Agree o.givens
  pub carried : IsCarried case.system.vars case.system.constraints o.givens kept o.facts

-- the board of the least unpublished epoch, where there is one, is such a board
abbrev pub HasPresent : Case → List Entry → List (Option Fact) → Option HomeView → Type 0
HasPresent case journal kept None = Unit {0}
HasPresent case journal kept (Some present) = IsPresentOf case journal kept present.board.opening

-- where the last published epoch has a board, the facts are those of it, with the levels that replies to `why` named since
abbrev pub AreLastFacts : Case → List Entry → List (Option Fact) → Type 0
AreLastFacts case journal fs = (e : ℕ) (board : List (Option Order)) → IsLast journal e (outcome.Board board)
    → AreShown case journal e (outcome.Board board) fs

-- where pages are there, they are those of all parts of the last published board
abbrev pub KeepsPages : Case → ℕ → List Entry → List (Option Fact) → Option (List Pages) → Type 0
KeepsPages case budget journal fs None = Unit {0}
KeepsPages case budget journal fs (Some pages) = (e : ℕ) × (board : List (Option Order)) × IsLast journal e (outcome.Board board)
    × AreAllPages case budget (givens_of case journal e) fs pages

-- the turns that the searches of one board visit at most: a thousand million for each of at most 2^18 parts
abbrev pub most_turns : ℕ
most_turns = 262144000000000

-- What is kept of an earlier board, where n epochs are published, and the pages of the last board are laid or not: pages of different
-- parts of the case, for this budget, no more than variables; none once pages are laid. The turns of what was dropped are those of as
-- many boards as were laid.
abbrev pub KeepsEarlier : Case → ℕ → ℕ → Option (List Pages) → EarlierView → Type 0
KeepsEarlier case budget n None e = AreOrdered case budget e.pages × (length e.pages ≤ case.system.vars) × (e.spent ≤ (n - 1) * most_turns)
KeepsEarlier case budget n (Some pages) e = (e.pages ≡ []) × (e.spent ≤ n * most_turns)

-- The journal is legal, and no viewer has more entries than its script is long.
pub record IsDesk (d : DeskView) : Type 0 where
  pub few : IsFew d.base
  pub legal : IsLegal d.base.case d.base.budget d.journal
  pub order : published d.journal ≤ last_begun d.journal + 1
  pub within : (v : ℕ) → length (commands_of v d.journal) ≤ slice_index d.base.lengths v
  pub kept : IsKept d.base.case d.journal d.givens d.facts d.home
  pub low : top_level d.facts ≤ published d.journal * 2 ^ 18
  pub read : AreLastFacts d.base.case d.journal d.facts
  pub present : HasPresent d.base.case d.journal d.facts d.present
  pub pages : KeepsPages d.base.case d.base.budget d.journal d.facts d.pages
  pub demands : AreDemanded d.journal d.pages d.demanded
  pub earlier : KeepsEarlier d.base.case d.base.budget (published d.journal) d.pages d.earlier

-- What each call of a desk does. This project's own.
use Rattle.std.specs.Prelude.{◌≡◌, ◌≢◌, ℕ, ◌+◌, ◌*◌, ◌<◌, ◌≤◌, ◌⊎◌, List, [], ◌∷◌, ◌++◌, length, max, min, slice_get, Option, Some, None, Result, Ok, Err}
use Rattle.ff_tables.specs.declared.memory.NoMemory.{NoMemory}
use Rattle.ff_tables.specs.declared.terms.Constraint.{Constraint}
use Rattle.ff_viewer.specs.declared.commands.Command.{Command}
use Rattle.ff_viewer.specs.declared.replies.Reply.{Reply}
use Rattle.ff_journal.specs.declared.entries.Entry.{Entry}
use Rattle.ff_journal.specs.declared.entries.Entry.TheVariants as entry
use Rattle.ff_journal.specs.declared.entries.Outcome.{Outcome}
use Rattle.ff_journal.specs.Epochs.{last_begun}
use Rattle.ff_journal.specs.Publications.{published}
use Rattle.ff_journal.specs.Journals.{commands_of}
use Rattle.ff_journal.specs.Waiting.{IsNotPublished}
use Rattle.ff_pages.specs.declared.pages.Pages.{Pages}
use Rattle.ff_pages.specs.Paging.{visited_of, IsSamePages, RunsTo}
use Rattle.ff_desk.specs.declared.loans.Lent.{Lent}
use Rattle.ff_desk.specs.declared.loans.Lent.TheVariants as lent
use Rattle.ff_desk.specs.declared.loans.Turn.{Turn}
use Rattle.ff_desk.specs.declared.loans.Turn.TheVariants as turn
use Rattle.ff_told.specs.Earlier.{SomeKeeps, turns_in}
use Rattle.ff_desk.specs.Views.{EarlierView, DeskView}
use Rattle.ff_desk.specs.Demands.{IsOpenAt, HasPages}
use Rattle.ff_desk.specs.Desks.{IsOpeningOf}

-- every epoch begun is published
abbrev pub AllPublished : List Entry → Type 0
AllPublished journal = published journal ≡ last_begun journal + 1

-- the least unpublished epoch is published
abbrev pub PublishesOne : List Entry → List Entry → Type 0
PublishesOne old new = (outcome : Outcome) × (new ≡ old ++ entry.Published (published old) outcome ∷ [])

-- one publication more, or none
abbrev pub Steps : List Entry → List Entry → Type 0
Steps old new = (new ≡ old) ⊎ PublishesOne old new

-- no viewer's entry is among these
abbrev pub AreSilent : List Entry → Type 0
AreSilent [] = Unit {0}
AreSilent (entry.Said viewer index said told ∷ entries) = ⊥
AreSilent (entry.Published e outcome ∷ entries) = AreSilent entries

-- publications more, or none
abbrev pub Publishes : List Entry → List Entry → Type 0
Publishes old new = (rest : List Entry) × (new ≡ old ++ rest) × AreSilent rest

-- all is the same but the present board
pub record IsSameButPresent (old new : DeskView) : Type 0 where
  pub base : new.base ≡ old.base
  pub journal : new.journal ≡ old.journal
  pub givens : new.givens ≡ old.givens
  pub facts : new.facts ≡ old.facts
  pub home : new.home ≡ old.home
  pub pages : new.pages ≡ old.pages
  pub demanded : new.demanded ≡ old.demanded
  pub earlier : new.earlier ≡ old.earlier

-- all is the same but the pages, which are demanded, and what is kept of earlier ones
pub record IsSameButPages (old new : DeskView) : Type 0 where
  pub base : new.base ≡ old.base
  pub journal : new.journal ≡ old.journal
  pub givens : new.givens ≡ old.givens
  pub facts : new.facts ≡ old.facts
  pub home : new.home ≡ old.home
  pub present : new.present ≡ old.present

-- ---- turns

-- the turns that the searches of laid pages have visited
abbrev pub turns_laid : Option (List Pages) → ℕ
turns_laid None = 0
turns_laid (Some pages) = turns_in pages

-- the turns that all searches have visited, those whose pages were dropped included
abbrev pub turns_of : DeskView → ℕ
turns_of d = d.earlier.spent + turns_in d.earlier.pages + turns_laid d.pages

-- what is kept of earlier boards once an epoch is published: the pages that were laid, or where none were, what was kept before
abbrev pub kept_after : Option (List Pages) → EarlierView → EarlierView
kept_after None e = e
kept_after (Some pages) e = record { pages = pages; spent = e.spent }

-- Each of the laid pages has visited what the earlier search has visited whose pages can be kept for its part, and nothing where there
-- is none.
abbrev pub AreLaidAfter : List Constraint → List Pages → Option (List Pages) → Type 0
AreLaidAfter cons earlier laid = (i : ℕ) (p : Pages) → HasPages laid i p
    → ((k : SomeKeeps cons earlier 0 p) → visited_of p ≡ visited_of k.pages) × ((SomeKeeps cons earlier 0 p → ⊥) → visited_of p ≡ 0)

-- ---- the search

-- no demanded part is open
abbrev pub NoneOpen : DeskView → Type 0
NoneOpen d = (p : ℕ) → IsOpenAt d.base.case.system.constraints d.journal d.pages p → ⊥

-- the p-th part is the least open demanded one
pub record IsLeastOpen (d : DeskView) (p : ℕ) : Type 0 where
  pub open_yet : IsOpenAt d.base.case.system.constraints d.journal d.pages p
  pub least : (q : ℕ) → q < p → IsOpenAt d.base.case.system.constraints d.journal d.pages q → ⊥

-- the pages of the p-th part went on, and those of the others are the same
pub record HasGoneOn (p : ℕ) (old new : Option (List Pages)) : Type 0 where
  pub before : Pages
  pub after : Pages
  pub was : HasPages old p before
  pub is : HasPages new p after
  pub same : IsSamePages before after
  pub others : (q : ℕ) (pages : Pages) → q ≢ p → HasPages old q pages → HasPages new q pages

-- the search of the p-th part went on for 4096 turns, or those of one node where that costs more, so that a node was visited
pub record IsSearched (d new : DeskView) (p : ℕ) : Type 0 where
  pub same : IsSameButPages d new
  pub demanded : new.demanded ≡ d.demanded
  pub earlier : new.earlier ≡ d.earlier
  pub gone : HasGoneOn p d.pages new.pages
  pub ran : RunsTo d.base.case.system.constraints
      (min (length gone.before.part.vars * visited_of gone.before + max 4096 (length gone.before.part.vars)) gone.before.budget) gone.after
  pub visited : visited_of gone.before < visited_of gone.after

-- Idle where no demanded part is open, and then nothing changes; else the least one went on.
abbrev pub SearchIs : DeskView → DeskView → Turn → Type 0
SearchIs old new turn.Idle = NoneOpen old × (new ≡ old)
SearchIs old new turn.Did = (p : ℕ) × IsLeastOpen old p × IsSearched old new p

-- ---- what is done next

-- Where all is published, a search. Else the least unpublished epoch was published at once, or a board of it is lent, which is then
-- the present one.
abbrev pub LentIs : DeskView → DeskView → Lent → Type 0
LentIs old new (lent.Searched t) = AllPublished old.journal × SearchIs old new t
LentIs old new lent.Published = (published old.journal ≤ last_begun old.journal) × PublishesOne old.journal new.journal
LentIs old new (lent.Board loan) = IsSameButPresent old new × (loan.epoch ≡ published old.journal)
    × IsOpeningOf old.base.case old.journal loan.epoch loan.board.opening

-- what was found is published, where its epoch is the least unpublished one, and else nothing changes
abbrev pub BringIs : ℕ → DeskView → DeskView → Type 0
BringIs epoch old new = ((epoch ≡ published old.journal) × PublishesOne old.journal new.journal)
    ⊎ ((epoch ≢ published old.journal) × (new ≡ old))

-- The viewer's entry with this command and the reply is made. None where it waits for a publication, and then nothing changes. After
-- want of memory it isn't made.
abbrev pub SaidIs : ℕ → Command → DeskView → DeskView → Option (Result Reply NoMemory) → Type 0
SaidIs viewer said old new None = ((e : ℕ) × IsNotPublished old.journal said e) × (new ≡ old)
SaidIs viewer said old new (Some (Ok told)) = ((e : ℕ) → IsNotPublished old.journal said e → ⊥)
    × (new.journal ≡ old.journal ++ entry.Said viewer (length (commands_of viewer old.journal)) said told ∷ [])
    × (new.givens ≡ old.givens) × (new.facts ≡ old.facts) × (new.home ≡ old.home) × (new.present ≡ old.present)
SaidIs viewer said old new (Some (Err e)) = IsSameButPages old new

-- so many epochs were published, and nothing else was entered
pub record HasPublished (old new : DeskView) (n : ℕ) : Type 0 where
  pub base : new.base ≡ old.base
  pub publishes : Publishes old.journal new.journal
  pub counted : published new.journal ≡ published old.journal + n
  pub begun : last_begun new.journal ≡ last_begun old.journal

-- Commands that are answered and entered.
use Rattle.std.proofs.Common.{◌≡◌, ℕ, ◌+◌, ◌≤◌, List, [], ◌∷◌, ◌++◌, length, sym, refl, ap, ◌∙◌, subst, arith, Option, Some, None}
use Rattle.ff_tables.specs.declared.orders.Order.{Order}
use Rattle.ff_types.specs.declared.cases.Case.{Case}
use Rattle.ff_propagate.specs.declared.facts.Fact.{Fact}
use Rattle.ff_viewer.specs.declared.commands.Command.{Command}
use Rattle.ff_viewer.specs.declared.commands.Command.TheVariants as command
use Rattle.ff_viewer.specs.declared.replies.Reply.{Reply}
use Rattle.ff_journal.specs.declared.entries.Entry.{Entry}
use Rattle.ff_journal.specs.declared.entries.Entry.TheVariants as entry
use Rattle.ff_journal.specs.declared.entries.Outcome.TheVariants as outcome
use Rattle.ff_journal.specs.Epochs.{last_begun}
use Rattle.ff_journal.specs.Publications.{published, IsLast}
use Rattle.ff_journal.specs.Journals.{IsSaid, commands_of}
use Rattle.ff_journal.specs.Shown.{AreShown, NamesFit}
use Rattle.ff_journal.specs.Waiting.{IsNotPublished}
use Rattle.ff_core.specs.declared.events.Step.TheVariants as step
use Rattle.ff_core.specs.States.{State, ShowsLast, StandsFor, IsSameButPages}
use Rattle.ff_core.specs.Steps.{Says, WorksOnAfter, IsReopened}
use Rattle.ff_core.proofs.AfterSaying.{said_in, entered_stands, entered_says, begun_room, taken_back, not_empty}
use Rattle.std.specs.Prelude.{IfSome}
use Rattle.ff_core.proofs.Kept.{shown_are}

-- ---- the shown facts

pub shown_last : (case : Case) (core : State) (fs : List (Option Fact)) → StandsFor case core → core.shown ≡ Some fs
    → (e : ℕ) (board : List (Option Order)) → IsLast core.journal e (outcome.Board board) → AreShown case core.journal e (outcome.Board board) fs
shown_last case core fs stands is e board l = shown_are case core.journal fs e (outcome.Board board) (subst (λ o. ShowsLast case core.journal o) is stands.shows) l

-- ---- other pages

-- the state with the pages of another
pub same_state : (old mid : State) → IsSameButPages old mid → mid ≡ record old { pages = mid.pages }
same_state old mid same i = record { journal = same.journal i; budget = same.budget i; working = same.working i; shown = same.shown i; pages = mid.pages }

-- a right reply, entered in a state with other pages
pub said_on : (case : Case) (old mid : State) (viewer : ℕ) (said : Command) (told copied : Reply) → IsSameButPages old mid → copied ≡ told
    → IsSaid case old.budget old.journal viewer (length (commands_of viewer old.journal)) said told
    → IsSaid case mid.budget mid.journal viewer (length (commands_of viewer mid.journal)) said copied
said_on case old mid viewer said told copied same is h =
    subst (λ (x : State). IsSaid case x.budget x.journal viewer (length (commands_of viewer x.journal)) said copied) (sym (same_state old mid same))
    (subst (λ r. IsSaid case old.budget old.journal viewer (length (commands_of viewer old.journal)) said r) (sym is) h)

pub names_on : (case : Case) (old mid : State) (viewer : ℕ) (said : Command) (told copied : Reply) → IsSameButPages old mid → copied ≡ told
    → NamesFit case old.shown (entry.Said viewer (length (commands_of viewer old.journal)) said told)
    → NamesFit case mid.shown (entry.Said viewer (length (commands_of viewer mid.journal)) said copied)
names_on case old mid viewer said told copied same is h =
    subst (λ (x : State). NamesFit case x.shown (entry.Said viewer (length (commands_of viewer x.journal)) said copied)) (sym (same_state old mid same))
    (subst (λ r. NamesFit case old.shown (entry.Said viewer (length (commands_of viewer old.journal)) said r)) (sym is) h)

-- what an entry changes
abbrev pub Enters : Case → State → ℕ → Command → Reply → State → Type 0
Enters case old viewer said told new = (new.journal ≡ old.journal ++ entry.Said viewer (length (commands_of viewer old.journal)) said told ∷ [])
    × (new.budget ≡ old.budget) × (new.shown ≡ old.shown) × WorksOnAfter case old new

pub says_on : (case : Case) (old mid new : State) (viewer : ℕ) (said : Command) (told copied : Reply) → IsSameButPages old mid → copied ≡ told
    → ((e : ℕ) → IsNotPublished old.journal said e → ⊥) → Enters case mid viewer said copied new → Says case old viewer said new (step.Said told)
says_on case old mid new viewer said told copied same is free h =
    let g : Enters case old viewer said told new = subst (λ r. Enters case old viewer said r new) is
    (subst (λ x. Enters case x viewer said copied new) (same_state old mid same) h) in
    (free, g.0, g.1, g.2, g.3)

-- ---- an entry is made

-- an entry of a viewer, once an epoch that it begins is opened
pub entered_all : (case : Case) (old new : State) (j : List Entry) (viewer index : ℕ) (said : Command) (told : Reply) → StandsFor case old
    → j ≡ old.journal ++ entry.Said viewer index said told ∷ [] → index ≡ length (commands_of viewer old.journal)
    → IsSaid case old.budget old.journal viewer (length (commands_of viewer old.journal)) said told
    → NamesFit case old.shown (entry.Said viewer (length (commands_of viewer old.journal)) said told)
    → IsReopened case (record old { journal = j }) new → StandsFor case new × Enters case old viewer said told new
entered_all case old new j viewer index said told stands added number is fit r =
    let n = length (commands_of viewer old.journal) in
    let added_there : j ≡ old.journal ++ entry.Said viewer n said told ∷ [] = added ∙ ap (λ k. old.journal ++ entry.Said viewer k said told ∷ []) number in
    let here : IsReopened case (said_in old viewer n said told) new = subst (λ x. IsReopened case (record old { journal = x }) new) added_there r in
    (entered_stands case old new viewer n said told stands is fit here, entered_says case old new viewer n said told stands here)

-- there is room to open an epoch
pub entered_room : (case : Case) (budget : ℕ) (before j : List Entry) (viewer index : ℕ) (said : Command) (told : Reply)
    → j ≡ before ++ entry.Said viewer index said told ∷ []
    → IsSaid case budget before viewer (length (commands_of viewer before)) said told → last_begun j ≤ length before
entered_room case budget before j viewer index said told added is =
    let c = is.published.counted in
    subst (λ x. last_begun x ≤ length before) (sym added) (begun_room before viewer index said told (omega (arith, c)))

-- the entry is taken back
pub popped : (o : Option Entry) (j now new : List Entry) (s : Entry) → now ≡ j ++ s ∷ [] → IfSome o (λ item. now ≡ new ++ item ∷ [])
    → (o ≡ None → (now ≡ []) × (new ≡ [])) → new ≡ j
popped None j now new s added some none = absurd (not_empty j s (sym added ∙ (none refl).0))
popped (Some item) j now new s added some none = taken_back j new s item (sym added ∙ some)

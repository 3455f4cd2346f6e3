-- What each event does to the core. This project's own.
use Rattle.std.specs.Prelude.{◌≡◌, ℕ, ◌+◌, ◌<◌, ◌≤◌, ◌⊎◌, List, [], ◌∷◌, ◌++◌, length, slice_get, slice_set, Option, Some, None}
use Rattle.ff_tables.specs.declared.orders.Order.{Order}
use Rattle.ff_tables.specs.declared.terms.Constraint.{Constraint}
use Rattle.ff_tables.specs.declared.givens.Given.{Given}
use Rattle.ff_tables.specs.Forces.{Forces, Knows}
use Rattle.ff_types.specs.declared.cases.Case.{Case}
use Rattle.ff_propagate.specs.declared.facts.Fact.{Fact}
use Rattle.ff_propagate.specs.declared.facts.Reason.TheVariants as reason
use Rattle.ff_propagate.specs.Facts.{fact_at, value_at}
use Rattle.ff_propagate.specs.FactRule.{IsForcedBelow}
use Rattle.ff_propagate.specs.Closing.{Contradict, IsDeadIn}
use Rattle.ff_viewer.specs.declared.commands.Command.{Command}
use Rattle.ff_viewer.specs.declared.commands.Command.TheVariants as command
use Rattle.ff_journal.specs.declared.entries.Entry.{Entry}
use Rattle.ff_journal.specs.declared.entries.Entry.TheVariants as entry
use Rattle.ff_journal.specs.declared.entries.Outcome.{Outcome}
use Rattle.ff_core.specs.declared.events.Event.{Event}
use Rattle.ff_core.specs.declared.events.Event.TheVariants as event
use Rattle.ff_core.specs.declared.events.Step.{Step}
use Rattle.ff_core.specs.declared.events.Step.TheVariants as step
use Rattle.ff_core.specs.declared.events.Left.TheVariants as left
use Rattle.ff_journal.specs.Epochs.{last_begun, givens_of}
use Rattle.ff_journal.specs.Publications.{published}
use Rattle.ff_journal.specs.Journals.{commands_of}
use Rattle.ff_journal.specs.Waiting.{IsNotPublished}
use Rattle.ff_core.specs.States.{State, AreOpening}

-- ---- deduced facts

-- the fact's reason is a constraint that forces its value from the facts of lower levels
pub record CanStand (cons : List Constraint) (fs : List (Option Fact)) (v : ℕ) (h : Fact) : Type 0 where
  pub number : ℕ
  pub by_constraint : h.reason ≡ reason.Forced number
  pub above : 0 < h.level
  pub forced : IsForcedBelow cons fs number h.level v h.value

-- what a deduced fact comes to among the facts worked on
abbrev pub DeducesIn : ℕ → List Constraint → List (Option Fact) → ℕ → Fact → List (Option Fact) → Step → Type 0
DeducesIn vars cons fs v h new step.Took = (v < vars) × (fact_at fs v ≡ None) × CanStand cons fs v h
    × (new ≡ slice_set fs v (Some h))
DeducesIn vars cons fs v h new (step.Left (left.Held g)) = (fact_at fs v ≡ Some g) × (new ≡ fs)
DeducesIn vars cons fs v h new (step.Left left.NotForced) = (fact_at fs v ≡ None)
    × (v < vars → CanStand cons fs v h → ⊥) × (new ≡ fs)
DeducesIn vars cons fs v h new _ = ⊥

-- how a fact is added to the facts that are worked on, if there are any
abbrev pub DeducesFrom : Case → State → Option (List (Option Fact)) → ℕ → Fact → State → Step → Type 0
DeducesFrom case old None v h new answer = (answer ≡ step.Left left.NoEpoch) × (new ≡ old)
DeducesFrom case old (Some fs) v h new answer = (more : List (Option Fact))
    × DeducesIn case.system.vars case.system.constraints fs v h more answer
    × (new ≡ record old { working = Some more })

-- how a fact is added to the facts that are worked on
abbrev pub Deduces : Case → State → ℕ → Fact → State → Step → Type 0
Deduces case old v h new answer = DeducesFrom case old old.working v h new answer

-- ---- publications

-- two of the givens contradict each other
abbrev pub HaveContradiction : List Given → Type 0
HaveContradiction gs = (i : ℕ) × (j : ℕ) × (g : Given) × (h : Given) × (slice_get gs i ≡ Some g)
    × (slice_get gs j ≡ Some h) × Contradict g h

-- some constraint is dead
abbrev pub HaveDead : List Constraint → List (Option Fact) → Type 0
HaveDead cons fs = (c : ℕ) × IsDeadIn cons fs c

-- the c-th constraint forces a variable that has no fact
pub record ForcesMore (cons : List Constraint) (fs : List (Option Fact)) (c : ℕ) : Type 0 where
  pub constraint : Constraint
  pub there : slice_get cons c ≡ Some constraint
  pub variable : ℕ
  pub value : Order
  pub unset : fact_at fs variable ≡ None
  pub forces : Forces constraint.kind constraint.terms (Knows (value_at fs)) variable value

-- c is the first such constraint, where no givens contradict each other and no constraint is dead
pub record IsNotClosed (cons : List Constraint) (gs : List Given) (fs : List (Option Fact)) (c : ℕ) : Type 0 where
  pub agreed : HaveContradiction gs → ⊥
  pub alive : HaveDead cons fs → ⊥
  pub forces : ForcesMore cons fs c
  pub first : (d : ℕ) → d < c → ForcesMore cons fs d → ⊥

-- some constraint shows that the facts are not closed
abbrev pub IsNotClosedAny : List Constraint → List Given → List (Option Fact) → Type 0
IsNotClosedAny cons gs fs = (c : ℕ) × IsNotClosed cons gs fs c

-- the facts to be worked on once epochs up to e are published: those of the givens of the next one, where it has begun
abbrev pub WorkNext : Case → List Entry → ℕ → Option (List (Option Fact)) → Type 0
WorkNext case journal e None = last_begun journal < e
WorkNext case journal e (Some fs) = (e ≤ last_begun journal) × AreOpening case.system.vars (givens_of case journal e) fs

-- how a publication goes
abbrev pub Publishes : Case → State → State → Step → Type 0
Publishes case old new step.Took = (fs : List (Option Fact)) × (outcome : Outcome) × (old.working ≡ Some fs)
    × (IsNotClosedAny case.system.constraints (givens_of case old.journal (published old.journal)) fs → ⊥)
    × (new.journal ≡ old.journal ++ entry.Published (published old.journal) outcome ∷ [])
    × (new.budget ≡ old.budget) × (new.shown ≡ Some fs)
    × WorkNext case new.journal (published old.journal + 1) new.working
Publishes case old new (step.Left left.NoEpoch) = (old.working ≡ None) × (new ≡ old)
Publishes case old new (step.Left (left.NotClosed c)) = (fs : List (Option Fact)) × (old.working ≡ Some fs)
    × IsNotClosed case.system.constraints (givens_of case old.journal (published old.journal)) fs c × (new ≡ old)
Publishes case old new _ = ⊥

-- ---- commands

-- the facts worked on stay while an epoch is unpublished, and else are those of the givens of the epoch that begins
abbrev pub WorksOnAfter : Case → State → State → Type 0
WorksOnAfter case old new = ((published old.journal ≤ last_begun old.journal) × (new.working ≡ old.working))
    ⊎ ((published old.journal ≡ last_begun old.journal + 1) × WorkNext case new.journal (published old.journal) new.working)

-- the facts worked on after an entry: those before, and where there are none, those of the epoch that begins
abbrev pub ReopensFrom : Case → List Entry → Option (List (Option Fact)) → Option (List (Option Fact)) → Type 0
ReopensFrom case journal (Some fs) work = work ≡ Some fs
ReopensFrom case journal None work = WorkNext case journal (published journal) work

-- an epoch that has begun is opened where none is worked on, and nothing else changes
abbrev pub IsReopened : Case → State → State → Type 0
IsReopened case old new = (new ≡ record old { working = new.working }) × ReopensFrom case old.journal old.working new.working

-- how a command of a viewer goes
abbrev pub Says : Case → State → ℕ → Command → State → Step → Type 0
Says case old viewer said new (step.Said told) = ((e : ℕ) → IsNotPublished old.journal said e → ⊥)
    × (new.journal ≡ old.journal ++ entry.Said viewer (length (commands_of viewer old.journal)) said told ∷ [])
    × (new.budget ≡ old.budget) × (new.shown ≡ old.shown) × WorksOnAfter case old new
Says case old viewer said new (step.Left (left.NotPublished e)) = IsNotPublished old.journal said e × (new ≡ old)
Says case old viewer said new _ = ⊥

-- ---- a new core

-- its journal is empty, and it works on epoch 0
pub record IsNew (case : Case) (budget : ℕ) (core : State) : Type 0 where
  pub empty : core.journal ≡ []
  pub budgeted : core.budget ≡ budget
  pub works : WorkNext case core.journal 0 core.working
  pub unpublished : core.shown ≡ None
  pub no_pages : core.pages ≡ None

-- what a step answers and changes. That its entries are right is in the legal journal.
abbrev pub IsStep : Case → State → Event → State → Step → Type 0
IsStep case old (event.Deduce v h) new answer = Deduces case old v h new answer
IsStep case old (event.Pin viewer f g value) new answer = Says case old viewer (command.Pin f g value) new answer
IsStep case old (event.Unpin viewer f g) new answer = Says case old viewer (command.Unpin f g) new answer
IsStep case old (event.Ask viewer question) new answer = Says case old viewer (command.Ask question) new answer
IsStep case old event.Publish new answer = Publishes case old new answer

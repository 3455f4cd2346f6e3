-- Facts that are deduced one after the other, by level. This project's own.
-- For the proofs of this crate alone.
use Rattle.std.specs.Prelude.{◌≡◌, ℕ, ◌+◌, ◌-◌, ◌<◌, ◌≤◌, ◌^◌, ◌⊎◌, List, length, slice_get, Option, Some}
use Rattle.ff_tables.specs.declared.terms.Constraint.{Constraint}
use Rattle.ff_types.specs.declared.cases.Case.{Case}
use Rattle.ff_propagate.specs.declared.facts.Fact.{Fact}
use Rattle.ff_propagate.specs.declared.facts.Reason.TheVariants as reason
use Rattle.ff_propagate.specs.Facts.{fact_at}
use Rattle.ff_propagate.specs.FactRule.{IsForcedBelow}
use Rattle.ff_carry.specs.declared.placing.Placed.{Placed}
use Rattle.ff_journal.specs.declared.entries.Entry.{Entry}
use Rattle.ff_journal.specs.Epochs.{givens_of}
use Rattle.ff_journal.specs.Publications.{published}
use Rattle.ff_core.specs.States.{State, AreOpening}
use Rattle.ff_core.specs.declared.events.Event.{Event}
use Rattle.ff_core.specs.declared.events.Step.{Step}
use Rattle.ff_core.specs.Steps.{IsNotClosedAny, IsStep}

-- what the calls of the core ask of the case and the journal
pub record HasRoom (case : Case) (journal : List Entry) : Type 0 where
  pub room : length journal < 2 ^ 32 - 1
  pub few : length case.starts + length journal < 2 ^ 32
  pub constraints : length case.system.constraints < 2 ^ 32

-- the event has happened, with some answer
abbrev pub Happens : Case → State → Event → State → Type 0
Happens case old happened new = (answer : Step) × IsStep case old happened new answer

-- a fact of level 0, or one that a constraint forces from facts of lower levels
abbrev pub IsFounded : List Constraint → List (Option Fact) → ℕ → Fact → Type 0
IsFounded cons facts v h = (h.level ≡ 0)
    ⊎ ((c : ℕ) × (h.reason ≡ reason.Forced c) × (0 < h.level) × IsForcedBelow cons facts c h.level v h.value)

-- each fact is one
abbrev pub AreFounded : List Constraint → List (Option Fact) → Type 0
AreFounded cons facts = (v : ℕ) (h : Fact) → fact_at facts v ≡ Some h → IsFounded cons facts v h

-- the two have one value and one level
abbrev pub AreLike : Fact → Fact → Type 0
AreLike x h = (x.value ≡ h.value) × (x.level ≡ h.level)

-- the facts worked on are like the others where both are there, and have those of level 0
pub record HaveBegun (facts work : List (Option Fact)) : Type 0 where
  pub alike : (v : ℕ) (x h : Fact) → fact_at work v ≡ Some x → fact_at facts v ≡ Some h → AreLike x h
  pub given : (v : ℕ) (h : Fact) → fact_at facts v ≡ Some h → h.level ≡ 0 → (x : Fact) × (fact_at work v ≡ Some x)

-- besides, they have those of the first n places
pub record HaveReached (facts : List (Option Fact)) (order : List Placed) (n : ℕ) (work : List (Option Fact)) : Type 0 where
  pub begun : HaveBegun facts work
  pub reached : (i : ℕ) (p : Placed) → i < n → slice_get order i ≡ Some p → (x : Fact) × (fact_at work p.var ≡ Some x)

-- they have all
abbrev pub HaveAll : List (Option Fact) → List (Option Fact) → Type 0
HaveAll facts work = (v : ℕ) (h : Fact) → fact_at facts v ≡ Some h → (x : Fact) × (fact_at work v ≡ Some x) × AreLike x h

-- the core works on facts that are so
abbrev pub WorksOnSuch : (List (Option Fact) → Type 0) → State → Type 0
WorksOnSuch such core = (work : List (Option Fact)) × (core.working ≡ Some work) × such work

-- nothing but the facts worked on changes
abbrev pub IsSameButWork : State → State → Type 0
IsSameButWork old new = new ≡ record old { working = new.working }

-- the facts worked on are the givens of the least unpublished epoch
abbrev pub IsOpened : Case → State → Type 0
IsOpened case core = WorksOnSuch (AreOpening case.system.vars (givens_of case core.journal (published core.journal))) core

-- nothing more is to be deduced
abbrev pub IsQuiet : Case → State → Type 0
IsQuiet case core = (work : List (Option Fact)) → core.working ≡ Some work
    → IsNotClosedAny case.system.constraints (givens_of case core.journal (published core.journal)) work → ⊥

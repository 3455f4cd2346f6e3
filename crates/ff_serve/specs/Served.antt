-- Scripts that are served in order. This project's own.
use Rattle.std.specs.Prelude.{◌≡◌, ◌≢◌, ℕ, ◌+◌, ◌-◌, ◌<◌, ◌≤◌, ◌^◌, ◌⊎◌, List, [], ◌∷◌, ◌++◌, length, take}
use Rattle.ff_viewer.specs.declared.commands.Command.{Command}
use Rattle.ff_viewer.specs.declared.commands.Command.TheVariants as command
use Rattle.ff_journal.specs.declared.entries.Entry.{Entry}
use Rattle.ff_journal.specs.Epochs.{last_begun}
use Rattle.ff_journal.specs.Publications.{published}
use Rattle.ff_journal.specs.Journals.{commands_of, script_of}
use Rattle.ff_core.specs.declared.events.Event.{Event}
use Rattle.ff_core.specs.declared.events.Event.TheVariants as event
use Rattle.ff_journal.specs.declared.entries.Entry.TheVariants as entry
use Rattle.ff_journal.specs.declared.entries.Outcome.{Outcome}
use Rattle.ff_types.specs.declared.cases.Case.{Case}
use Rattle.ff_core.specs.States.{State}
use Rattle.ff_serve.specs.Reaching.{IsOpened}

-- the event of a viewer's command
abbrev pub event_of : ℕ → Command → Event
event_of viewer (command.Pin f g value) = event.Pin viewer f g value
event_of viewer (command.Unpin f g) = event.Unpin viewer f g
event_of viewer (command.Ask question) = event.Ask viewer question

-- every epoch begun is published
abbrev pub AllPublished : List Entry → Type 0
AllPublished journal = published journal ≡ last_begun journal + 1

-- one publication more, after which every epoch begun is published
pub record IsOnePublished (old new : State) : Type 0 where
  pub outcome : Outcome
  pub appended : new.journal ≡ old.journal ++ entry.Published (published old.journal) outcome ∷ []
  pub all : AllPublished new.journal
  pub budget : new.budget ≡ old.budget

-- every epoch begun is published, or all but the last, whose givens are worked on
abbrev pub IsAtMostOneBegun : Case → State → Type 0
IsAtMostOneBegun case core = AllPublished core.journal
    ⊎ ((published core.journal ≡ last_begun core.journal) × IsOpened case core)

-- at most one publication more
pub record HasMorePublished (old new : State) : Type 0 where
  pub commands : (v : ℕ) → commands_of v new.journal ≡ commands_of v old.journal
  pub few : length new.journal ≤ length old.journal + 1
  pub budget : new.budget ≡ old.budget

-- a case that leaves room for as many entries as a bench makes
pub record HasCommonRoom (case : Case) : Type 0 where
  pub starts : length case.starts < 2 ^ 31
  pub constraints : length case.system.constraints < 2 ^ 32

-- the journal leaves room for n entries more
pub record HasRoomFor (case : Case) (journal : List Entry) (n : ℕ) : Type 0 where
  pub room : length journal + n < 2 ^ 32 - 1
  pub few : length case.starts + length journal + n < 2 ^ 32
  pub constraints : length case.system.constraints < 2 ^ 32

-- how many commands the scripts have
abbrev pub commands_in : List (List Command) → ℕ
commands_in [] = 0
commands_in (script ∷ scripts) = length script + commands_in scripts

-- one command of the viewer was served, and no other
pub record IsServed (viewer : ℕ) (said : Command) (old new : List Entry) : Type 0 where
  pub own : commands_of viewer new ≡ commands_of viewer old ++ said ∷ []
  pub others : (v : ℕ) → v ≢ viewer → commands_of v new ≡ commands_of v old
  pub few : length new ≤ length old + 2

-- the scripts of the viewers before w, and the first i commands of w's
pub record AreServed (scripts : List (List Command)) (w i : ℕ) (journal : List Entry) : Type 0 where
  pub before : (v : ℕ) → v < w → commands_of v journal ≡ script_of scripts v
  pub here : commands_of w journal ≡ take i (script_of scripts w)
  pub after : (v : ℕ) → w < v → commands_of v journal ≡ []

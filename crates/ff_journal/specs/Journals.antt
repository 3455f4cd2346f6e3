-- Legal and complete journals. This project's own.
use Rattle.std.specs.Prelude.{◌≡◌, ℕ, ◌+◌, ◌==◌, ◌≤◌, List, [], ◌++◌, length, take, slice_get, slice_index_or, Option, Some, None, if◌then◌else◌}
use Rattle.std.specs.List.{filter_map}
use Rattle.ff_types.specs.declared.cases.Case.{Case}
use Rattle.ff_viewer.specs.declared.commands.Command.{Command}
use Rattle.ff_viewer.specs.declared.replies.Reply.{Reply}
use Rattle.ff_journal.specs.declared.entries.Entry.{Entry}
use Rattle.ff_journal.specs.declared.entries.Entry.TheVariants as entry
use Rattle.ff_journal.specs.declared.entries.Outcome.{Outcome}
use Rattle.ff_journal.specs.Epochs.{last_begun}
use Rattle.ff_journal.specs.Publications.{published, IsLast, IsOutcome}
use Rattle.ff_journal.specs.Reasons.{KeepsLevels}
use Rattle.ff_journal.specs.Replies.{IsReply}

-- the command of the viewer's entry
abbrev pub command_by : ℕ → Entry → Option Command
command_by viewer (entry.Said v index said told) = if v == viewer then Some said else None
command_by viewer (entry.Published e outcome) = None

-- the commands of a viewer's entries, in order
abbrev pub commands_of : ℕ → List Entry → List Command
commands_of viewer journal = filter_map (command_by viewer) journal

-- The reply is right for a viewer's command after these entries, the last publication being that of epoch e.
pub record IsSaid (case : Case) (budget : ℕ) (before : List Entry) (viewer index : ℕ) (said : Command) (told : Reply) : Type 0
  where
    pub counted : index ≡ length (commands_of viewer before)
    pub epoch : ℕ
    pub last : Outcome
    pub published : IsLast before epoch last
    pub replied : IsReply case budget before epoch last viewer said told
    pub levels : KeepsLevels before (entry.Said viewer index said told)

-- The epoch has begun, and those before it are published.
pub record IsPublished (case : Case) (before : List Entry) (e : ℕ) (outcome : Outcome) : Type 0 where
  pub next : e ≡ published before
  pub begun : e ≤ last_begun before
  pub right : IsOutcome case before e outcome

-- The entry may stand after these.
abbrev pub Follows : Case → ℕ → List Entry → Entry → Type 0
Follows case budget before (entry.Said viewer index said told) = IsSaid case budget before viewer index said told
Follows case budget before (entry.Published e outcome) = IsPublished case before e outcome

-- Legal for the scripts that it shows: each entry follows those before it.
pub record IsLegal (case : Case) (budget : ℕ) (journal : List Entry) : Type 0 where
  pub each : (i : ℕ) (e : Entry) → slice_get journal i ≡ Some e → Follows case budget (take i journal) e

-- a viewer's script; a viewer past the last has none
abbrev pub script_of : List (List Command) → ℕ → List Command
script_of scripts viewer = slice_index_or scripts viewer []

-- Legal for these scripts: besides, the commands of each viewer are a front of its script.
pub record IsLegalFor (case : Case) (budget : ℕ) (scripts : List (List Command)) (journal : List Entry) : Type 0 where
  pub legal : IsLegal case budget journal
  pub scripted : (viewer : ℕ) → (rest : List Command) × (script_of scripts viewer ≡ commands_of viewer journal ++ rest)

-- Every script is exhausted, and every epoch begun is published.
pub record IsComplete (scripts : List (List Command)) (journal : List Entry) : Type 0 where
  pub exhausted : (viewer : ℕ) → commands_of viewer journal ≡ script_of scripts viewer
  pub all_published : published journal ≡ last_begun journal + 1

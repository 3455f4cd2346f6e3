-- Which publication a command waits for. This project's own.
use Rattle.std.specs.Prelude.{◌≡◌, ℕ, ◌<◌, ◌≤◌, ◌⊎◌, List}
use Rattle.ff_viewer.specs.declared.commands.Command.{Command}
use Rattle.ff_viewer.specs.declared.commands.Command.TheVariants as command
use Rattle.ff_viewer.specs.declared.commands.Question.TheVariants as ask
use Rattle.ff_journal.specs.declared.entries.Entry.{Entry}
use Rattle.ff_journal.specs.Epochs.{last_begun}
use Rattle.ff_journal.specs.Publications.{published}

-- the command is `board`
abbrev pub IsBoardCommand : Command → Type 0
IsBoardCommand (command.Ask ask.Board) = Unit {0}
IsBoardCommand _ = ⊥

-- no epoch is published; or the last isn't, and the command is `board`
abbrev pub IsNotPublished : List Entry → Command → ℕ → Type 0
IsNotPublished journal said e = ((published journal ≡ 0) × (e ≡ 0))
    ⊎ ((0 < published journal) × IsBoardCommand said × (published journal ≤ last_begun journal) × (e ≡ last_begun journal))

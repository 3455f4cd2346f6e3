-- How the commands of a viewer are written. This project's own.
use Rattle.std.specs.Prelude.{ℕ, List, ◌++◌, codes}
use Rattle.std.specs.Fmt.{decimal}
use Rattle.std.specs.List.{flat_map}
use Rattle.ff_log.specs.Spelling.{order_word}
use Rattle.ff_viewer.specs.declared.commands.Command.{Command}
use Rattle.ff_viewer.specs.declared.commands.Command.TheVariants as command
use Rattle.ff_viewer.specs.declared.commands.Question.{Question}
use Rattle.ff_viewer.specs.declared.commands.Question.TheVariants as ask

-- the text of a question
abbrev pub question_text : Question → List ℕ
question_text ask.Board = codes "board"
question_text ask.Peek = codes "peek"
question_text (ask.Order f g) = codes "order " ++ decimal f ++ codes " " ++ decimal g
question_text ask.Parts = codes "parts"
question_text (ask.Page p k) = codes "page " ++ decimal p ++ codes " " ++ decimal k
question_text (ask.Why f g) = codes "why " ++ decimal f ++ codes " " ++ decimal g
question_text (ask.Stack choice) = codes "stack" ++ flat_map (λ n. codes " " ++ decimal n) choice

-- the text of a command, its numbers without leading zeros
abbrev pub spelling : Command → List ℕ
spelling (command.Pin f g value) = codes "pin " ++ decimal f ++ codes " " ++ decimal g ++ codes " " ++ order_word value
spelling (command.Unpin f g) = codes "unpin " ++ decimal f ++ codes " " ++ decimal g
spelling (command.Ask question) = question_text question

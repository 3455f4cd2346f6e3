-- The transcript of a session: the text of each entry of its journal, and a last line. This project's own.
use Rattle.std.specs.Prelude.{ℕ, List, ◌++◌, codes}
use Rattle.std.specs.Fmt.{decimal}
use Rattle.std.specs.List.{flat_map}
use Rattle.ff_types.specs.declared.pins.Pin.{Pin}
use Rattle.ff_log.specs.Spelling.{order_word}
use Rattle.ff_viewer.specs.declared.commands.Command.{Command}
use Rattle.ff_viewer.specs.declared.replies.Reply.{Reply}
use Rattle.ff_viewer.specs.Spelling.{spelling as command_text}
use Rattle.ff_journal.specs.declared.entries.Entry.{Entry}
use Rattle.ff_journal.specs.declared.entries.Entry.TheVariants as entry
use Rattle.ff_journal.specs.declared.entries.Outcome.{Outcome}
use Rattle.ff_journal.specs.declared.entries.Outcome.TheVariants as outcome
use Rattle.ff_transcript.specs.Boards.{board_text}
use Rattle.ff_transcript.specs.Replies.{below_reply, log_lines, reply_text}

-- a viewer and a line of its script
abbrev pub place_text : ℕ → ℕ → List ℕ
place_text viewer index = decimal viewer ++ codes "." ++ decimal index ++ codes " "

-- a reply behind its command, and its log
abbrev pub told_text : Reply → List ℕ
told_text told = codes " -> " ++ reply_text told ++ codes "\n" ++ below_reply told

-- a viewer's command with its reply
abbrev pub said_text : ℕ → ℕ → Command → Reply → List ℕ
said_text viewer index said told = place_text viewer index ++ command_text said ++ told_text told

-- the line of a pin that is in force
abbrev pub with_line : Pin → List ℕ
with_line p = codes "with " ++ decimal p.f ++ codes " " ++ decimal p.g ++ codes " " ++ order_word p.value ++ codes "\n"

-- that an epoch is impossible, and its pins in their order
abbrev pub impossible_lines : List Pin → List ℕ
impossible_lines pins = codes "impossible\n" ++ flat_map with_line pins

-- the board of an epoch, or its pins and the log that refutes them
abbrev pub outcome_text : Outcome → List ℕ
outcome_text (outcome.Board board) = board_text board ++ codes "\n"
outcome_text (outcome.Impossible pins log) = impossible_lines pins ++ log_lines log.lines

-- the lines of an entry
abbrev pub entry_text : Entry → List ℕ
entry_text (entry.Said viewer index said told) = said_text viewer index said told
entry_text (entry.Published e outcome) = codes "publish " ++ decimal e ++ codes " " ++ outcome_text outcome

-- the last line
abbrev pub end_line : List ℕ
end_line = codes "end\n"

-- the transcript of a journal
abbrev pub transcript : List Entry → List ℕ
transcript journal = flat_map entry_text journal ++ end_line

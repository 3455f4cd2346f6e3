-- How replies follow from the facts of the last published epoch. This project's own.
use Rattle.std.specs.Prelude.{◌≡◌, ℕ, Bool, true, false, List, map, Option, Some, None}
use Rattle.ff_types.specs.declared.cases.Case.{Case}
use Rattle.ff_propagate.specs.declared.facts.Fact.{Fact}
use Rattle.ff_propagate.specs.Facts.{value_at, seen}
use Rattle.ff_propagate.specs.FactRule.{MeetsFactRule}
use Rattle.ff_tables.specs.declared.givens.Given.{Given}
use Rattle.ff_types.specs.Pairs.{number_of}
use Rattle.ff_propagate.specs.Parts.{AreParts}
use Rattle.ff_viewer.specs.declared.commands.Command.{Command}
use Rattle.ff_viewer.specs.declared.commands.Command.TheVariants as command
use Rattle.ff_viewer.specs.declared.commands.Question.{Question}
use Rattle.ff_viewer.specs.declared.commands.Question.TheVariants as ask
use Rattle.ff_viewer.specs.declared.replies.Reply.{Reply}
use Rattle.ff_viewer.specs.declared.replies.Reply.TheVariants as reply
use Rattle.ff_journal.specs.declared.entries.Entry.{Entry}
use Rattle.ff_journal.specs.declared.entries.Entry.TheVariants as entry
use Rattle.ff_journal.specs.declared.entries.Outcome.{Outcome}
use Rattle.ff_journal.specs.declared.entries.Outcome.TheVariants as outcome
use Rattle.ff_journal.specs.Replies.{seen_from, IsWhyReplyBy}
use Rattle.ff_journal.specs.Shown.{HaveLevels, ReplyFits}

-- the question is neither `page` nor `stack`
abbrev pub IsPlainQuestion : Question → Type 0
IsPlainQuestion (ask.Page part page) = ⊥
IsPlainQuestion (ask.Stack choice) = ⊥
IsPlainQuestion _ = Unit {0}

-- the command is neither `page` nor `stack`
abbrev pub IsPlain : Command → Type 0
IsPlain (command.Ask question) = IsPlainQuestion question
IsPlain _ = Unit {0}

-- the outcome is a board
abbrev pub is_board : Outcome → Bool
is_board (outcome.Board board) = true
is_board (outcome.Impossible pins log) = false

-- there is an outcome, and it is a board
abbrev pub shows_board : Option Outcome → Bool
shows_board (Some o) = is_board o
shows_board None = false

-- whether the last outcome is a board after one more entry
abbrev pub shown_after : Entry → Bool → Bool
shown_after (entry.Said viewer index said told) b = b
shown_after (entry.Published e o) b = is_board o

-- the reply to `order` by the facts of a board
abbrev pub order_by : ℕ → ℕ → List (Option Fact) → Option ℕ → Reply
order_by f g fs None = reply.NoPair
order_by f g fs (Some n) = reply.Value (seen_from f g (value_at fs n))

-- the reply to a question about a pair where the epoch is impossible
abbrev pub pair_or_impossible : Option ℕ → Reply
pair_or_impossible None = reply.NoPair
pair_or_impossible (Some n) = reply.Impossible

-- the reply to a question where the last published epoch, this one, is impossible
abbrev pub impossible_reply : Case → ℕ → Question → Reply
impossible_reply case e ask.Board = reply.Shown e None
impossible_reply case e ask.Peek = reply.Shown e None
impossible_reply case e (ask.Order f g) = pair_or_impossible (number_of case.pairs f g)
impossible_reply case e (ask.Why f g) = pair_or_impossible (number_of case.pairs f g)
impossible_reply case e _ = reply.Impossible

-- the reply to `parts` by the facts of a board
abbrev pub IsPartsReplyBy : Case → List (Option Fact) → Reply → Type 0
IsPartsReplyBy case fs told = (parts : List (List ℕ))
    × AreParts case.system.vars case.system.constraints (value_at fs) parts × (told ≡ reply.Parts parts)

-- the reply to `why` by the facts of a board, with their levels
abbrev pub IsWhyBy : Case → List (Option Fact) → ℕ → ℕ → Reply → Type 0
IsWhyBy case fs f g told = ((gs : List Given) (before : List Entry) → MeetsFactRule case.system.vars case.system.constraints gs fs
    → HaveLevels case before fs → IsWhyReplyBy case gs before fs (number_of case.pairs f g) told)
    × ReplyFits case fs (number_of case.pairs f g) told

-- the reply to a plain question by the facts of the board of the last published epoch, this one
abbrev pub IsAnswerBy : Case → List (Option Fact) → ℕ → Question → Reply → Type 0
IsAnswerBy case fs e ask.Board told = told ≡ reply.Shown e (Some (map seen fs))
IsAnswerBy case fs e ask.Peek told = told ≡ reply.Shown e (Some (map seen fs))
IsAnswerBy case fs e (ask.Order f g) told = told ≡ order_by f g fs (number_of case.pairs f g)
IsAnswerBy case fs e ask.Parts told = IsPartsReplyBy case fs told
IsAnswerBy case fs e (ask.Why f g) told = IsWhyBy case fs f g told
IsAnswerBy case fs e _ told = ⊥

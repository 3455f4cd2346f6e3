-- How replies are written. This project's own.
use Rattle.std.specs.Prelude.{ℕ, List, [], ◌++◌, codes, Option, Some, None}
use Rattle.std.specs.Fmt.{decimal}
use Rattle.std.specs.List.{flat_map}
use Rattle.ff_tables.specs.declared.orders.Order.{Order}
use Rattle.ff_log.specs.declared.logs.LogLine.{LogLine}
use Rattle.ff_log.specs.Spelling.{order_word, spelling}
use Rattle.ff_viewer.specs.declared.replies.Reply.{Reply}
use Rattle.ff_viewer.specs.declared.replies.Reply.TheVariants as reply
use Rattle.ff_transcript.specs.Boards.{board_text, page_text, parts_text, shown_text}
use Rattle.ff_transcript.specs.Reasons.{why_text}

-- how a pair stands
abbrev pub value_text : Option Order → List ℕ
value_text None = codes "undecided"
value_text (Some value) = order_word value

-- the text of a reply, without its log
abbrev pub reply_text : Reply → List ℕ
reply_text reply.NoPair = codes "no pair"
reply_text (reply.Held value) = codes "held " ++ order_word value
reply_text reply.NotHeld = codes "not held"
reply_text (reply.Epoch e) = codes "epoch " ++ decimal e
reply_text (reply.Shown e board) = codes "epoch " ++ decimal e ++ codes " " ++ shown_text board
reply_text reply.Impossible = codes "impossible"
reply_text (reply.Value value) = value_text value
reply_text (reply.Parts parts) = parts_text parts
reply_text reply.NoPart = codes "no part"
reply_text reply.Unfinished = codes "unfinished"
reply_text (reply.None log) = codes "none"
reply_text (reply.Past count) = codes "past " ++ decimal count
reply_text (reply.Page page) = page_text page
reply_text reply.Undecided = codes "undecided"
reply_text (reply.Because why) = why_text why
reply_text (reply.Count count) = codes "count " ++ decimal count
reply_text (reply.PartUnfinished p) = codes "unfinished " ++ decimal p
reply_text (reply.PartNone p) = codes "none " ++ decimal p
reply_text (reply.PartPast p) = codes "past " ++ decimal p
reply_text (reply.Stack values) = codes "stack " ++ board_text values

-- the lines of a log, each behind `log`
abbrev pub log_lines : List LogLine → List ℕ
log_lines lines = flat_map (λ l. codes "log " ++ spelling l ++ codes "\n") lines

-- what stands below an entry with the reply
abbrev pub below_reply : Reply → List ℕ
below_reply (reply.None log) = log_lines log.lines
below_reply _ = []

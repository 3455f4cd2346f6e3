-- What each command is told, by the journal before it. This project's own.
use Rattle.std.specs.Prelude.{◌≡◌, ◌≢◌, ℕ, zero, suc, ◌+◌, ◌/◌, ◌<◌, ◌⊎◌, List, [], ◌∷◌, length, map, nat_lt, slice_get, Option, Some, None}
use Rattle.ff_tables.specs.declared.orders.Order.{Order}
use Rattle.ff_tables.specs.declared.givens.Given.{Given}
use Rattle.ff_tables.specs.Orders.{turned_option}
use Rattle.ff_types.specs.declared.pins.Pin.{Pin}
use Rattle.ff_types.specs.declared.cases.Case.{Case}
use Rattle.ff_types.specs.Pairs.{in_order, number_of}
use Rattle.ff_propagate.specs.declared.facts.Fact.{Fact}
use Rattle.ff_propagate.specs.Facts.{seen, value_at}
use Rattle.ff_propagate.specs.Parts.{AreParts}
use Rattle.ff_propagate.specs.Solutions.{solutions_of}
use Rattle.ff_propagate.specs.Choices.{value_of}
use Rattle.ff_log.specs.Grounds.{IsAcceptedIn}
use Rattle.ff_viewer.specs.declared.commands.Command.{Command}
use Rattle.ff_viewer.specs.declared.commands.Command.TheVariants as command
use Rattle.ff_viewer.specs.declared.commands.Question.{Question}
use Rattle.ff_viewer.specs.declared.commands.Question.TheVariants as ask
use Rattle.ff_viewer.specs.declared.replies.Reply.{Reply}
use Rattle.ff_viewer.specs.declared.replies.Reply.TheVariants as reply
use Rattle.ff_viewer.specs.declared.replies.Why.{Why}
use Rattle.ff_journal.specs.declared.entries.Entry.{Entry}
use Rattle.ff_journal.specs.declared.entries.Outcome.{Outcome}
use Rattle.ff_journal.specs.declared.entries.Outcome.TheVariants as outcome
use Rattle.ff_journal.specs.Epochs.{last_begun, changes, held_by, pins_of, givens_of}
use Rattle.ff_journal.specs.Publications.{on_board}
use Rattle.ff_journal.specs.Pages.{IsBeyond, IsWithin, HasNone, IsPast, IsPage}
use Rattle.ff_journal.specs.Reasons.{IsWhy}

-- how f stands to g by the value of their variable, which says how the lesser face stands to the greater
abbrev pub seen_from : ℕ → ℕ → Option Order → Option Order
seen_from f g value = turned_option (nat_lt g f) value

-- ---- pins, which go by the last epoch begun

-- the order of f to g that this viewer holds: for it its pin is refused, and its unpin takes it back
abbrev pub held_for : ℕ → List Entry → ℕ → ℕ → Option Order
held_for viewer before f g = seen_from f g (held_by viewer (changes before) (in_order f g))

-- the reply to a pin, by the next epoch, the number of the pair and what the viewer holds
abbrev pub pin_reply : ℕ → Option ℕ → Option Order → Reply
pin_reply next None held = reply.NoPair
pin_reply next (Some n) (Some s) = reply.Held s
pin_reply next (Some n) None = reply.Epoch next

-- the same of an unpin
abbrev pub unpin_reply : ℕ → Option ℕ → Option Order → Reply
unpin_reply next None held = reply.NoPair
unpin_reply next (Some n) (Some s) = reply.Epoch next
unpin_reply next (Some n) None = reply.NotHeld

-- ---- questions, which go by the last epoch published: its number, its pins, its givens and its outcome

-- the board, where the epoch has one
abbrev pub board_in : Outcome → Option (List (Option Order))
board_in (outcome.Board board) = Some board
board_in (outcome.Impossible pins log) = None

-- the reply to `order`
abbrev pub order_reply : ℕ → ℕ → Outcome → Option ℕ → Reply
order_reply f g last None = reply.NoPair
order_reply f g (outcome.Impossible pins log) (Some n) = reply.Impossible
order_reply f g (outcome.Board board) (Some n) = reply.Value (seen_from f g (on_board board n))

-- the independent parts of what the board leaves undecided
abbrev pub AreBoardParts : Case → List (Option Order) → List (List ℕ) → Type 0
AreBoardParts case board parts = AreParts case.system.vars case.system.constraints (on_board board) parts

-- the reply to `parts`
abbrev pub IsPartsReply : Case → Outcome → Reply → Type 0
IsPartsReply case (outcome.Impossible pins log) told = told ≡ reply.Impossible
IsPartsReply case (outcome.Board board) told = (parts : List (List ℕ)) × AreBoardParts case board parts
    × (told ≡ reply.Parts parts)

-- the reply to `page`, of the part with these variables
abbrev pub IsPageReplyOf : Case → List Pin → List (Option Order) → ℕ → ℕ → List ℕ → Reply → Type 0
IsPageReplyOf case pins board budget k vars reply.Unfinished = IsBeyond case.system.constraints (on_board board) vars budget k
IsPageReplyOf case pins board budget k vars (reply.None log) = HasNone case.system.constraints (on_board board) vars budget
    × IsAcceptedIn case pins log.lines
IsPageReplyOf case pins board budget k vars (reply.Past count) = IsPast case.system.constraints (on_board board) vars budget k count
IsPageReplyOf case pins board budget k vars (reply.Page page) = IsPage case.system.constraints (on_board board) vars budget k page
IsPageReplyOf case pins board budget k vars _ = ⊥

-- the same where there may be no such part
abbrev pub IsPageReplyAt : Case → List Pin → List (Option Order) → ℕ → ℕ → Option (List ℕ) → Reply → Type 0
IsPageReplyAt case pins board budget k None told = told ≡ reply.NoPart
IsPageReplyAt case pins board budget k (Some vars) told = IsPageReplyOf case pins board budget k vars told

-- the reply to `page`
abbrev pub IsPageReply : Case → List Pin → ℕ → Outcome → ℕ → ℕ → Reply → Type 0
IsPageReply case pins budget (outcome.Impossible _ log) p k told = told ≡ reply.Impossible
IsPageReply case pins budget (outcome.Board board) p k told = (parts : List (List ℕ)) × AreBoardParts case board parts
    × IsPageReplyAt case pins board budget k (slice_get parts p) told

-- why the pair with this number has its value on the board, if it has one
abbrev pub IsReason : Case → List Given → List Entry → List (Option Order) → ℕ → Option Order → Reply → Type 0
IsReason case gs before board n None told = told ≡ reply.Undecided
IsReason case gs before board n (Some s) told = (why : Why) × (told ≡ reply.Because why) × IsWhy case gs before board n s why

-- the reply to `why`
abbrev pub IsWhyReply : Case → List Given → List Entry → Outcome → Option ℕ → Reply → Type 0
IsWhyReply case gs before last None told = told ≡ reply.NoPair
IsWhyReply case gs before (outcome.Impossible pins log) (Some n) told = told ≡ reply.Impossible
IsWhyReply case gs before (outcome.Board board) (Some n) told = IsReason case gs before board n (on_board board n) told

-- the same by facts of a board
abbrev pub IsWhyReplyBy : Case → List Given → List Entry → List (Option Fact) → Option ℕ → Reply → Type 0
IsWhyReplyBy case gs before fs None told = told ≡ reply.NoPair
IsWhyReplyBy case gs before fs (Some n) told = IsReason case gs before (map seen fs) n (value_at fs n) told

-- ---- stacks

-- the page of the k-th solution of the part has it
pub record HasSolution (case : Case) (board : List (Option Order)) (budget : ℕ) (vars : List ℕ) (k : ℕ)
    (solution : List Order) : Type 0 where
  pub within : IsWithin case.system.constraints (on_board board) vars budget (k / 64)
  pub is : slice_get (solutions_of case.system.constraints (on_board board) vars) k ≡ Some solution

-- each part's number gives this solution
abbrev pub HaveSolutions : Case → List (Option Order) → ℕ → List (List ℕ) → List ℕ → List (List Order) → Type 0
HaveSolutions case board budget [] [] [] = Unit {0}
HaveSolutions case board budget (vars ∷ parts) (k ∷ choice) (solution ∷ solutions) = HasSolution case board budget vars k solution
    × HaveSolutions case board budget parts choice solutions
HaveSolutions case board budget _ _ _ = ⊥

-- the part p, of these variables, has no k-th solution on its page
abbrev pub IsStop : Case → List (Option Order) → ℕ → ℕ → List ℕ → ℕ → Reply → Type 0
IsStop case board budget p vars k (reply.PartUnfinished q) = (q ≡ p)
    × IsBeyond case.system.constraints (on_board board) vars budget (k / 64)
IsStop case board budget p vars k (reply.PartNone q) = (q ≡ p) × HasNone case.system.constraints (on_board board) vars budget
IsStop case board budget p vars k (reply.PartPast q) = (q ≡ p)
    × IsWithin case.system.constraints (on_board board) vars budget (k / 64)
    × (0 < length (solutions_of case.system.constraints (on_board board) vars))
    × (slice_get (solutions_of case.system.constraints (on_board board) vars) k ≡ None)
IsStop case board budget p vars k _ = ⊥

-- the first part, counted from p, that has no such solution
abbrev pub IsFirstStop : Case → List (Option Order) → ℕ → ℕ → List (List ℕ) → List ℕ → Reply → Type 0
IsFirstStop case board budget p (vars ∷ parts) (k ∷ choice) told = IsStop case board budget p vars k told
    ⊎ ((solution : List Order) × HasSolution case board budget vars k solution
    × IsFirstStop case board budget (suc p) parts choice told)
IsFirstStop case board budget p _ _ told = ⊥

-- m numbers from n on
abbrev pub from_to : ℕ → ℕ → List ℕ
from_to n zero = []
from_to n (suc m) = n ∷ from_to (suc n) m

-- all pairs, each part by its solution
abbrev pub stack_of : List (Option Order) → List (List ℕ) → List (List Order) → List (Option Order)
stack_of board parts solutions = map (value_of (on_board board) parts solutions) (from_to 0 (length board))

-- the reply to `stack` by the parts
abbrev pub IsStackOf : Case → List (Option Order) → ℕ → List (List ℕ) → List ℕ → Reply → Type 0
IsStackOf case board budget parts choice (reply.Count count) = (length choice ≢ length parts) × (count ≡ length parts)
IsStackOf case board budget parts choice (reply.Stack values) = (solutions : List (List Order))
    × HaveSolutions case board budget parts choice solutions × (values ≡ stack_of board parts solutions)
IsStackOf case board budget parts choice told = (length choice ≡ length parts) × IsFirstStop case board budget 0 parts choice told

-- the reply to `stack`
abbrev pub IsStackReply : Case → ℕ → Outcome → List ℕ → Reply → Type 0
IsStackReply case budget (outcome.Impossible pins log) choice told = told ≡ reply.Impossible
IsStackReply case budget (outcome.Board board) choice told = (parts : List (List ℕ)) × AreBoardParts case board parts
    × IsStackOf case board budget parts choice told

-- ---- all commands

-- the reply to a question, where the last published epoch is e and has this outcome
abbrev pub Answers : Case → ℕ → List Entry → ℕ → Outcome → Question → Reply → Type 0
Answers case budget before e last ask.Board told = (last_begun before ≡ e) × (told ≡ reply.Shown e (board_in last))
Answers case budget before e last ask.Peek told = told ≡ reply.Shown e (board_in last)
Answers case budget before e last (ask.Order f g) told = told ≡ order_reply f g last (number_of case.pairs f g)
Answers case budget before e last ask.Parts told = IsPartsReply case last told
Answers case budget before e last (ask.Page p k) told = IsPageReply case (pins_of case before e) budget last p k told
Answers case budget before e last (ask.Why f g) told = IsWhyReply case (givens_of case before e) before last (number_of case.pairs f g) told
Answers case budget before e last (ask.Stack choice) told = IsStackReply case budget last choice told

-- the reply to a viewer's command
abbrev pub IsReply : Case → ℕ → List Entry → ℕ → Outcome → ℕ → Command → Reply → Type 0
IsReply case budget before e last viewer (command.Pin f g value) told = told ≡ pin_reply (last_begun before + 1) (number_of case.pairs f g) (held_for viewer before f g)
IsReply case budget before e last viewer (command.Unpin f g) told = told ≡ unpin_reply (last_begun before + 1) (number_of case.pairs f g) (held_for viewer before f g)
IsReply case budget before e last viewer (command.Ask question) told = Answers case budget before e last question told

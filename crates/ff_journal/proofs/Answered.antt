-- Replies by the facts of the last published epoch are right.
use Rattle.std.proofs.Common.{◌≡◌, ℕ, ◌+◌, ◌-◌, ◌<◌, true, false, List, [], length, map, sym, refl, ap, ◌∙◌, subst, arith, Option, Some, None, Contains}
use Rattle.ff_tables.specs.declared.orders.Order.{Order}
use Rattle.ff_types.specs.declared.cases.Case.{Case}
use Rattle.ff_types.specs.declared.pins.Pin.{Pin}
use Rattle.ff_tables.specs.declared.givens.Given.{Given}
use Rattle.ff_log.specs.declared.logs.Log.{Log}
use Rattle.ff_propagate.specs.declared.facts.Fact.{Fact}
use Rattle.ff_propagate.specs.Facts.{value_at, seen}
use Rattle.ff_propagate.specs.Parts.{AreParts}
use Rattle.ff_viewer.specs.declared.commands.Command.{Command}
use Rattle.ff_viewer.specs.declared.commands.Command.TheVariants as command
use Rattle.ff_viewer.specs.declared.commands.Question.{Question}
use Rattle.ff_viewer.specs.declared.commands.Question.TheVariants as ask
use Rattle.ff_viewer.specs.declared.replies.Reply.{Reply}
use Rattle.ff_viewer.specs.declared.replies.Reply.TheVariants as reply
use Rattle.ff_journal.specs.declared.entries.Entry.{Entry}
use Rattle.ff_journal.specs.declared.entries.Entry.TheVariants as entry
use Rattle.ff_journal.specs.declared.entries.Outcome.{Outcome}
use Rattle.ff_journal.specs.declared.entries.Outcome.TheVariants as outcome
use Rattle.ff_types.specs.Pairs.{number_of}
use Rattle.ff_journal.specs.Epochs.{last_of, last_begun, givens_of}
use Rattle.ff_journal.specs.Publications.{outcomes, published, on_board, IsLast}
use Rattle.ff_journal.specs.Reasons.{names_in}
use Rattle.ff_journal.specs.Replies.{seen_from, order_reply, IsWhyReply, IsPartsReply, Answers}
use Rattle.ff_journal.specs.Journals.{IsSaid, commands_of}
use Rattle.ff_journal.specs.Shown.{AreShown, NamesFit}
use Rattle.ff_journal.specs.Answering.{order_by, IsPartsReplyBy, IsAnswerBy, pair_or_impossible, impossible_reply, is_board, shows_board}
use Rattle.ff_journal.proofs.Right.{nameless}
use Rattle.ff_journal.proofs.LastPublished.{value_is, no_board_last}
use Rattle.ff_journal.proofs.Levels.{why_said, why_fits}

-- an entry without names fits any facts
pub no_names : (case : Case) (fs : List (Option Fact)) (e : Entry) → names_in e ≡ [] → NamesFit case (Some fs) e
no_names case fs e none m c = let h : Contains [] m = subst (λ xs. Contains xs m) none c in absurd (omega (arith, h.1))

-- what a board is shown as
pub shown_said : (case : Case) (budget : ℕ) (j : List Entry) (fs : List (Option Fact)) (board : List (Option Order)) (e n viewer : ℕ)
    (told : Reply) → IsLast j e (outcome.Board board) → board ≡ map seen fs → n ≡ published j - 1
    → told ≡ reply.Shown n (Some (map seen fs)) → told ≡ reply.Shown e (Some board)
shown_said case budget j fs board e n viewer told l is count t =
    let c = l.counted in
    let same : n ≡ e = omega (arith, count, c) in
    t ∙ ap (λ k. reply.Shown k (Some (map seen fs))) same ∙ ap (λ b. reply.Shown e (Some b)) (sym is)

order_is : (f g : ℕ) (fs : List (Option Fact)) (board : List (Option Order)) (o : Option ℕ) → on_board board ≡ value_at fs
    → order_by f g fs o ≡ order_reply f g (outcome.Board board) o
order_is f g fs board None e = refl
order_is f g fs board (Some n) e = ap (λ v. reply.Value (seen_from f g (v n))) (sym e)

pub order_said : (f g : ℕ) (fs : List (Option Fact)) (board : List (Option Order)) (o : Option ℕ) (told : Reply) → board ≡ map seen fs
    → told ≡ order_by f g fs o → told ≡ order_reply f g (outcome.Board board) o
order_said f g fs board o told is t = t ∙ order_is f g fs board o (value_is fs board is)

pub parts_said : (case : Case) (fs : List (Option Fact)) (board : List (Option Order)) (told : Reply) → board ≡ map seen fs
    → IsPartsReplyBy case fs told → IsPartsReply case (outcome.Board board) told
parts_said case fs board told is (parts, are, t) =
    (parts, subst (λ v. AreParts case.system.vars case.system.constraints v parts) (sym (value_is fs board is)) are, t)

-- no reply about a pair of an impossible epoch names a level
pub pair_nameless : (viewer index : ℕ) (said : Command) (o : Option ℕ) → names_in (entry.Said viewer index said (pair_or_impossible o)) ≡ []
pair_nameless viewer index (command.Pin f g s) None = refl
pair_nameless viewer index (command.Pin f g s) (Some n) = refl
pair_nameless viewer index (command.Unpin f g) None = refl
pair_nameless viewer index (command.Unpin f g) (Some n) = refl
pair_nameless viewer index (command.Ask ask.Board) o = refl
pair_nameless viewer index (command.Ask ask.Peek) o = refl
pair_nameless viewer index (command.Ask (ask.Order f g)) o = refl
pair_nameless viewer index (command.Ask ask.Parts) o = refl
pair_nameless viewer index (command.Ask (ask.Page p k)) o = refl
pair_nameless viewer index (command.Ask (ask.Why f g)) None = refl
pair_nameless viewer index (command.Ask (ask.Why f g)) (Some n) = refl
pair_nameless viewer index (command.Ask (ask.Stack choice)) o = refl

-- the reply to a question about a pair of an impossible epoch
pub order_impossible : (pins : List Pin) (log : Log) (f g : ℕ) (o : Option ℕ) → pair_or_impossible o ≡ order_reply f g (outcome.Impossible pins log) o
order_impossible pins log f g None = refl
order_impossible pins log f g (Some n) = refl

pub why_impossible : (case : Case) (gs : List Given) (before : List Entry) (pins : List Pin) (log : Log) (o : Option ℕ)
    → IsWhyReply case gs before (outcome.Impossible pins log) o (pair_or_impossible o)
why_impossible case gs before pins log None = refl
why_impossible case gs before pins log (Some n) = refl

-- what an impossible epoch says
pub impossible_is : (last : Outcome) → is_board last ≡ false → (pins : List Pin) × (log : Log) × (last ≡ outcome.Impossible pins log)
impossible_is (outcome.Board board) h = absurd (no h)
  where
    no : true ≡ false → ⊥
    no x = cc
impossible_is (outcome.Impossible pins log) h = (pins, log, refl)

-- the reply to a question by the facts of the last published board
pub answers_by : (case : Case) (budget : ℕ) (j : List Entry) (fs : List (Option Fact)) (board : List (Option Order)) (e n viewer : ℕ) (q : Question) (told : Reply)
    → IsLast j e (outcome.Board board) → AreShown case j e (outcome.Board board) fs → n ≡ published j - 1
    → (q ≡ ask.Board → published j ≡ last_begun j + 1) → IsAnswerBy case fs n q told
    → IsSaid case budget j viewer (length (commands_of viewer j)) (command.Ask q) told
answers_by case budget j fs board e n viewer ask.Board told l shown count begun t =
    let c = l.counted in let b = begun refl in
    nameless case budget j e (outcome.Board board) viewer (command.Ask ask.Board) told l refl
    (omega (arith, b, c), shown_said case budget j fs board e n viewer told l shown.board count t)
answers_by case budget j fs board e n viewer ask.Peek told l shown count begun t =
    nameless case budget j e (outcome.Board board) viewer (command.Ask ask.Peek) told l refl
    (shown_said case budget j fs board e n viewer told l shown.board count t)
answers_by case budget j fs board e n viewer (ask.Order f g) told l shown count begun t =
    nameless case budget j e (outcome.Board board) viewer (command.Ask (ask.Order f g)) told l refl
    (order_said f g fs board (number_of case.pairs f g) told shown.board t)
answers_by case budget j fs board e n viewer ask.Parts told l shown count begun t =
    nameless case budget j e (outcome.Board board) viewer (command.Ask ask.Parts) told l refl
    (parts_said case fs board told shown.board t)
answers_by case budget j fs board e n viewer (ask.Why f g) told l shown count begun t =
    why_said case budget j fs e board viewer f g told l shown (t.0 (givens_of case j e) j shown.rule shown.levels) t.1
answers_by case budget j fs board e n viewer (ask.Page p k) told l shown count begun t = absurd t
answers_by case budget j fs board e n viewer (ask.Stack choice) told l shown count begun t = absurd t

-- what it names
pub names_by : (case : Case) (j : List Entry) (fs : List (Option Fact)) (board : List (Option Order)) (e n viewer index : ℕ) (q : Question) (told : Reply)
    → AreShown case j e (outcome.Board board) fs → IsAnswerBy case fs n q told → NamesFit case (Some fs) (entry.Said viewer index (command.Ask q) told)
names_by case j fs board e n viewer index ask.Board told shown t = no_names case fs (entry.Said viewer index (command.Ask ask.Board) told) refl
names_by case j fs board e n viewer index ask.Peek told shown t = no_names case fs (entry.Said viewer index (command.Ask ask.Peek) told) refl
names_by case j fs board e n viewer index (ask.Order f g) told shown t = no_names case fs (entry.Said viewer index (command.Ask (ask.Order f g)) told) refl
names_by case j fs board e n viewer index ask.Parts told shown t = no_names case fs (entry.Said viewer index (command.Ask ask.Parts) told) refl
names_by case j fs board e n viewer index (ask.Why f g) told shown t =
    why_fits case (givens_of case j e) j fs viewer index f g (number_of case.pairs f g) told refl (t.0 (givens_of case j e) j shown.rule shown.levels) t.1
names_by case j fs board e n viewer index (ask.Page p k) told shown t = absurd t
names_by case j fs board e n viewer index (ask.Stack choice) told shown t = absurd t

-- ---- an impossible epoch

impossible_names : (case : Case) (n viewer index : ℕ) (q : Question) → names_in (entry.Said viewer index (command.Ask q) (impossible_reply case n q)) ≡ []
impossible_names case n viewer index ask.Board = refl
impossible_names case n viewer index ask.Peek = refl
impossible_names case n viewer index (ask.Order f g) = refl
impossible_names case n viewer index ask.Parts = refl
impossible_names case n viewer index (ask.Page p k) = refl
impossible_names case n viewer index (ask.Why f g) = pair_nameless viewer index (command.Ask (ask.Why f g)) (number_of case.pairs f g)
impossible_names case n viewer index (ask.Stack choice) = refl

impossible_answers : (case : Case) (budget : ℕ) (j : List Entry) (pins : List Pin) (log : Log) (e : ℕ) (q : Question)
    → (q ≡ ask.Board → last_begun j ≡ e) → Answers case budget j e (outcome.Impossible pins log) q (impossible_reply case e q)
impossible_answers case budget j pins log e ask.Board begun = (begun refl, refl)
impossible_answers case budget j pins log e ask.Peek begun = refl
impossible_answers case budget j pins log e (ask.Order f g) begun = order_impossible pins log f g (number_of case.pairs f g)
impossible_answers case budget j pins log e ask.Parts begun = refl
impossible_answers case budget j pins log e (ask.Page p k) begun = refl
impossible_answers case budget j pins log e (ask.Why f g) begun = why_impossible case (givens_of case j e) j pins log (number_of case.pairs f g)
impossible_answers case budget j pins log e (ask.Stack choice) begun = refl

-- the reply to a question where the last published epoch is impossible
pub impossible_said : (case : Case) (budget : ℕ) (j : List Entry) (n viewer : ℕ) (q : Question) (told : Reply) → 0 < published j
    → shows_board (last_of (outcomes j)) ≡ false → n ≡ published j - 1 → (q ≡ ask.Board → published j ≡ last_begun j + 1) → told ≡ impossible_reply case n q
    → IsSaid case budget j viewer (length (commands_of viewer j)) (command.Ask q) told
impossible_said case budget j n viewer q told some h count begun t =
    let r = no_board_last j some h in by r.0 r.1 (impossible_is r.1 r.2) r.3
  where
    by : (e : ℕ) (last : Outcome) → (pins : List Pin) × (log : Log) × (last ≡ outcome.Impossible pins log) → IsLast j e last
        → IsSaid case budget j viewer (length (commands_of viewer j)) (command.Ask q) told
    by e last (pins, log, is) l =
        let c = l.counted in
        let same : n ≡ e = omega (arith, count, c) in
        nameless case budget j e (outcome.Impossible pins log) viewer (command.Ask q) told (subst (λ o. IsLast j e o) is l)
        (subst (λ x. names_in (entry.Said viewer (length (commands_of viewer j)) (command.Ask q) x) ≡ []) (sym t) (impossible_names case n viewer (length (commands_of viewer j)) q))
        (subst (λ x. Answers case budget j e (outcome.Impossible pins log) q x) (ap (λ k. impossible_reply case k q) (sym same) ∙ sym t)
        (impossible_answers case budget j pins log e q (λ b. let g = begun b in omega (arith, g, c))))

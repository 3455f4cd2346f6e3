use Rattle.std.proofs.Common.{◌≡◌, ◌-◌, length, true, false, ap, sym, subst, ◌∙◌}
use Rattle.ff_journal.specs.Epochs.{last_of}
use Rattle.ff_journal.specs.Publications.{outcomes, published}
use Rattle.ff_journal.specs.Journals.{commands_of}
use Rattle.ff_journal.specs.Answering.{shows_board}
use Rattle.ff_journal.proofs.LastPublished.{board_last, shown_board}
use Rattle.ff_journal.proofs.Answered.{answers_by, names_by, impossible_said}
use Rattle.ff_journal.proofs.answering.ask.Goals as goal

pub board_answer-requires-clause-board : goal.board_answer-requires-clause-board
board_answer-requires-clause-board c =
    let l = board_last c.args.journal.now c.requires.published
    (subst (λ j. shows_board (last_of (outcomes j)) ≡ true) c.as_slice-2.ensures (sym c.shows_board.ensures ∙ c.if-shows_board.true)) in
    shown_board c.args.case.now c.requires.legal.0 c.args.journal.now l.0 l.1 c.args.facts.now c.requires.legal.1 l.2 (c.requires.shown l.0 l.1 l.2)

pub returns-in_ok-told-clause-said : goal.returns-in_ok-told-clause-said
returns-in_ok-told-clause-said c budget =
    let l = board_last c.args.journal.now c.requires.published
    (subst (λ j. shows_board (last_of (outcomes j)) ≡ true) c.as_slice-2.ensures (sym c.shows_board.ensures ∙ c.if-shows_board.true)) in
    answers_by c.args.case.now budget c.args.journal.now c.args.facts.now l.1 l.0 (c.published-epoch.result - 1) c.args.viewer c.args.question.now c.in_ok-told.told
    l.2 (c.requires.shown l.0 l.1 l.2) (ap (λ n. n - 1) (c.published-epoch.ensures.value ∙ ap (λ j. published j) c.as_slice.ensures)) c.requires.begun c.in_ok-told.ensures

pub returns-in_ok-told-clause-names : goal.returns-in_ok-told-clause-names
returns-in_ok-told-clause-names c =
    let l = board_last c.args.journal.now c.requires.published
    (subst (λ j. shows_board (last_of (outcomes j)) ≡ true) c.as_slice-2.ensures (sym c.shows_board.ensures ∙ c.if-shows_board.true)) in
    names_by c.args.case.now c.args.journal.now c.args.facts.now l.1 l.0 (c.published-epoch.result - 1) c.args.viewer (length (commands_of c.args.viewer c.args.journal.now))
    c.args.question.now c.in_ok-told.told (c.requires.shown l.0 l.1 l.2) c.in_ok-told.ensures

pub returns-else-shows_board-clause-said : goal.returns-else-shows_board-clause-said
returns-else-shows_board-clause-said c budget =
    impossible_said c.args.case.now budget c.args.journal.now (c.published-epoch.result - 1) c.args.viewer c.args.question.now c.impossible_answer.result
    c.requires.published (subst (λ j. shows_board (last_of (outcomes j)) ≡ false) c.as_slice-2.ensures (sym c.shows_board.ensures ∙ c.if-shows_board.false))
    (ap (λ n. n - 1) (c.published-epoch.ensures.value ∙ ap (λ j. published j) c.as_slice.ensures)) c.requires.begun c.impossible_answer.ensures

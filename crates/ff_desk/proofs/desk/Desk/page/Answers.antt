use Rattle.std.proofs.Common.{◌≡◌, ◌<◌, List, true, false, sym, ap, ◌∙◌, subst}
use Rattle.ff_journal.specs.declared.entries.Entry.{Entry}
use Rattle.ff_journal.specs.Epochs.{last_of}
use Rattle.ff_journal.specs.Publications.{outcomes, published}
use Rattle.ff_journal.specs.Answering.{shows_board}
use Rattle.ff_journal.proofs.LastPublished.{board_last}
use Rattle.ff_told.proofs.Kept.{impossible_page}
use Rattle.ff_desk.specs.Views.{DeskView}
use Rattle.ff_desk.proofs.desk.Desk.page.Goals as goal

pub returns-then-not-shows_board-clause-answers : goal.returns-then-not-shows_board-clause-answers
returns-then-not-shows_board-clause-answers c =
    let j : c.as_slice.result.now ≡ c.args.self.now.journal = c.as_slice.ensures ∙ ap (λ (d : DeskView). d.journal) c.self.view_is in
    impossible_page c.args.self.now.base.case c.args.self.now.base.budget c.args.self.now.journal c.args.part c.args.page c.requires.published
    (ap (λ (x : List Entry). shows_board (last_of (outcomes x))) (sym j) ∙ sym c.shows_board.ensures ∙ c.if-not-shows_board.true)

pub lay-requires : goal.lay-requires
lay-requires c =
    let j : c.as_slice.result.now ≡ c.args.self.now.journal = c.as_slice.ensures ∙ ap (λ (d : DeskView). d.journal) c.self.view_is in
    record {
      board = board_last c.args.self.now.journal c.requires.published
          (ap (λ (x : List Entry). shows_board (last_of (outcomes x))) (sym j) ∙ sym c.shows_board.ensures ∙ c.if-not-shows_board.false);
    }

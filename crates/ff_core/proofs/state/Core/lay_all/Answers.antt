use Rattle.std.proofs.Common.{sym, subst}
use Rattle.ff_journal.proofs.LastPublished.{shown_board}
use Rattle.ff_core.specs.States.{State, StandsFor}
use Rattle.ff_told.specs.Paged.{ShowsBoard}
use Rattle.ff_core.proofs.Heard.{shown_last}
use Rattle.ff_core.proofs.state.Core.lay_all.Goals as goal

pub all_pages-requires-clause-board : goal.all_pages-requires-clause-board
all_pages-requires-clause-board c =
    let s = subst (λ (x : State). StandsFor c.args.case.now x) (sym c.self.view_is) c.requires.stands in
    let b = subst (λ (x : State). ShowsBoard x.journal) (sym c.self.view_is) c.requires.board in
    shown_board c.args.case.now c.self.inside.budget c.self.inside.journal b.0 b.1 c.in-Some.facts s.legal b.2
    (shown_last c.args.case.now _ c.in-Some.facts s c.in-Some.is b.0 b.1 b.2)

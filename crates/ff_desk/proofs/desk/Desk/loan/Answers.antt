use Rattle.std.proofs.Common.{◌≡◌, ◌∙◌, sym, ap, subst}
use Rattle.std.specs.Arc.{arc_value}
use Rattle.ff_journal.specs.Publications.{published}
use Rattle.ff_desk.specs.Views.{DeskView}
use Rattle.ff_desk.specs.Desks.{IsOpeningOf}
use Rattle.ff_desk.proofs.Publishing.{loan_is, loan_opening}
use Rattle.ff_desk.proofs.desk.Desk.loan.Goals as goal

pub invariant_of-result : goal.invariant_of-result
invariant_of-result c = loan_is _ c.in-Some.home (arc_value c.in_ok-board-in-Some.board) c.in_ok-board-in-Some.seat c.self.invariant c.in-Some.is
    c.in_ok-board-in-Some.ensures.board c.in_ok-board-in-Some.ensures.seat

pub returns-clause-opening : goal.returns-clause-opening
returns-clause-opening c =
    subst (λ n. IsOpeningOf c.args.self.now.base.case c.args.self.now.journal n (arc_value c.in_ok-board-in-Some.board).opening) (sym c.requires.epoch)
    (subst (λ (d : DeskView). IsOpeningOf d.base.case d.journal (published d.journal) (arc_value c.in_ok-board-in-Some.board).opening) c.self.view_is
    (loan_opening c.carried_facts_meet_the_rule.ensures _ c.in-Some.home (arc_value c.in_ok-board-in-Some.board) c.self.invariant c.in-Some.is c.in_ok-board-in-Some.ensures.board))

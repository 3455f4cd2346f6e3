use Rattle.std.proofs.Common.{rules, ◌≡◌, ℕ, length, sym, ap, ◌∙◌, subst}
use Rattle.ff_board.specs.Facts.{cons_in}
use Rattle.ff_steal.specs.Shares.{AreDone}
use Rattle.ff_steal.proofs.Done.{shares_wide}
use Rattle.ff_steal.proofs.working.work_with.Goals as goal

pub returns-clause-share : goal.returns-clause-share
returns-clause-share g c = let o = c.args.board.now.opening in let hand = c.args.hand.now in
    shares_wide o hand.number hand.of (length (cons_in o)) c.args.seat.view.seen c.share.new.seat.view.seen c.tasks.new.seat.view.seen c.tasks.ensures.seat.2 c.share.ensures.done

pub returns-clause-hand : goal.returns-clause-hand
returns-clause-hand g c = let e = c.tasks.ensures.member ∙ c.share.ensures.member in (ap (λ (p : ℕ × ℕ). p.0) e, ap (λ (p : ℕ × ℕ). p.1) e)

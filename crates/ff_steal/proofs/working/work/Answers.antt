use Rattle.std.proofs.Common.{rules, ◌≡◌, ℕ, length, sym, subst, Option, Some, IfSome, MutBor}
use Rattle.ff_board.specs.Facts.{cons_in}
use Rattle.ff_steal.specs.declared.crews.Hand.{Hand}
use Rattle.ff_steal.specs.Shares.{AreDone}
use Rattle.ff_steal.proofs.working.work.Goals as goal

pub returns-in-Some-clause-share : goal.returns-in-Some-clause-share
returns-in-Some-clause-share g c = let o = c.args.board.now.opening in
    subst (λ (x : Option (MutBor Hand)). IfSome x (λ h. AreDone o h.now.number h.now.of (length (cons_in o)) c.args.seat.view.seen c.work_with.result.view.seen)) (sym c.in-Some.is) c.work_with.ensures.share

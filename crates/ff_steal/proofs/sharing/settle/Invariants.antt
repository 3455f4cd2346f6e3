use Rattle.std.proofs.Common.{◌≡◌, ◌-◌}
use Rattle.ff_board.specs.Facts.{vars_in}
use Rattle.ff_board.specs.Rule.{set_below}
use Rattle.ff_board.specs.Views.{GoesOn}
use Rattle.ff_steal.proofs.sharing.settle.Given as goal

abbrev pub invariant-again : goal.invariant-again
invariant-again g l = record {
  goes : GoesOn l.initial.seat l.seat;
  who : g.M.Member.who l.member ≡ g.M.Member.who l.initial.member;
}

abbrev pub decreases-again : goal.decreases-again
decreases-again g l = vars_in l.board.opening - set_below (vars_in l.board.opening) l.seat.view.seen

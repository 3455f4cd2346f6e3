use Rattle.std.proofs.Common.{◌≡◌}
use Rattle.ff_board.specs.Rule.{Opens}
use Rattle.ff_board.specs.Views.{GoesOn}
use Rattle.ff_steal.specs.Shares.{AreDoneOf}
use Rattle.ff_steal.proofs.sharing.share.Given as goal

abbrev pub invariant-loop-k : goal.invariant-loop-k
invariant-loop-k g l = record {
  goes : GoesOn l.initial.seat l.seat;
  who : g.M.Member.who l.member ≡ g.M.Member.who l.initial.member;
  opened : Opens l.board.opening l.seat.view.seen;
  done : AreDoneOf l.board.opening l.number l.of l.due l.k l.initial.seat.view.seen l.seat.view.seen;
}

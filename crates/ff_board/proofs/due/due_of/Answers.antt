use Rattle.std.proofs.Common.{rules, arith, ◌≡◌, sym, subst}
use Rattle.ff_board.proofs.Dues.{no_dues}
use Rattle.ff_board.proofs.due.due_of.Goals as goal

pub loop-c-init : goal.loop-c-init
loop-c-init c = record { due = search (rules, no_dues) }

use Rattle.std.proofs.Common.{rules, ◌≡◌, ℕ, ◌+◌, ◌<◌, sym, ap, subst, ◌∙◌, arith, length}
use Rattle.ff_board.specs.Facts.{Grows, cons_in, vars_in}
use Rattle.ff_board.specs.Rule.{set_below}
use Rattle.ff_board.proofs.Counts.{below_grows, below_most}
use Rattle.ff_steal.specs.Shares.{IsDone, AreDone}
use Rattle.ff_steal.proofs.Done.{quiet_done, dead_done}
use Rattle.ff_steal.proofs.sharing.settle.Goals as goal

pub again-smaller-in-Set : goal.again-smaller-in-Set
again-smaller-in-Set g c = let vars = vars_in c.args.board.now.opening in let a = c.in-Set.ensures.look in let m = below_most vars c.examine.new.seat.view.seen in omega (arith, a, m)

pub again-smaller : goal.again-smaller
again-smaller g c = let vars = vars_in c.args.board.now.opening in let a = c.in-Moved.ensures.look in let m = below_most vars c.examine.new.seat.view.seen in omega (arith, a, m)

pub returns-in-Quiet-clause-done : goal.returns-in-Quiet-clause-done
returns-in-Quiet-clause-done g c = quiet_done c.args.board.now.opening c.args.c c.args.seat.now.view.seen c.again.seat.view.seen c.examine.new.seat.view.seen c.again.invariant.goes.2 c.in-Quiet.ensures.look

pub returns-in-Dead-clause-done : goal.returns-in-Dead-clause-done
returns-in-Dead-clause-done g c = dead_done c.args.board.now.opening c.args.c c.args.seat.now.view.seen c.examine.new.seat.view.seen c.in-Dead.ensures.look

use Rattle.std.proofs.Common.{◌≡◌, ◌≤◌}
use Rattle.ff_board.specs.Views.{GoesOn}
use Rattle.ff_steal.proofs.tasks.tasks.Given as goal

abbrev pub invariant-loop : goal.invariant-loop
invariant-loop g l = record {
  goes : GoesOn l.initial.seat l.seat;
  who : g.M.Member.who l.member ≡ g.M.Member.who l.initial.member;
}

use Rattle.ff_board.specs.Due.{AreDue}
use Rattle.ff_board.proofs.due.due_of.Given as goal

abbrev pub invariant-loop-c : goal.invariant-loop-c
invariant-loop-c l = record { due : AreDue l.constraints l.facts l.c l.list.items }

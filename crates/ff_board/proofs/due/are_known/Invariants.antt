use Rattle.ff_tables.specs.Forces.{AreKnown}
use Rattle.ff_propagate.specs.Facts.{value_at}
use Rattle.ff_board.proofs.due.are_known.Given as goal

abbrev pub invariant-loop-j : goal.invariant-loop-j
invariant-loop-j l = record { known : AreKnown l.terms (value_at l.facts) l.j }

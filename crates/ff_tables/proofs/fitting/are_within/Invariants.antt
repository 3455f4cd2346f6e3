use Rattle.std.proofs.Common.{ℕ, ◌<◌}
use Rattle.ff_tables.specs.Orders.{term_at}
use Rattle.ff_tables.proofs.fitting.are_within.Given as goal

abbrev pub invariant-loop-j : goal.invariant-loop-j
invariant-loop-j l = (j : ℕ) → j < l.j → (term_at l.terms j).var < l.vars

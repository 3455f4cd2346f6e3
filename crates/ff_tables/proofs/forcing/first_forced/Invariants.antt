use Rattle.ff_tables.specs.Forces.{SettlesBelow}
use Rattle.ff_tables.proofs.forcing.first_forced.Given as goal

abbrev pub invariant-loop-j : goal.invariant-loop-j
invariant-loop-j g l = SettlesBelow l.kind l.terms (g.K.Known.known l.known) l.j

use Rattle.std.proofs.Common.{◌≡◌, IsTrue, map}
use Rattle.ff_tables.specs.Rows.{rows_of}
use Rattle.ff_tables.specs.Masks.{bits}
use Rattle.ff_tables.specs.Forces.{agrees_below, AreKnown}
use Rattle.ff_tables.proofs.forcing.read.Given as goal

abbrev pub invariant-loop-j : goal.invariant-loop-j
invariant-loop-j g l = (l.rows ≡ bits (map (agrees_below l.terms (g.K.Known.known l.known) l.j) (rows_of l.kind)))
    × (IsTrue l.all_known → AreKnown l.terms (g.K.Known.known l.known) l.j)

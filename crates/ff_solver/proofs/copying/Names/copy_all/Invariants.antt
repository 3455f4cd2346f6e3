use Rattle.std.proofs.Common.{◌≤◌, length}
use Rattle.std.specs.Vec.{vec_capacity}
use Rattle.ff_solver.specs.Copies.{AreNamed, AreCopied}
use Rattle.ff_solver.proofs.copying.Names.copy_all.Given as goal

abbrev pub invariant-loop-k : goal.invariant-loop-k
invariant-loop-k l = record {
  named : AreNamed l.facts l.part.vars l.self;
  copied : AreCopied l.constraints l.part.touching l.part.vars l.self.list.items l.own.items l.k;
  room : length l.part.touching ≤ vec_capacity l.own;
}

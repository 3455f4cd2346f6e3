use Rattle.std.proofs.Common.{◌≡◌, length}
use Rattle.ff_solver.specs.Copies.{AreNamed, IsLonger}
use Rattle.ff_solver.proofs.Copies.{AreTerms}
use Rattle.ff_solver.proofs.copying.Names.copied.Given as goal

abbrev pub invariant-loop-j : goal.invariant-loop-j
invariant-loop-j l = record {
  named : AreNamed l.facts l.part l.self;
  longer : IsLonger l.fn.self.list.items l.self.list.items;
  as_many : length l.list.items ≡ l.j;
  are_terms : AreTerms l.part l.self.list.items l.con.terms l.list.items l.j;
}

use Rattle.std.proofs.Common.{◌≡◌, take, map}
use Rattle.std.specs.List.{filter_map}
use Rattle.ff_journal.specs.Premises.{premise_besides}
use Rattle.ff_journal.proofs.explaining.premises_of.Given as goal

abbrev pub invariant-loop-j : goal.invariant-loop-j
invariant-loop-j l = l.list ≡ filter_map (premise_besides l.case.pairs l.facts l.level l.asked) (map (λ t. t.var) (take l.j l.terms))

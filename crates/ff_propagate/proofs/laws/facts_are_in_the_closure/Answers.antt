use Rattle.std.proofs.Common.{suc, arith}
use Rattle.ff_propagate.proofs.Ruling.{inside_below}
use Rattle.ff_propagate.proofs.laws.facts_are_in_the_closure.Goals as goal

pub returns : goal.returns
returns c vars cons gs fs rule v h at = inside_below vars cons gs fs rule (suc h.level) v h (omega arith) at

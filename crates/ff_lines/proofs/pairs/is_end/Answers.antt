use Rattle.std.proofs.Common.{inr, subst, IsTrue}
use Rattle.ff_lines.proofs.Apart.{same_point}
use Rattle.ff_lines.proofs.pairs.is_end.Goals as goal

pub returns-else-eq : goal.returns-else-eq
returns-else-eq c = λ t. inr (same_point c.args.v c.args.l.q (subst IsTrue c.eq-else-eq.ensures t))

use Rattle.std.proofs.Common.{IsTrue}
use Rattle.ff_tables.specs.Forces.{Knows}
use Rattle.ff_tables.proofs.Agreeing.{forces_more, dead_more}
use Rattle.ff_tables.proofs.laws.more_known_forces_more.Goals as goal

pub returns-clause-tests : goal.returns-clause-tests
returns-clause-tests c con less more up v s f = forces_more con.kind con.terms (λ u t. IsTrue (less u t))
    (λ u t. IsTrue (more u t)) v s up f

pub returns-clause-values : goal.returns-clause-values
returns-clause-values c con less more up v s f = forces_more con.kind con.terms (Knows less) (Knows more) v s up
    f

pub returns-clause-dead : goal.returns-clause-dead
returns-clause-dead c con less more up none = dead_more con.kind con.terms (Knows less) (Knows more) up none

use Rattle.std.proofs.Common.{subst}
use Rattle.ff_propagate.specs.Closing.{ClosesTo}
use Rattle.ff_propagate.specs.Facts.{value_at}
use Rattle.ff_desk.proofs.Publishing.{closure_agrees}
use Rattle.ff_desk.proofs.lending.contradicted.Goals as goal

pub unreachable-requires : goal.unreachable-requires
unreachable-requires c = c.requires.clash (closure_agrees c.args.case.now.system.constraints c.args.givens.now (value_at c.in-Board.field-0)
    (subst (λ x. ClosesTo c.args.case.now.system.vars c.args.case.now.system.constraints c.args.givens.now x) c.in-Board.is c.in_ok-closed.ensures).1)

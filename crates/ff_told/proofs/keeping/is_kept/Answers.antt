use Rattle.std.proofs.Common.{sym, subst}
use Rattle.ff_propagate.specs.Boards.{IsBoardOf}
use Rattle.ff_told.proofs.keeping.is_kept.Goals as goal

pub same-requires-clause-board : goal.same-requires-clause-board
same-requires-clause-board c = subst (λ f. IsBoardOf c.args.case.now.system.vars c.args.case.now.system.constraints f) (sym c.facts.ensures) c.requires.stands.board

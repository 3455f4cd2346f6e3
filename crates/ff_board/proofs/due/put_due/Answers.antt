use Rattle.std.proofs.Common.{rules, ◌≡◌, ◌+◌, ◌++◌, ◌∷◌, [], ℕ, List, sym, subst}
use Rattle.ff_board.specs.Due.{AreDue}
use Rattle.ff_board.proofs.Dues.{due_settled, due_pushed}
use Rattle.ff_board.proofs.due.put_due.Goals as goal

pub returns-in_ok-push : goal.returns-in_ok-push
returns-in_ok-push c = subst (AreDue c.args.constraints.now c.args.facts.now (c.args.c + 1)) (sym c.in_ok-push.ensures.items)
    (due_pushed c.args.constraints.now c.args.facts.now c.args.c c.args.list.now.items c.requires.due)

pub returns-else-not-is_settled : goal.returns-else-not-is_settled
returns-else-not-is_settled c = due_settled c.args.constraints.now c.args.facts.now c.args.c c.args.list.now.items c.constraint.result.now c.constraint.ensures
    (c.is_settled.ensures (search rules)) c.requires.due

use Rattle.std.proofs.Common.{rules, ◌<◌, length, arith}
use Rattle.ff_near.proofs.OneBetter.{joins, stays}
use Rattle.ff_near.proofs.least.Least.note.Goals as goal

pub returns-then-cost-self-2-clause-least : goal.returns-then-cost-self-2-clause-least
returns-then-cost-self-2-clause-least c = λ cost_of solutions counted e are.
    let some : 0 < length c.args.self.now.best.items = search rules in
    joins cost_of solutions _ _ _ are c.args.values _ _ counted e some c.if-cost-self-2.true _ c.in_ok-push.ensures.items

pub returns-clause-least : goal.returns-clause-least
returns-clause-least c = λ cost_of solutions counted e are.
    let some : 0 < length c.args.self.now.best.items = search rules in
    stays cost_of solutions _ _ _ are c.args.values _ e some (omega (arith, c.if-cost-self.false)) c.if-cost-self-2.false

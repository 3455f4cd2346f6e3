use Rattle.std.proofs.Common.{◌≡◌, ◌<◌, ℕ, List, length, sym, subst, arith, Option}
use Rattle.ff_tables.specs.declared.orders.Order.{Order}
use Rattle.ff_types.specs.declared.cases.Case.{Case}
use Rattle.ff_desk.specs.Desks.{AreLastFacts}
use Rattle.ff_desk.proofs.Counts.{few}
use Rattle.ff_desk.proofs.desk.Desk.plain.Goals as goal

pub reply-requires-clause-few : goal.reply-requires-clause-few
reply-requires-clause-few c =
    let n = (few c.self.inside.base.lengths c.self.inside.journal c.self.invariant.within c.self.invariant.order).2 in
    let t = c.self.invariant.few.commands in
    omega (arith, n, t)

pub reply-requires-clause-shown : goal.reply-requires-clause-shown
reply-requires-clause-shown c = subst (λ (x : Case). AreLastFacts x c.self.inside.journal c.self.inside.facts) (sym c.case.ensures) c.self.invariant.read

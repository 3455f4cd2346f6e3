use Rattle.std.proofs.Common.{rules, ◌≡◌, ◌<◌, ℕ, sym, subst, length, List, Option, None}
use Rattle.ff_propagate.specs.Giving.{GaveAll}
use Rattle.ff_carry.proofs.Firsts.{agree, carried}
use Rattle.ff_carry.proofs.Carries.{gave_fills}
use Rattle.ff_carry.proofs.carrying.fill.Goals as goal

pub returns-in-Some : goal.returns-in-Some
returns-in-Some c = let gs = c.args.givens.now in
    gave_fills (length c.args.old.now) c.args.constraints.now gs c.args.old.now c.give-clash.new.facts c.in-Some.at
    (subst (GaveAll gs (length gs) c.give-clash.new.facts) c.in-Some.is c.give-clash.ensures.gave)

pub returns : goal.returns
returns c = let gs = c.args.givens.now in let base = c.give-clash.new.facts in
    let none : c.give-clash.result ≡ None = search rules in (
      agree gs base c.give-clash.ensures.gives (subst (GaveAll gs (length gs) base) none c.give-clash.ensures.gave),
      carried gs base c.give-clash.ensures.gives (length c.args.old.now) c.args.constraints.now c.args.old.now c.keep_all.new.facts (search rules) c.keep_all.ensures,
    )

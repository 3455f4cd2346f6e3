use Rattle.std.proofs.Common.{subst}
use Rattle.ff_carry.specs.declared.carrying.Opened.{Opened}
use Rattle.ff_carry.specs.Ends.{CarriesTo}
use Rattle.ff_boards.proofs.boards.carried_to.Goals as goal

pub returns-in-Board : goal.returns-in-Board
returns-in-Board c =
    let vars = c.args.system.now.vars in let cons = c.args.system.now.constraints in
    let end = subst (λ (r : Opened). CarriesTo vars cons c.args.givens.now c.args.old.now r) c.in-Board.is c.in_ok-opened.ensures in
    (end.0, c.carried_facts_meet_the_rule.ensures vars cons c.args.old_givens.now c.args.givens.now c.args.old.now c.in-Board.facts c.requires.rule end.1)

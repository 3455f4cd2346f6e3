use Rattle.std.proofs.Common.{[], subst}
use Rattle.ff_carry.specs.declared.carrying.Opened.{Opened}
use Rattle.ff_carry.specs.Ends.{CarriesTo}
use Rattle.ff_threads.proofs.Started.{none_meet}
use Rattle.ff_threads.proofs.boards.facts_of.Goals as goal

pub returns-in-Board : goal.returns-in-Board
returns-in-Board c =
    let vars = c.args.system.now.vars in let cons = c.args.system.now.constraints in
    let end = subst (λ (r : Opened). CarriesTo vars cons c.args.givens.now c.in_ok-none.none r) c.in-Board.is c.in_ok-opened.ensures in
    (c.carried_facts_meet_the_rule.ensures vars cons [] c.args.givens.now c.in_ok-none.none c.in-Board.facts (none_meet vars cons c.in_ok-none.none c.in_ok-none.ensures) end.1, end.0)

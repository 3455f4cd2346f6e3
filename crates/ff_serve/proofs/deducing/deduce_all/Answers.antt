use Rattle.std.proofs.Common.{rules, ◌≡◌, ℕ, ◌+◌, ◌<◌, ◌≤◌, List, length, sym, ap, ◌∙◌, subst, arith}
use Rattle.ff_tables.specs.declared.givens.Given.{Given}
use Rattle.ff_propagate.specs.Closing.{ClosesTo, IsClashAt}
use Rattle.ff_propagate.specs.declared.facts.Closed.{Closed}
use Rattle.ff_propagate.specs.declared.facts.Closed.TheVariants.{Board, Clash}
use Rattle.ff_propagate.specs.declared.facts.ClashAt.{ClashAt}
use Rattle.ff_propagate.specs.declared.facts.ClashAt.TheVariants as at
use Rattle.ff_journal.proofs.PinGivens.{givens_few, givens_fit}
use Rattle.ff_journal.specs.Epochs.{changes}
use Rattle.ff_journal.specs.Publications.{published}
use Rattle.ff_serve.proofs.Quieted.{on_both, holds_givens, board_is_quiet, dead_is_quiet, clash_is_quiet}
use Rattle.ff_serve.proofs.Commands.{changes_few}
use Rattle.ff_serve.proofs.deducing.deduce_all.Goals as goal

pub close-requires-clause-few : goal.close-requires-clause-few
close-requires-clause-few c = let j = c.args.core.now.journal in
    let few = givens_few c.args.case.now j (published j) c.count-pairs.ensures.pairs.sorted in
    let long = changes_few j in let same = ap length c.requires.givens in
    (omega (arith, few, long, same, c.requires.room.few), c.requires.room.constraints)

pub deduce_from-requires-clause-holds : goal.deduce_from-requires-clause-holds
deduce_from-requires-clause-holds c =
    let closes : ClosesTo c.args.case.now.system.vars c.args.case.now.system.constraints c.args.givens.now (Board c.in-Board.facts) =
    subst (ClosesTo c.args.case.now.system.vars c.args.case.now.system.constraints c.args.givens.now) c.in-Board.is c.in_ok-facts.ensures in
    holds_givens c.args.case.now.system.constraints c.args.givens.now c.in-Board.facts closes.1

pub returns-in-Board-clause-quiet : goal.returns-in-Board-clause-quiet
returns-in-Board-clause-quiet c =
    let closes : ClosesTo c.args.case.now.system.vars c.args.case.now.system.constraints c.args.givens.now (Board c.in-Board.facts) =
    subst (ClosesTo c.args.case.now.system.vars c.args.case.now.system.constraints c.args.givens.now) c.in-Board.is c.in_ok-facts.ensures in
    on_both c.deduce_from.result
    (board_is_quiet c.args.case.now c.args.core.now c.deduce_from.new.core c.args.givens.now c.in-Board.facts c.requires.givens c.deduce_from.ensures.stands
    c.facts_are_in_the_closure.ensures closes.1)
    c.deduce_from.ensures.same c.deduce_from.ensures.all

pub returns-in-Dead-clause-quiet : goal.returns-in-Dead-clause-quiet
returns-in-Dead-clause-quiet c =
    let closes : ClosesTo c.args.case.now.system.vars c.args.case.now.system.constraints c.args.givens.now (Clash c.in-Clash.facts c.in-Clash.at) =
    subst (ClosesTo c.args.case.now.system.vars c.args.case.now.system.constraints c.args.givens.now) c.in-Clash.is c.in_ok-facts.ensures in
    let dead = subst (IsClashAt c.args.case.now.system.constraints c.args.givens.now c.in-Clash.facts) c.in-Dead.is closes.1 in
    on_both c.deduce_from-in-Dead.result
    (dead_is_quiet c.args.case.now c.args.core.now c.deduce_from-in-Dead.new.core c.in-Clash.facts c.in-Dead.field-0 dead.1)
    c.deduce_from-in-Dead.ensures.same c.deduce_from-in-Dead.ensures.all

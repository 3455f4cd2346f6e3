use Rattle.ff_core.proofs.AfterSaying.{published_begun}
use Rattle.ff_told.proofs.Asked.{some_published, last_published}
use Rattle.ff_core.proofs.Heard.{said_on, names_on, says_on}
use Rattle.ff_core.proofs.state.Core.hear.Goals as goal

pub told-requires-clause-published : goal.told-requires-clause-published
told-requires-clause-published c = some_published c.args.self.now.journal c.args.command c.requires.waits

pub told-requires-clause-begun : goal.told-requires-clause-begun
told-requires-clause-begun c = last_published c.args.self.now.journal c.args.command c.requires.waits
    (published_begun c.args.case.now c.args.self.now.journal c.args.self.now.working c.requires.stands.works)

pub enter-requires-clause-said : goal.enter-requires-clause-said
enter-requires-clause-said c = said_on c.args.case.now c.args.self.now c.told.new.self c.args.viewer c.args.command c.in_ok-told.told c.in_ok-entered.entered c.in_ok-told.ensures.same
    c.in_ok-entered.ensures c.in_ok-told.ensures.said

pub enter-requires-clause-names : goal.enter-requires-clause-names
enter-requires-clause-names c = names_on c.args.case.now c.args.self.now c.told.new.self c.args.viewer c.args.command c.in_ok-told.told c.in_ok-entered.entered c.in_ok-told.ensures.same
    c.in_ok-entered.ensures c.in_ok-told.ensures.names

pub returns-clause-says : goal.returns-clause-says
returns-clause-says c = says_on c.args.case.now c.args.self.now c.told.new.self c.enter.new.self c.args.viewer c.args.command c.in_ok-told.told c.in_ok-entered.entered c.in_ok-told.ensures.same
    c.in_ok-entered.ensures c.requires.waits c.in_ok-enter.ensures.entered

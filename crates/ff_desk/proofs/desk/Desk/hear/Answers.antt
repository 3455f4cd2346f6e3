use Rattle.std.proofs.Common.{◌≡◌}
use Rattle.ff_told.proofs.Asked.{some_published, last_published}
use Rattle.ff_desk.proofs.desk.Desk.hear.Goals as goal

pub told-requires-clause-published : goal.told-requires-clause-published
told-requires-clause-published c = some_published c.args.self.now.journal c.args.command.now c.requires.waits

pub told-requires-clause-begun : goal.told-requires-clause-begun
told-requires-clause-begun c = last_published c.args.self.now.journal c.args.command.now c.requires.waits c.is_desk.ensures.order

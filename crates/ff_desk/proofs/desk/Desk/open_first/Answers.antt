use Rattle.ff_desk.proofs.Beginning.{first_prepared}
use Rattle.ff_desk.proofs.desk.Desk.open_first.Goals as goal

pub returns-clause-first : goal.returns-clause-first
returns-clause-first c = first_prepared c.args.self.now c.prepare.new.self c.in_ok-prepared.prepared c.is_desk.ensures c.requires.blank c.in_ok-prepared.ensures.same c.in_ok-prepared.ensures.prepared

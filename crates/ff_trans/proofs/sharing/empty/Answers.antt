use Rattle.ff_trans.proofs.Shares.{empty_one}
use Rattle.ff_trans.proofs.sharing.empty.Goals as goal

pub returns : goal.returns
returns c = empty_one c.args.lists.now c.args.face c.clear.new.self c.clear.ensures.items

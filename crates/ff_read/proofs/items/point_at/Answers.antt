use Rattle.ff_read.proofs.Lists.{short}
use Rattle.ff_read.proofs.items.point_at.Goals as goal

pub returns-then-list-lt2 : goal.returns-then-list-lt2
returns-then-list-lt2 c = short c.args.list.now c.then-list-lt2.either

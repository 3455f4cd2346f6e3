use Rattle.ff_basics.proofs.NumberedLists.{put_one}
use Rattle.ff_propagate.proofs.uses.put.Goals as goal

pub returns : goal.returns
returns c = put_one c.args.lists.now c.args.var c.args.c c.index-lists-var.result c.push.new.self c.requires
    c.index-lists-var.is c.in_ok-push.ensures.items

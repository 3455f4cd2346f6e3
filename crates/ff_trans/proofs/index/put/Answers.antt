use Rattle.ff_basics.proofs.NumberedLists.{put_one}
use Rattle.ff_trans.proofs.index.put.Goals as goal

pub returns : goal.returns
returns c = put_one c.args.lists.now c.args.face c.args.cell c.index-lists-face.result c.push.new.self c.requires c.index-lists-face.is c.in_ok-push.ensures.items

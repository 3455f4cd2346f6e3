use Rattle.std.proofs.Common.{arith}
use Rattle.ff_parts.proofs.Gathered.{put_one}
use Rattle.ff_parts.proofs.gathering.put.Goals as goal

pub returns : goal.returns
returns c = put_one c.args.lists.now c.args.label c.args.number c.index-lists-label.result c.push.new.self
    (omega (arith, c.if-label-eq0.false)) c.requires c.index-lists-label.is c.in_ok-push.ensures.items

use Rattle.std.proofs.Common.{◌+◌}
use Rattle.ff_lines.proofs.Gathers.{after_same, many_of, no_more}
use Rattle.ff_lines.proofs.gathering.count_points.Goals as goal

pub returns-then-many : goal.returns-then-many
returns-then-many c =
    let k = c.in_ok-many.ensures in
    rw c.clear.ensures.items (no_more c.args.lines.now c.args.i (c.args.i + 1) c.args.points.now.items c.are_too_many.new.points.items c.args.full c.requires.gathered
    (many_of c.args.lines.now c.args.i (c.args.i + 1) c.args.points.now.items c.are_too_many.new.points.items c.args.full c.requires.gathered k.same (k.rise c.if-many.true) (k.more c.if-many.true)))

pub returns : goal.returns
returns c = after_same c.args.lines.now c.args.i (c.args.i + 1) c.args.points.now.items c.are_too_many.new.points.items c.args.full c.requires.gathered c.in_ok-many.ensures.same

use Rattle.std.proofs.Common.{rules, ◌+◌, length, refl, sym, subst}
use Rattle.ff_lines.specs.Drawings.{WhyNotDrawn}
use Rattle.ff_lines.proofs.Gathers.{are_vertices, many_of, none_stops}
use Rattle.ff_lines.proofs.gathering.finished.Goals as goal

pub returns-then-full : goal.returns-then-full
returns-then-full c = subst (WhyNotDrawn c.args.lines.now) (sym c.too_many.ensures)
    (none_stops c.args.lines.now c.args.points.now.items c.args.full c.requires.gathered, c.requires.gathered.many c.if-full.true, refl)

pub returns-then-len-gt-MOST_VERTICES : goal.returns-then-len-gt-MOST_VERTICES
returns-then-len-gt-MOST_VERTICES c =
    let n = length c.args.lines.now in let s = c.in_ok-squeeze.ensures in
    subst (WhyNotDrawn c.args.lines.now) (sym c.too_many-then-len-gt-MOST_VERTICES.ensures) (
      none_stops c.args.lines.now c.args.points.now.items c.args.full c.requires.gathered,
      many_of c.args.lines.now n (n + 1) c.args.points.now.items c.squeeze.new.points.items c.args.full c.requires.gathered s.same s.rise (search rules),
      refl,
    )

pub returns : goal.returns
returns c = (
  none_stops c.args.lines.now c.args.points.now.items c.args.full c.requires.gathered,
  are_vertices c.args.lines.now c.args.points.now.items c.args.full c.requires.gathered c.if-full.false c.squeeze.new.points.items c.in_ok-squeeze.ensures,
  search rules,
)

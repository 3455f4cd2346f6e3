use Rattle.std.proofs.lemmas.Bool.{false≢true}
use Rattle.std.proofs.Common.{sym, ◌∙◌}
use Rattle.ff_planar.proofs.Boxes.{none_south, none_north}
use Rattle.ff_planar.proofs.frames.holds.Goals as goal

pub returns-then-is_south_of : goal.returns-then-is_south_of
returns-then-is_south_of c = λ _. let r = c.requires in none_south c.args.points.now c.args.ring.now r.some c.args.frame r.frame c.args.v r.vertex (c.is_south_of.ensures.0 c.if-is_south_of.true)

pub returns-then-is_south_of-2 : goal.returns-then-is_south_of-2
returns-then-is_south_of-2 c = λ _. let r = c.requires in none_north c.args.points.now c.args.ring.now r.some c.args.frame r.frame c.args.v r.vertex (c.is_south_of-2.ensures.0 c.if-is_south_of-2.true)

pub returns : goal.returns
returns c = λ e h. false≢true (sym e ∙ c.is_inside.ensures.1 h)

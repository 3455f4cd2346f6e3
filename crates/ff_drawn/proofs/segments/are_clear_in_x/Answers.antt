use Rattle.ff_drawn.proofs.Eithers.{first_holds, second_tells}
use Rattle.ff_drawn.specs.Beside.{AreBelow}
use Rattle.ff_drawn.proofs.segments.are_clear_in_x.Goals as goal

pub returns-then-is_before : goal.returns-then-is_before
returns-then-is_before x = first_holds (AreBelow x.args.a.x x.args.b.x x.args.c.x x.args.d.x) (AreBelow x.args.c.x x.args.d.x x.args.a.x x.args.b.x) _ x.if-is_before.true x.is_before.ensures

pub returns : goal.returns
returns x = second_tells (AreBelow x.args.a.x x.args.b.x x.args.c.x x.args.d.x) (AreBelow x.args.c.x x.args.d.x x.args.a.x x.args.b.x) _ _ x.if-is_before.false x.is_before.ensures x.is_before-2.ensures

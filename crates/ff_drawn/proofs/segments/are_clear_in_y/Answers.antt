use Rattle.ff_drawn.proofs.Eithers.{first_holds, second_tells}
use Rattle.ff_drawn.specs.Beside.{AreBelow}
use Rattle.ff_drawn.proofs.segments.are_clear_in_y.Goals as goal

pub returns-then-is_below : goal.returns-then-is_below
returns-then-is_below x = first_holds (AreBelow x.args.a.y x.args.b.y x.args.c.y x.args.d.y) (AreBelow x.args.c.y x.args.d.y x.args.a.y x.args.b.y) _ x.if-is_below.true x.is_below.ensures

pub returns : goal.returns
returns x = second_tells (AreBelow x.args.a.y x.args.b.y x.args.c.y x.args.d.y) (AreBelow x.args.c.y x.args.d.y x.args.a.y x.args.b.y) _ _ x.if-is_below.false x.is_below.ensures x.is_below-2.ensures

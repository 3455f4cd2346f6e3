use Rattle.std.proofs.Common.{inl, inr, refl}
use Rattle.ff_lines.proofs.Cursors.{cursor_of_last, cursor_of_next}
use Rattle.ff_lines.proofs.cutting.cursor_after.Goals as goal

pub returns-in-Some-clause-cursor : goal.returns-in-Some-clause-cursor
returns-in-Some-clause-cursor c = cursor_of_next c.args.l c.args.points.now c.args.a c.in-Some.b c.in-Some.ensures

pub returns-in-Some-clause-heads : goal.returns-in-Some-clause-heads
returns-in-Some-clause-heads c = inr (c.in-Some.b, c.in-Some.ensures, refl)

pub returns-in-None-clause-cursor : goal.returns-in-None-clause-cursor
returns-in-None-clause-cursor c = cursor_of_last c.args.l c.args.points.now c.args.a c.requires.within c.in-None.ensures

pub returns-in-None-clause-heads : goal.returns-in-None-clause-heads
returns-in-None-clause-heads c = inl (c.in-None.ensures, refl)

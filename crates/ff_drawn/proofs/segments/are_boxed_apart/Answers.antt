use Rattle.std.specs.Prelude.{ℤ, ◌⊎◌}
use Rattle.ff_drawn.proofs.Eithers.{first_holds, second_tells}
use Rattle.ff_drawn.specs.Beside.{AreBelow}
use Rattle.ff_drawn.proofs.segments.are_boxed_apart.Goals as goal

abbrev clear : ℤ → ℤ → ℤ → ℤ → Type 0
clear a b c d = AreBelow a b c d ⊎ AreBelow c d a b

pub returns-then-are_clear_in_x : goal.returns-then-are_clear_in_x
returns-then-are_clear_in_x x = first_holds (clear x.args.a.x x.args.b.x x.args.c.x x.args.d.x) (clear x.args.a.y x.args.b.y x.args.c.y x.args.d.y) _ x.if-are_clear_in_x.true x.are_clear_in_x.ensures

pub returns : goal.returns
returns x = second_tells (clear x.args.a.x x.args.b.x x.args.c.x x.args.d.x) (clear x.args.a.y x.args.b.y x.args.c.y x.args.d.y) _ _ x.if-are_clear_in_x.false x.are_clear_in_x.ensures x.are_clear_in_y.ensures

use Rattle.std.proofs.Common.{inr}
use Rattle.ff_cells.proofs.steps.push_bar.Goals as goal

pub returns-in_ok-push : goal.returns-in_ok-push
returns-in_ok-push c = inr (c.in-Some.b, c.in_ok-push.ensures.items, c.in-Some.ensures)

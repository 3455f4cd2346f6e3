use Rattle.std.proofs.Common.{arith, ap, sym, ◌∙◌}
use Rattle.ff_door.specs.Views.{DoorView}
use Rattle.ff_door.proofs.Turns.{draws}
use Rattle.ff_door.proofs.door.Door.draw.Goals as goal

pub fetch_add-requires : goal.fetch_add-requires
fetch_add-requires g c = (
  c.requires.door ∙ sym (ap (λ (x : DoorView g.row.T-Base.Denot). x.table) c.self.view_is),
  omega (arith, c.self.invariant.0),
  draws g.T.Kept.listed g.T.Kept.names g.T.Kept.base _ _ _ _ c.requires.out,
)

pub returns-clause-ticket : goal.returns-clause-ticket
returns-clause-ticket g c = let d = c.fetch_add.ensures.2 in (d.1.0, d.1.1, λ k. (d.1.2 k, (d.0 ∙ c.requires.out.3) k))

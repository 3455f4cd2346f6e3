use Rattle.std.proofs.Common.{arith, ap, sym, ◌∙◌}
use Rattle.ff_door.specs.Views.{DoorView}
use Rattle.ff_door.proofs.Gathering.{splits}
use Rattle.ff_door.proofs.door.Door.split.Goals as goal

pub split_seat-requires : goal.split_seat-requires
split_seat-requires g c = let o = c.requires.out in (
  c.requires.door ∙ sym (ap (λ (x : DoorView g.row.T-Base.Denot). x.table) c.self.view_is),
  omega (arith, c.self.invariant.0),
  splits g.T.Kept.listed g.T.Kept.names g.T.Kept.base _ _ _ o.1 o.2 o.0.0 o.0.1,
)

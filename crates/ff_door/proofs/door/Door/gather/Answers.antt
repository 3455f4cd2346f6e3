use Rattle.std.proofs.Common.{arith, ap, sym, ◌∙◌}
use Rattle.ff_door.specs.Views.{DoorView}
use Rattle.ff_door.proofs.Gathering.{joins}
use Rattle.ff_door.proofs.door.Door.gather.Goals as goal

pub join_seat-requires : goal.join_seat-requires
join_seat-requires g c = let o = c.requires.out in let t = sym (ap (λ (x : DoorView g.row.T-Base.Denot). x.table) c.self.view_is) in (
  c.requires.door ∙ t,
  c.requires.other_door ∙ t,
  o.1.3,
  omega (arith, c.self.invariant.0),
  joins g.T.Kept.listed g.T.Kept.names g.T.Kept.base _ _ _ _ _ o.0.2 o.1.2 o.0.0 o.1.0 o.0.1 o.1.1,
)

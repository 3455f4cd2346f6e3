use Rattle.std.proofs.Common.{rules}
use Rattle.ff_carry.proofs.Orders.{none_placed}
use Rattle.ff_carry.proofs.placing.places.Goals as goal

pub loop-var-init : goal.loop-var-init
loop-var-init c = record { placed = search (rules, none_placed) }

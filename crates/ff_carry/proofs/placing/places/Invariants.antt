use Rattle.ff_carry.specs.Placing.{ArePlaced}
use Rattle.ff_carry.proofs.placing.places.Given as goal

abbrev pub invariant-loop-var : goal.invariant-loop-var
invariant-loop-var l = record { placed : ArePlaced l.old l.var l.list.items }

use Rattle.ff_planar.proofs.AreaSums.{IsSum}
use Rattle.ff_planar.proofs.CyclicSums.{sweep_at}
use Rattle.ff_planar.proofs.walks.area_of.Given as goal

abbrev pub invariant-loop-i : goal.invariant-loop-i
invariant-loop-i l = IsSum l.i (sweep_at l.points l.ring) l.area

use Rattle.ff_basics.specs.NumberedLists.{lists_in}
use Rattle.ff_trans.specs.Rows.{IsPut}
use Rattle.ff_trans.proofs.index.put_cell.Given as goal

abbrev pub invariant-loop-j : goal.invariant-loop-j
invariant-loop-j l = IsPut l.faces 0 l.j l.cell (lists_in l.fn.lists) (lists_in l.lists)

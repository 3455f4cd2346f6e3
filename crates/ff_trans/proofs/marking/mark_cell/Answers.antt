use Rattle.std.proofs.Common.{◌<◌, ◌+◌, ◌-◌, length, get_or, arith}
use Rattle.ff_pairs.proofs.Widths.{below_last}
use Rattle.ff_trans.proofs.Marks.{marked_below}
use Rattle.ff_trans.proofs.marking.mark_cell.Goals as goal

pub returns-else-is_empty-clause-past : goal.returns-else-is_empty-clause-past
returns-else-is_empty-clause-past c =
    let faces = c.args.faces.now in
    let marked = c.mark_above.ensures in
    let last = get_or faces (length faces - 1) 0 in
    let some : 0 < length faces = (let e = c.if-is_empty.false in grind (arith, e)) in
    marked_below faces marked.0 (length faces) c.args.cell (last + 1) c.args.row.now c.mark_above.new.row
    (λ j l. below_last faces c.requires.rising some (last + 1) (omega arith) j 0 l) marked.2

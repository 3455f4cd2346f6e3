use Rattle.std.proofs.Common.{◌≡◌, sym, ap, subst, ◌∙◌, length, slice_index, slice_get, Some, arith}
use Rattle.std.specs.List.Sorted.{IsStrictlyIncreasing}
use Rattle.std.proofs.lemmas.Option.{slice_get-get_or}
use Rattle.ff_cells.specs.declared.cell.Cell.{Cell}
use Rattle.ff_trans.specs.Rows.{IsMarkedAbove}
use Rattle.ff_trans.proofs.Marks.{row_next, reach_more}
use Rattle.ff_trans.proofs.marking.mark_row.Goals as goal

pub mark_cell-past-requires-clause-rising : goal.mark_cell-past-requires-clause-rising
mark_cell-past-requires-clause-rising c = subst IsStrictlyIncreasing (sym c.as_slice.ensures)
    (c.requires.lists (slice_index c.args.list.now c.loop-x.x) c.index-cells-list.result (c.requires.numbered.within c.loop-x.x c.loop-x-test.true)).rising

pub loop-x-preserved : goal.loop-x-preserved
loop-x-preserved c =
    let cells = c.args.cells.now in let list = c.args.list.now in let x = c.loop-x.x in
    let cell = c.index-cells-list.result in
    let within = c.requires.numbered.within x c.loop-x-test.true in
    let at : slice_get cells (slice_index list x) ≡ Some cell = slice_get-get_or cells (slice_index list x) cell within ∙ ap Some (sym c.index-cells-list.is) in
    let same = c.as_slice.ensures ∙ ap (λ (z : Cell). z.faces) (sym c.index-cells-list.is) in
    let marks = subst (λ xs. IsMarkedAbove xs c.args.h (slice_index list x) c.loop-x.row c.mark_cell-past.new.row) same c.mark_cell-past.ensures.marked in
    let next = row_next cells list c.args.h (length c.args.row.now) c.requires.numbered x cell c.loop-x-test.true at c.loop-x.row c.mark_cell-past.new.row marks c.loop-x.invariant.row in
    let long : length c.mark_cell-past.new.row ≡ length c.loop-x.row = next.long ∙ sym c.loop-x.invariant.row.long in
    let most = c.max-reach.ensures in
    let far = c.loop-x.invariant.reach.within in
    let past = c.mark_cell-past.ensures.within in
    record {
      row = next;
      reach = reach_more c.loop-x.row c.mark_cell-past.new.row c.loop-x.reach c.mark_cell-past.result c.max-reach.result long c.loop-x.invariant.reach past c.mark_cell-past.ensures.past
          (grind (arith, most)) (grind (arith, most)) (grind (arith, most, far, past));
    }

use Rattle.std.proofs.Common.{◌≡◌, ◌∙◌, sym, ap, subst, length, Some, slice_get}
use Rattle.std.specs.List.Sorted.{IsStrictlyIncreasing}
use Rattle.std.proofs.lemmas.Option.{slice_get-get_or}
use Rattle.ff_basics.specs.NumberedLists.{lists_in}
use Rattle.ff_cells.specs.declared.cell.Cell.{Cell}
use Rattle.ff_trans.specs.Rows.{IsPut}
use Rattle.ff_trans.proofs.Indexes.{index_more}
use Rattle.ff_trans.proofs.index.put_cells.Goals as goal

pub put_cell-requires-clause-rising : goal.put_cell-requires-clause-rising
put_cell-requires-clause-rising c = subst IsStrictlyIncreasing (sym c.as_slice.ensures) (c.requires.cells c.loop-i.i c.index-cells-i.result c.loop-i-test.true).rising

pub loop-i-preserved : goal.loop-i-preserved
loop-i-preserved c =
    let cells = c.args.cells.now in let i = c.loop-i.i in
    let cell = c.index-cells-i.result in
    let at : slice_get cells i ≡ Some cell = slice_get-get_or cells i cell c.loop-i-test.true ∙ ap Some (sym c.index-cells-i.is) in
    let same = c.as_slice.ensures ∙ ap (λ (z : Cell). z.faces) (sym c.index-cells-i.is) in
    index_more cells i (length c.args.lists.now) cell (lists_in c.loop-i.lists) (lists_in c.put_cell.new.lists) at c.loop-i.invariant
    (subst (λ xs. IsPut xs 0 (length xs) i (lists_in c.loop-i.lists) (lists_in c.put_cell.new.lists)) same c.in_ok-put_cell.ensures)

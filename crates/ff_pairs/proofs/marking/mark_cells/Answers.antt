use Rattle.std.proofs.Common.{◌+◌, ◌∙◌, ◌≡◌, sym, ap, subst, inr, length, Some, slice_get}
use Rattle.std.specs.List.Sorted.{IsStrictlyIncreasing}
use Rattle.std.proofs.lemmas.Option.{slice_get-get_or}
use Rattle.ff_cells.specs.declared.cell.Cell.{Cell}
use Rattle.ff_pairs.specs.Tables.{Adds, IsOrdered, IsInCells}
use Rattle.ff_pairs.proofs.Marks.{mark_more, more_in_cells}
use Rattle.ff_pairs.proofs.marking.mark_cells.Goals as goal

pub mark_cell-requires-clause-rising : goal.mark_cell-requires-clause-rising
mark_cell-requires-clause-rising c = subst IsStrictlyIncreasing (sym c.as_slice.ensures) (c.requires.lists c.loop-k.k c.index-cells-k.result c.loop-k-test.true).rising

pub mark_cell-requires-clause-marked : goal.mark_cell-requires-clause-marked
mark_cell-requires-clause-marked c f h p q o = (c.loop-k.invariant.adds.adds f h p q).1 (inr (c.faces_before.ensures.pairs f h o))

pub loop-k-preserved : goal.loop-k-preserved
loop-k-preserved c =
    let cells = c.args.cells.now in let k = c.loop-k.k in let w = c.args.width in
    let cell = c.index-cells-k.result in
    let at : slice_get cells k ≡ Some cell = slice_get-get_or cells k cell c.loop-k-test.true ∙ ap Some (sym c.index-cells-k.is) in
    record {
      adds = mark_more w c.args.table.now c.loop-k.table c.mark_cell.new.table (IsInCells cells k) (IsOrdered cell.faces (length cell.faces)) (IsInCells cells (k + 1)) c.loop-k.invariant.adds
          (subst (λ xs. Adds w c.loop-k.table c.mark_cell.new.table (IsOrdered xs (length xs))) (c.as_slice.ensures ∙ ap (λ (z : Cell). z.faces) (sym c.index-cells-k.is)) c.mark_cell.ensures.adds)
          (λ f h. more_in_cells cells k cell f h at);
      reach = c.mark_cell.ensures.reach;
    }

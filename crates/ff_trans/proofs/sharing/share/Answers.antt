use Rattle.std.proofs.Common.{◌≡◌, ◌∙◌, sym, ap, subst, length, slice_index, slice_get, Some, arith}
use Rattle.std.specs.List.Sorted.{IsStrictlyIncreasing}
use Rattle.std.proofs.lemmas.Option.{slice_get-get_or}
use Rattle.ff_basics.specs.NumberedLists.{lists_in}
use Rattle.ff_cells.specs.declared.cell.Cell.{Cell}
use Rattle.ff_trans.specs.Rows.{IsPutAbove}
use Rattle.ff_trans.proofs.Shares.{share_more, share_done, cells_numbered}
use Rattle.ff_trans.proofs.sharing.share.Goals as goal

pub put_above-requires-clause-rising : goal.put_above-requires-clause-rising
put_above-requires-clause-rising c = subst IsStrictlyIncreasing (sym c.as_slice.ensures)
    (c.requires.faces (slice_index c.args.list.now c.loop-x.x) c.index-cells-list.result (c.requires.list.each c.loop-x.x c.loop-x-test.true).0).rising

pub loop-x-preserved : goal.loop-x-preserved
loop-x-preserved c =
    let cells = c.args.cells.now in let list = c.args.list.now in let x = c.loop-x.x in
    let cell = c.index-cells-list.result in
    let less = c.loop-x-test.true in
    let of = c.requires.list in
    let at : slice_get cells (slice_index list x) ≡ Some cell = slice_get-get_or cells (slice_index list x) cell (of.each x less).0 ∙ ap Some (sym c.index-cells-list.is) in
    let same = c.as_slice.ensures ∙ ap (λ (z : Cell). z.faces) (sym c.index-cells-list.is) in
    let old = lists_in c.loop-x.lists in let new = lists_in c.put_above.new.lists in
    record {
      shared = share_more cells list (cells_numbered cells c.args.f list of) x less c.args.f (length c.args.lists.now) cell old new at c.loop-x.invariant.shared
          (subst (λ xs. IsPutAbove xs c.args.f (slice_index list x) old new) same c.in_ok-put_above.ensures);
      within = omega (arith, less);
    }

pub returns : goal.returns
returns c =
    let far = c.loop-x-test.false in
    share_done c.args.cells.now c.args.f (length c.args.lists.now) c.loop-x.x c.args.list.now (lists_in c.loop-x.lists) (omega (arith, far)) c.requires.list c.loop-x.invariant.shared c.loop-x.invariant.within

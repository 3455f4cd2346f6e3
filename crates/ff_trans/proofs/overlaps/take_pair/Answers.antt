use Rattle.std.proofs.Common.{ℕ, ◌≡◌, sym, ap, subst, length}
use Rattle.std.proofs.lemmas.Option.{get_or_from_slice_get}
use Rattle.ff_types.specs.Pairs.{pair_at}
use Rattle.ff_trans.specs.Rows.{IsRow, IsRowTo}
use Rattle.ff_trans.proofs.Marks.{are_numbered, row_done}
use Rattle.ff_trans.proofs.overlaps.take_pair.Goals as goal

pub mark_row-reach-requires-clause-numbered : goal.mark_row-reach-requires-clause-numbered
mark_row-reach-requires-clause-numbered c = are_numbered c.args.cells.now (pair_at c.args.pairs.now c.args.n).0 (pair_at c.args.pairs.now c.args.n).1 c.args.list.now c.requires.both

pub take_row-requires-clause-row : goal.take_row-requires-clause-row
take_row-requires-clause-row c =
    let cells = c.args.cells.now in let pairs = c.args.pairs.now in let n = c.args.n in let list = c.args.list.now in
    let e : (pair_at pairs n).1 ≡ c.faces-f.result.1 = ap (λ (z : ℕ × ℕ). z.1) (get_or_from_slice_get pairs n c.faces-f.result (0, 0) c.faces-f.ensures.value) in
    let new = c.mark_row-reach.new.row in
    let row = c.mark_row-reach.ensures.row in
    subst (λ w. IsRow cells (pair_at pairs n).0 (pair_at pairs n).1 w new) (sym row.long)
    (row_done cells (pair_at pairs n).0 (pair_at pairs n).1 list c.requires.both (length c.args.row.now) new
    (subst (λ h. IsRowTo cells list (length list) h (length c.args.row.now) new) (sym e) row))

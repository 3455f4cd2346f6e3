use Rattle.std.proofs.Common.{◌≡◌, sym, ap, ◌∙◌, subst, length, []}
use Rattle.std.proofs.lemmas.List.{length-replicate}
use Rattle.ff_basics.proofs.NumberedLists.{length_in}
use Rattle.ff_basics.specs.NumberedLists.{lists_in}
use Rattle.ff_trans.specs.Rows.{AreIndexed}
use Rattle.ff_trans.proofs.Indexes.{index_none, whole}
use Rattle.ff_trans.proofs.index.index.Goals as goal

pub put_cells-requires-clause-empty : goal.put_cells-requires-clause-empty
put_cells-requires-clause-empty c =
    let e = ap lists_in c.as_mut_slice.ensures.value ∙ c.in_ok-lists.ensures in
    let n : length c.as_mut_slice.result.now ≡ c.args.width = sym (length_in c.as_mut_slice.result.now) ∙ ap length e ∙ length-replicate c.args.width [] in
    subst (λ w. AreIndexed c.args.cells.now 0 w (lists_in c.as_mut_slice.result.now)) (sym n) (index_none c.args.cells.now c.args.width (lists_in c.as_mut_slice.result.now) e)

pub returns : goal.returns
returns c =
    let e = ap lists_in c.as_mut_slice.ensures.value ∙ c.in_ok-lists.ensures in
    let n : length c.as_mut_slice.result.now ≡ c.args.width = sym (length_in c.as_mut_slice.result.now) ∙ ap length e ∙ length-replicate c.args.width [] in
    let made = c.in_ok-put_cells.ensures in
    let long = c.in_ok-lists.lists.ok.0 ∙ ap length (sym c.as_mut_slice.ensures.value) ∙ sym made.long ∙ length_in c.put_cells.new.lists in
    subst (λ ls. AreIndexed c.args.cells.now (length c.args.cells.now) c.args.width (lists_in ls)) (sym (whole c.in_ok-lists.lists.len c.put_cells.new.lists _ long))
    (subst (λ w. AreIndexed c.args.cells.now (length c.args.cells.now) w (lists_in c.put_cells.new.lists)) n made)

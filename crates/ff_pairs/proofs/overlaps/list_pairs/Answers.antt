use Rattle.std.proofs.Common.{◌≡◌, false, sym, ap, ◌∙◌, subst, length, ◌*◌, rules}
use Rattle.std.proofs.Math.ListN.{replicate}
use Rattle.std.proofs.lemmas.Result.{IfOk-weaker}
use Rattle.ff_pairs.specs.Tables.{IsListedTo}
use Rattle.ff_pairs.proofs.PairsOf.{clear, whole, pairs_from}
use Rattle.ff_pairs.proofs.overlaps.list_pairs.Goals as goal

pub returns : goal.returns
returns c =
    let start = c.as_mut_slice.ensures.value in
    let same : c.as_slice.result.now ≡ c.mark_cells.new.table = c.as_slice.ensures.value ∙ whole _ c.mark_cells.new.table _ (c.in_ok-table.table.ok.0 ∙ ap length (sym start) ∙ sym c.mark_cells.ensures.adds.long) in
    let w = c.width-width.result in
    let empty : c.in_ok-table.table.items ≡ replicate (w * w) false = search rules in
    IfOk-weaker c.list_rows.result _ _ (λ list s. pairs_from c.args.cells.now w c.as_mut_slice.result.now c.mark_cells.new.table list.items c.requires c.width-width.ensures.faces (λ k. clear _ _ (start ∙ empty) k) c.mark_cells.ensures.adds (subst (λ t. IsListedTo w t w 0 list.items) same s)) c.list_rows.ensures

use Rattle.std.proofs.Common.{◌∙◌, sym, ap, length, []}
use Rattle.std.proofs.lemmas.List.{length-replicate}
use Rattle.std.proofs.lemmas.Result.{IfOk-weaker}
use Rattle.ff_basics.proofs.NumberedLists.{length_in}
use Rattle.ff_trans.proofs.overlaps.no_cells.Goals as goal

pub returns : goal.returns
returns c = IfOk-weaker c.empty_lists.result _ _ (λ lists e. sym (length_in lists.items) ∙ ap length e ∙ length-replicate c.args.width []) c.empty_lists.ensures

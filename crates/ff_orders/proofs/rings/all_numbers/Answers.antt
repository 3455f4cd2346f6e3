use Rattle.std.proofs.Common.{ap, sym, ◌∙◌, ◌++◌, ◌∷◌, []}
use Rattle.ff_orders.proofs.GivenItems.{range_more}
use Rattle.ff_orders.proofs.rings.all_numbers.Goals as goal

pub loop-f-preserved : goal.loop-f-preserved
loop-f-preserved c = c.in_ok-push.ensures.pushed ∙ ap (λ xs. xs ++ c.loop-f.f ∷ []) c.loop-f.invariant ∙ sym (range_more c.loop-f.f)

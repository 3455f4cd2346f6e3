use Rattle.std.proofs.Common.{◌≡◌, List, Some, subst, sym, ap, ◌∙◌, slice_get}
use Rattle.std.proofs.lemmas.Option.{slice_get-get_or}
use Rattle.ff_propagate.specs.declared.parts.Part.{Part}
use Rattle.ff_trials.proofs.systems.board_text.Goals as goal

pub part_text-requires-clause-part : goal.part_text-requires-clause-part
part_text-requires-clause-part c = c.in_ok-found.ensures.each c.loop-k.k c.index-list-k.result
    (subst (λ (ps : List Part). slice_get ps c.loop-k.k ≡ Some c.index-list-k.result) c.as_slice-list.ensures
    (slice_get-get_or c.as_slice-list.result.now c.loop-k.k c.index-list-k.result c.loop-k-test.true ∙ ap (λ (p : Part). Some p) (sym c.index-list-k.is)))

pub part_text-requires-clause-touching : goal.part_text-requires-clause-touching
part_text-requires-clause-touching c = c.in_ok-found.ensures.touching c.loop-k.k c.index-list-k.result
    (subst (λ (ps : List Part). slice_get ps c.loop-k.k ≡ Some c.index-list-k.result) c.as_slice-list.ensures
    (slice_get-get_or c.as_slice-list.result.now c.loop-k.k c.index-list-k.result c.loop-k-test.true ∙ ap (λ (p : Part). Some p) (sym c.index-list-k.is)))

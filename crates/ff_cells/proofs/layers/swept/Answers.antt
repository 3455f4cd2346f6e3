use Rattle.std.proofs.Common.{subst, sym}
use Rattle.std.specs.List.{All}
use Rattle.std.specs.List.Sorted.{IsSorted}
use Rattle.std.specs.Ordering.{int_cmp}
use Rattle.std.proofs.lemmas.Result.{IfErr-weaker}
use Rattle.ff_whole.specs.declared.sizes.TheConstants.{POINT_SIZE}
use Rattle.ff_whole.specs.Sizes.{IsBelow}
use Rattle.ff_types.proofs.FoldedEdges.{images_near}
use Rattle.ff_cells.specs.Xs.{AreXs}
use Rattle.ff_cells.specs.Stopped.{AreStopped}
use Rattle.ff_cells.proofs.AllXs.{all_near}
use Rattle.ff_cells.proofs.Complete.{too_many_cells}
use Rattle.ff_cells.proofs.layers.swept.Goals as goal

pub strips-requires-clause-near : goal.strips-requires-clause-near
strips-requires-clause-near c =
    let xs = subst (λ ps. AreXs ps c.in_ok-xs.xs.items) c.as_slice.ensures c.in_ok-xs.ensures in
    subst (All (IsBelow POINT_SIZE)) (sym c.as_slice-3.ensures.value) (all_near xs (images_near c.requires.1))

pub strips-requires-clause-rising : goal.strips-requires-clause-rising
strips-requires-clause-rising c =
    subst (IsSorted int_cmp) (sym c.as_slice-3.ensures.value) c.in_ok-xs.ensures.sorted

pub returns-clause-refused : goal.returns-clause-refused
returns-clause-refused c =
    let bars = c.in_ok-bars.bars.items in
    let xs = c.in_ok-xs.xs.items in
    let are = subst (λ ps. AreXs ps xs) c.as_slice.ensures c.in_ok-xs.ensures in
    IfErr-weaker c.strips.result _ _ (λ why s pattern h. too_many_cells h bars c.in_ok-bars.ensures.are xs are why
    (subst (λ bs. AreStopped bs xs why) c.as_slice-2.ensures.value
    (subst (λ zs. AreStopped c.as_slice-2.result.now zs why) c.as_slice-3.ensures.value s)))
    c.strips.ensures.stopped

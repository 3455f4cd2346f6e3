use Rattle.std.proofs.Common.{◌≡◌, ◌<◌, length, sym, ap, ◌∙◌, subst, false}
use Rattle.std.proofs.Math.ListN.{length-replicate}
use Rattle.ff_planar.specs.Joining.{FirstLost}
use Rattle.ff_planar.proofs.joining.first_lost.Goals as goal

pub lost_of-requires-clause-below : goal.lost_of-requires-clause-below
lost_of-requires-clause-below c =
    let items = c.deref_mut.ensures.value ∙ c.in_ok-reached.ensures.items_if_clones_equal (λ y e. e) in
    let n : length c.deref_mut.result.now ≡ c.args.count = ap length items ∙ length-replicate c.args.count false in
    λ e f l h. subst (λ n. f < n) (sym n) (c.requires.below e f l h)

pub returns : goal.returns
returns c =
    let items = c.deref_mut.ensures.value ∙ c.in_ok-reached.ensures.items_if_clones_equal (λ y e. e) in
    let n : length c.deref_mut.result.now ≡ c.args.count = ap length items ∙ length-replicate c.args.count false in
    subst (λ n. FirstLost c.args.sides.now n c.lost_of.result) n c.lost_of.ensures

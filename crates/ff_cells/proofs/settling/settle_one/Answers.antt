use Rattle.std.proofs.Common.{◌∙◌, refl}
use Rattle.std.proofs.lemmas.List.Sorted.{IsPermutation-refl, IsPermutation-trans}
use Rattle.ff_cells.proofs.settling.settle_one.Goals as goal

pub loop-n-init : goal.loop-n-init
loop-n-init c = record { same = IsPermutation-refl c.args.v.now; long = refl }

pub loop-n-preserved : goal.loop-n-preserved
loop-n-preserved c = record {
  same = IsPermutation-trans _ _ _ c.loop-n.invariant.same c.swap.ensures.permutation;
  long = c.swap.ensures.len ∙ c.loop-n.invariant.long;
}

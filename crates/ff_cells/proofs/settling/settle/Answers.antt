use Rattle.std.proofs.Common.{◌∙◌, refl}
use Rattle.std.proofs.lemmas.List.Sorted.{IsPermutation-refl, IsPermutation-trans, length_permutation}
use Rattle.ff_cells.proofs.settling.settle.Goals as goal

pub loop-i-init : goal.loop-i-init
loop-i-init c = record { same = IsPermutation-refl c.args.v.now; long = refl }

pub loop-i-preserved : goal.loop-i-preserved
loop-i-preserved c = record {
  same = IsPermutation-trans _ _ _ c.loop-i.invariant.same c.settle_one.ensures;
  long = length_permutation _ _ c.settle_one.ensures ∙ c.loop-i.invariant.long;
}

use Rattle.std.proofs.Common.{rules, subst}
use Rattle.std.specs.List.Sorted.{IsPermutation}
use Rattle.std.proofs.lemmas.List.Sorted.{answers_always}
use Rattle.ff_lines.specs.Sweeps.{west}
use Rattle.ff_lines.proofs.Swept.{from_west}
use Rattle.ff_lines.proofs.sweeping.from_west.Goals as goal

pub returns : goal.returns
returns c = (
  subst (λ xs. IsPermutation xs c.sort_unstable_by_key.new.self.items) c.in_ok-sorted.ensures.items c.sort_unstable_by_key.ensures.permutation,
  from_west c.sort_unstable_by_key.new.self.items (c.sort_unstable_by_key.ensures.sorted west (answers_always _ _ _ (λ f a r g h. search rules))),
)

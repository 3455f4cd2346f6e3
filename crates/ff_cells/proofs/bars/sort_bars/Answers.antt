use Rattle.std.proofs.Common.{rules, subst, ◌∙◌}
use Rattle.std.specs.List.Sorted.{IsPermutation}
use Rattle.std.proofs.lemmas.List.{take_at}
use Rattle.std.proofs.lemmas.List.Sorted.{IsPermutation-trans, length_permutation}
use lib.IntN.{neg_ℤ}
use Rattle.std.proofs.lemmas.Cmp.{then_total}
use Rattle.ff_whole.specs.Meeting.{rise}
use Rattle.ff_cells.proofs.Fractions.{frac_total, sorted_from_sort_by}
use Rattle.ff_cells.specs.declared.bars.Bar.{Bar}
use Rattle.ff_cells.proofs.bars.sort_bars.Goals as goal

pub returns-clause-same : goal.returns-clause-same
returns-clause-same c =
    let v = c.args.v.now.items in let settled = c.settle.new.v in let w = c.sort_by.new.self.items in
    let long = length_permutation _ _ c.settle.ensures ∙ c.as_mut_slice.ensures.len in
    IsPermutation-trans v settled w
    (subst (λ xs. IsPermutation xs settled) c.as_mut_slice.ensures.value c.settle.ensures)
    (subst (λ xs. IsPermutation xs w) (take_at settled _ _ long) c.sort_by.ensures.permutation)

pub returns-clause-sorted : goal.returns-clause-sorted
returns-clause-sorted c =
    let by_height = frac_total (λ (b : Bar). rise b.line c.args.at.now.place) (λ b. b.line.b)
    (λ b. b.ok.rising.rises) in
    let by_slope = frac_total (λ (b : Bar). neg_ℤ b.line.a) (λ b. b.line.b) (λ b. b.ok.rising.rises) in
    sorted_from_sort_by _ _ _ (then_total by_height by_slope) _ _ c.sort_by.ensures.sorted
    (λ a r f k. (search rules, search rules))

use Rattle.std.proofs.Common.{◌∙◌, ap, sym, subst, length, arith, ◌+◌, sum_by}
use Rattle.ff_propagate.specs.Facts.{value_at}
use Rattle.ff_near.specs.Near.{AreAllBest}
use Rattle.ff_near.specs.declared.parts.PartBest.{PartBest}
use Rattle.ff_near.proofs.AllBest.{as_many_bests, total_within, all_best_are}
use Rattle.ff_near.proofs.answering.best_of.Goals as goal

pub total_cost-requires : goal.total_cost-requires
total_cost-requires c =
    let a = as_many_bests _ _ _ _ _ _ _ c.requires.searched c.requires.parts in
    let b = ap length c.as_slice.ensures.value in
    omega (arith, a, b, c.requires.few_parts)

pub overflow_add-distance : goal.overflow_add-distance
overflow_add-distance c =
    let a = total_within _ _ _ _ _ _ _ c.requires.searched c.requires.parts in
    let b = c.total_cost.ensures ∙ ap (sum_by (λ (x : PartBest). x.cost)) c.as_slice.ensures.value in
    omega (arith, a, b, c.decided-decided.ensures, c.requires.few_items)

pub overflow_cast-result : goal.overflow_cast-result
overflow_cast-result c =
    let a = total_within _ _ _ _ _ _ _ c.requires.searched c.requires.parts in
    let b = c.total_cost.ensures ∙ ap (sum_by (λ (x : PartBest). x.cost)) c.as_slice.ensures.value in
    omega (arith, a, b, c.decided-decided.ensures, c.requires.few_items)

pub returns : goal.returns
returns c =
    let b = c.total_cost.ensures ∙ ap (sum_by (λ (x : PartBest). x.cost)) c.as_slice.ensures.value in
    let best = all_best_are _ _ _ _ _ _ _ c.requires.searched c.requires.parts c.decided-decided.result (c.decided-decided.result + c.total_cost.result) c.decided-decided.ensures
    (ap (λ n. c.decided-decided.result + n) b) c.in_ok-values.values.items c.in_ok-values.ensures.long c.in_ok-values.ensures.has in
    record {
      outcomes = c.requires.searched.outcomes;
      are = c.requires.searched.are;
      answers = (
        c.requires.searched.gathered.none_is,
        c.requires.searched.gathered.unfinished_is,
        subst (λ l. AreAllBest c.args.case.now c.args.list.now (value_at c.args.facts.now) c.args.parts.now (c.decided-decided.result + c.total_cost.result) c.decided-decided.result l c.of-2.result) (sym c.of.ensures)
            (subst (λ v. AreAllBest c.args.case.now c.args.list.now (value_at c.args.facts.now) c.args.parts.now (c.decided-decided.result + c.total_cost.result) c.decided-decided.result c.args.sofar.bests.items v) (sym c.of-2.ensures) best),
      );
    }

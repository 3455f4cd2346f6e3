use Rattle.std.proofs.Common.{rules, ◌-◌, [], ◌∷◌, ◌++◌, ap, sym, subst, ◌∙◌, refl, length, arith}
use Rattle.ff_solve.proofs.Searching.{HasGathered, gone_on, smaller, ended_whole, ended_within, spent}
use Rattle.std.proofs.lemmas.List.{length-append}
use Rattle.ff_near.specs.Distance.{cost}
use Rattle.ff_near.specs.Progress.{HasLeast}
use Rattle.ff_near.proofs.Gathering.{found_long, found_within}
use Rattle.ff_near.proofs.searching.search_part.Goals as goal

pub search-init : goal.search-init
search-init c =
    let start : HasGathered c.args.case.now.system.constraints c.args.facts.now c.args.part.now.vars c.args.budget c.in_ok-search.search [] = search rules in
    ([], start, record { counted = c.none-least.ensures.count; least_are = c.none-least.ensures.least _ })

pub cost-cost-requires-clause-as_many : goal.cost-cost-requires-clause-as_many
cost-cost-requires-clause-as_many c =
    let inv = c.search.invariant in
    let more = gone_on _ _ _ _ _ _ _ _ _ inv.1 c.advance.ensures.stands c.advance.ensures.same (ap (λ n. c.args.budget - n) c.used.ensures) c.in_ok-values.ensures.advances c.in-Found.values c.in-Found.is (inv.0 ++ c.in-Found.values ∷ []) refl in
    ap length c.as_slice-in-Found.ensures ∙ found_long _ _ _ _ _ _ more _ inv.0 refl ∙ sym (ap length c.as_slice.ensures)

pub note-requires : goal.note-requires
note-requires c =
    let inv = c.search.invariant in
    let more = gone_on _ _ _ _ _ _ _ _ _ inv.1 c.advance.ensures.stands c.advance.ensures.same (ap (λ n. c.args.budget - n) c.used.ensures) c.in_ok-values.ensures.advances c.in-Found.values c.in-Found.is (inv.0 ++ c.in-Found.values ∷ []) refl in
    let within = found_within _ _ _ _ _ _ more in
    let long = length-append inv.0 (c.in-Found.values ∷ []) in
    record { room = omega (arith, within, long, inv.2.counted, c.requires.budget) }

pub search-smaller : goal.search-smaller
search-smaller c = smaller _ _ _ _ _ _ _ _ _ c.search.invariant.1 c.advance.ensures.stands c.advance.ensures.same (ap (λ n. c.args.budget - n) c.used.ensures) c.in_ok-values.ensures.advances c.in-Found.values c.in-Found.is

pub search-preserved : goal.search-preserved
search-preserved c =
    let inv = c.search.invariant in
    let more = gone_on _ _ _ _ _ _ _ _ _ inv.1 c.advance.ensures.stands c.advance.ensures.same (ap (λ n. c.args.budget - n) c.used.ensures) c.in_ok-values.ensures.advances c.in-Found.values c.in-Found.is (inv.0 ++ c.in-Found.values ∷ []) refl in
    let long = length-append inv.0 (c.in-Found.values ∷ []) in (
      inv.0 ++ c.in-Found.values ∷ [],
      more,
      record {
        counted = omega (arith, c.note.ensures.count, long, inv.2.counted);
        least_are = c.in_ok-note-in-Found.ensures.least _ inv.0 inv.2.counted (c.cost-cost.ensures ∙ ap (λ p. cost c.args.case.now.pairs c.args.list.now p c.as_slice-in-Found.result.now) c.as_slice.ensures ∙ ap (λ v. cost c.args.case.now.pairs c.args.list.now c.args.part.now.vars v) c.as_slice-in-Found.ensures) inv.2.least_are;
      },
    )

pub returns-in-Finished : goal.returns-in-Finished
returns-in-Finished c =
    let inv = c.search.invariant in
    let ends = ended_within _ _ _ _ _ _ _ _ _ inv.1 c.advance.ensures.stands c.advance.ensures.same (ap (λ n. c.args.budget - n) c.used.ensures) c.in_ok-values.ensures.advances c.in-Finished.is in
    let whole = ended_whole _ _ _ _ _ _ _ _ _ inv.1 c.advance.ensures.stands c.advance.ensures.same (ap (λ n. c.args.budget - n) c.used.ensures) c.in_ok-values.ensures.advances c.in-Finished.is in
    c.finished.ensures c.args.case.now c.args.list.now _ c.args.budget c.args.part.now.vars ends (subst (λ l. HasLeast (cost c.args.case.now.pairs c.args.list.now c.args.part.now.vars) l c.search.least.count c.search.least.cost c.search.least.best.items c.search.least.first) whole inv.2)

pub returns-in-Spent : goal.returns-in-Spent
returns-in-Spent c = spent _ _ _ _ _ _ _ _ _ c.search.invariant.1 c.advance.ensures.stands c.advance.ensures.same (ap (λ n. c.args.budget - n) c.used.ensures) c.in_ok-values.ensures.advances c.in-Spent.is

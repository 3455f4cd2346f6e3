use Rattle.std.proofs.Common.{◌≡◌, ◌+◌, ◌≤◌, ◌<◌, ◌++◌, ℕ, rules, sym, ap, ◌∙◌, subst, arith, length, take, drop, replicate, get_or, List, Some, Option}
use Rattle.std.proofs.lemmas.Grind.{common_steps}
use Rattle.ff_types.specs.declared.cases.Case.{Case}
use Rattle.ff_propagate.specs.declared.facts.Fact.{Fact}
use Rattle.ff_propagate.specs.Facts.{fact_at}
use Rattle.ff_propagate.specs.FactRule.{MeetsFactRule}
use Rattle.ff_propagate.specs.declared.words.Held.{Held}
use Rattle.ff_propagate.specs.Words.{held, held_of}
use Rattle.ff_board.specs.Answer.{fact_of, fact_seen}
use Rattle.ff_board.specs.Facts.{Grows, vars_in, cons_in, FactOk}
use Rattle.ff_board.specs.Standing.{top_level}
use Rattle.ff_board.specs.declared.opening.Opening.{Opening}
use Rattle.ff_board.proofs.Examined.{held_by}
use Rattle.ff_board.proofs.Steps.{none_there, zeros, fact_inside}
use Rattle.ff_board.proofs.board.EpochBoard.collect.Goals as goal

pub gather-requires-clause-words : goal.gather-requires-clause-words
gather-requires-clause-words c =
    let e : c.as_mut_slice.result.now ≡ replicate {A = ℕ} c.vars-vars.result 0 = c.as_mut_slice.ensures.value ∙ c.in_ok-words.ensures.items_if_clones_equal (λ y e. e) in (
      omega (arith, ap length c.as_mut_slice.ensures.value, c.in_ok-words.words.ok.0, c.in_ok-words.ensures.len, c.vars-vars.ensures),
      λ v h p. absurd (none_there c.as_mut_slice.result.now v h (ap (λ l. get_or l v 0) e ∙ zeros c.vars-vars.result v) p),
    )

pub gather-requires-clause-facts : goal.gather-requires-clause-facts
gather-requires-clause-facts c = omega (arith, ap length c.as_mut_slice-2.ensures.value, c.in_ok-facts.facts.ok.0, c.in_ok-facts.ensures.len, c.vars-vars.ensures)

pub returns-clause-rule : goal.returns-clause-rule
returns-clause-rule c = let o = c.args.self.now.opening in
    let same : c.of-2.result ≡ c.gather.new.facts = grind (arith, common_steps) in
    subst (λ (fs : List (Option Fact)). MeetsFactRule (vars_in o) (cons_in o) o.givens fs) (sym same) c.gather.ensures.rule

pub returns-clause-found : goal.returns-clause-found
returns-clause-found c v l =
    let same : c.of-2.result ≡ c.gather.new.facts = grind (arith, common_steps) in
    ap (λ (fs : List (Option Fact)). fact_at fs v) same ∙ c.gather.ensures.found v l

pub returns-clause-low : goal.returns-clause-low
returns-clause-low c v f at = let o = c.args.self.now.opening in let fs = c.gather.new.facts in
    let same : c.of-2.result ≡ fs = grind (arith, common_steps) in
    let here : fact_at fs v ≡ Some f = ap (λ (xs : List (Option Fact)). fact_at xs v) (sym same) ∙ at in
    let inside : v < vars_in o = omega (arith, fact_inside fs v f here, c.gather.ensures.rule.wide) in
    let h = held_by (held c.gather.new.seat.view.seen v) f (sym (c.gather.ensures.found v inside) ∙ here) in
    let low = c.is_learned.ensures.low v h.0 h.1 in
    let of = ap (λ (x : Opening). top_level x.facts + vars_in x) (c.gather.ensures.seat.1 ∙ c.requires.seat.1) in
    omega (arith, low, of, ap (λ (x : Fact). x.level) h.2)

use Rattle.std.proofs.Common.{rules, ◌≡◌, ◌+◌, ◌^◌, ◌<◌, ◌≤◌, refl, List, ℕ, sym, ap, ◌∙◌, subst, arith, length, Option}
use Rattle.std.specs.Arc.{arc_value}
use Rattle.ff_tables.specs.declared.givens.Given.{Given}
use Rattle.ff_propagate.specs.declared.facts.Fact.{Fact}
use Rattle.ff_types.specs.declared.cases.Case.{Case}
use Rattle.ff_board.specs.Facts.{vars_in}
use Rattle.ff_board.specs.Opened.{WordsOf}
use Rattle.ff_board.specs.Rule.{Stand}
use Rattle.ff_board.specs.Standing.{GivensStand, top_level}
use Rattle.ff_board.specs.declared.opening.Opening.{Opening}
use Rattle.ff_board.proofs.Openings.{stand, givens_stand, room}
use Rattle.ff_propagate.specs.FactRule.{MeetsFactRule}
use Rattle.ff_tables.specs.declared.terms.Constraint.{Constraint}
use Rattle.ff_board.specs.Due.{AreDue}
use Rattle.ff_board.proofs.starting.open_with.Goals as goal

pub words_of-requires-clause-room : goal.words_of-requires-clause-room
words_of-requires-clause-room c = let k = arc_value c.args.case in let q = c.requires.few in let a : 2 ^ 22 ≡ 4194304 = refl in let b : 2 ^ 29 ≡ 536870912 = refl in
    room k.system.vars k.system.constraints c.args.givens.now c.args.facts.now c.requires.rule (omega (arith, a, q.constraints)) (omega (arith, a, q.givens)) (let l = c.requires.few.low in omega (arith, b, l))

pub invariant_of-opening-clause-wide : goal.invariant_of-opening-clause-wide
invariant_of-opening-clause-wide c = ap length c.in_ok-copy-2.ensures ∙ c.requires.rule.wide

pub invariant_of-opening-clause-stand : goal.invariant_of-opening-clause-stand
invariant_of-opening-clause-stand c = let k = arc_value c.args.case in
    subst (λ (z : List Given × List (Option Fact)). GivensStand z.0 z.1) (λ i. (sym c.in_ok-copy.ensures i, sym c.in_ok-copy-2.ensures i))
    (givens_stand k.system.vars k.system.constraints c.args.givens.now c.args.facts.now c.requires.rule c.requires.agree)

pub invariant_of-opening-clause-few : goal.invariant_of-opening-clause-few
invariant_of-opening-clause-few c = let a : 2 ^ 22 ≡ 4194304 = refl in omega (arith, a, c.requires.few.constraints)

pub invariant_of-opening-clause-low : goal.invariant_of-opening-clause-low
invariant_of-opening-clause-low c = let b : 2 ^ 29 ≡ 536870912 = refl in let d : 2 ^ 18 ≡ 262144 = refl in
    let e = ap top_level c.in_ok-copy-2.ensures in omega (arith, b, d, e, c.requires.few.low, c.requires.few.vars)

pub board_of-requires-clause-stand : goal.board_of-requires-clause-stand
board_of-requires-clause-stand c = let k = arc_value c.args.case in let same = c.deref.ensures in let ws = c.as_slice-2.result.now in
    let wide : length ws ≡ k.system.vars + 1 = ap length c.as_slice-2.ensures.value ∙ (c.in_ok-words.ensures.0 ∙ ap (λ (z : Case). z.system.vars + 1) same) in
    let rule = subst (λ (z : List Given × List (Option Fact)). MeetsFactRule k.system.vars k.system.constraints z.0 z.1)
    (λ i. (sym c.in_ok-copy.ensures i, sym c.in_ok-copy-2.ensures i)) c.requires.rule in
    let words = subst (λ (z : Case × (List (Option Fact) × List ℕ)). WordsOf z.0.system.constraints z.1.0 z.0.system.vars z.1.1)
    (λ i. (same i, (sym c.in_ok-copy-2.ensures i, sym c.as_slice-2.ensures.value i))) c.in_ok-words.ensures.1 in
    stand _ ws wide rule words

pub board_of-requires-clause-due : goal.board_of-requires-clause-due
board_of-requires-clause-due c = let same = c.deref.ensures in
    subst (λ (z : List Constraint × List (Option Fact)). AreDue z.0 z.1 (length z.0) c.in_ok-due.due.items)
    (λ i. ((same i).system.constraints, sym c.in_ok-copy-2.ensures i)) (search rules)

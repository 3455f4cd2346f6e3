use Rattle.std.proofs.Common.{rules, ◌≡◌, ◌<◌, ℕ, ◌∙◌, sym, ap, subst}
use Rattle.std.specs.Arc.{arc_value}
use Rattle.ff_propagate.specs.Facts.{fact_at}
use Rattle.ff_propagate.specs.FactRule.{MeetsFactRule}
use Rattle.ff_board.specs.declared.opening.Opening.{Opening}
use Rattle.ff_board.specs.Answer.{fact_seen}
use Rattle.ff_board.specs.Ends.{SweepEnds}
use Rattle.ff_board.specs.Facts.{vars_in, cons_in}
use Rattle.ff_board.specs.Views.{BoardView}
use Rattle.ff_desk.proofs.Examined.{swept_to}
use Rattle.ff_desk.proofs.examining.examine.Goals as goal

pub ended-requires-clause-swept : goal.ended-requires-clause-swept
ended-requires-clause-swept c =
    let b = arc_value c.loan.inside.board in
    let fs = c.in_ok-facts.facts in
    let d1 : c.deref.result.now ≡ b = search rules in
    let d2 : c.deref-2.result.now ≡ b = search rules in
    let d3 : c.deref-3.result.now ≡ b = search rules in
    let op : c.opening-opening.result.now ≡ b.opening = c.opening-opening.ensures ∙ ap (λ (x : BoardView). x.opening) d3 in
    let d4 : c.deref-4.result.now ≡ arc_value c.opening-opening.result.now.case = search rules in
    swept_to c.facts_are_in_the_closure.ensures b.opening c.deref-4.result.now c.opening-opening.result.now.givens c.sweep-swept.new.seat.view.seen c.collect.new.seat.view fs c.sweep-swept.result
    (sym (d4 ∙ ap (λ (o : Opening). arc_value o.case) op)) (ap (λ (o : Opening). o.givens) (sym op))
    (subst (λ (x : BoardView). SweepEnds x.opening c.sweep-swept.new.seat.view.seen c.sweep-swept.result) d1 c.sweep-swept.ensures.sweep)
    (c.in_ok-facts.ensures.seat.1 ∙ c.sweep-swept.ensures.seat.1 ∙ c.loan.invariant.seat_at.1) c.in_ok-facts.ensures.seat.2 c.is_learned.ensures
    (subst (λ (x : BoardView). MeetsFactRule (vars_in x.opening) (cons_in x.opening) x.opening.givens fs) d2 c.in_ok-facts.ensures.rule)
    (subst (λ (x : BoardView). (v : ℕ) → v < vars_in x.opening → fact_at fs v ≡ fact_seen c.collect.new.seat.view v) d2 c.in_ok-facts.ensures.found)

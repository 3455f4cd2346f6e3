use Rattle.std.proofs.Common.{◌≡◌, ◌+◌, ◌<◌, ◌≤◌, ℕ, suc, rules, sym, ap, ◌∙◌, subst, arith, List, set, length, Some, eq-eqb, ne_eqb, add-one}
use mathlib.Core.Logic.{dite}
use native.Mathlib.Decide.{ℕ_discrete}
use Rattle.ff_types.specs.declared.cases.Case.{Case}
use Rattle.ff_propagate.specs.declared.facts.Fact.{Fact}
use Rattle.ff_propagate.specs.Facts.{fact_at}
use Rattle.ff_propagate.specs.declared.words.Held.{Held}
use Rattle.ff_board.specs.declared.opening.Opening.{Opening}
use Rattle.ff_propagate.specs.Words.{held}
use Rattle.ff_board.specs.Facts.{Grows, AllIn, vars_in}
use Rattle.ff_board.specs.Rule.{set_below}
use Rattle.ff_board.proofs.Counts.{below_set, below_most, one_of, one_zero, one_some}
use Rattle.ff_board.proofs.Steps.{fact_inside}
use Rattle.ff_board.proofs.Going.{goes_further}
use Rattle.ff_board.proofs.board.EpochBoard.words_set.Goals.{then-found-ne0, else-found-ne0}
use Rattle.ff_board.proofs.board.EpochBoard.words_set.Goals as goal

pub loop-v-preserved : goal.loop-v-preserved
loop-v-preserved c = let l = c.loop-v in let was = l.invariant in let look = c.look-found.ensures.look in let n = c.look-found.result in
    let e : set_below (l.v + 1) c.look-found.new.seat.view.seen ≡ set_below l.v l.seat.view.seen + one_of n = ap (set_below (l.v + 1)) (ap (λ d. d.seen) look.is) ∙ (ap (λ k. set_below k (set l.seat.view.seen l.v n)) (add-one l.v) ∙ below_set l.v l.seat.view.seen n look.wide) in
    let now : c.if-found-ne0.count ≡ l.count + one_of n = elim c.if-found-ne0.branch [ then-found-ne0 w ↦ omega (arith, w.count-is, one_some n w.if-found-ne0.true) | else-found-ne0 w ↦ omega (arith, w.count-is, one_zero n w.if-found-ne0.false) ] in
    let small : one_of n ≤ 1 = elim c.if-found-ne0.branch [ then-found-ne0 w ↦ omega (arith, one_some n w.if-found-ne0.true) | else-found-ne0 w ↦ omega (arith, one_zero n w.if-found-ne0.false) ] in
    let o : l.seat.view.opening ≡ c.args.self.now.opening = was.goes.1 ∙ c.requires.seat.1 in
    record {
      goes = goes_further c.args.seat.now l.seat c.look-found.new.seat was.goes c.look-found.ensures.seat;
      counted = now ∙ (ap (λ k. k + one_of n) was.counted ∙ sym e);
      small = omega (arith, was.small);
      opened = λ u f b p. dite (ℕ_discrete u l.v)
          (λ z. let t = look.opened f (ap (λ (x : Opening). fact_at x.facts l.v) o ∙ (ap (fact_at c.args.self.now.opening.facts) (sym z) ∙ p)) in (t.0, ap (held c.look-found.new.seat.view.seen) z ∙ (look.here ∙ t.1)))
          (λ d. let t = was.opened u f (omega arith) p in (t.0, look.kept u _ t.1));
    }

pub returns-clause-opened : goal.returns-clause-opened
returns-clause-opened c u f p = c.loop-v.invariant.opened u f (let b = fact_inside c.args.self.now.opening.facts u f p in omega (arith, c.args.self.now.opening.wide, c.vars-v-end.ensures)) p

use Rattle.std.proofs.Common.{◌≡◌, ◌≢◌, ◌+◌, ◌<◌, ◌≤◌, ℕ, rules, refl, sym, ap, ◌∙◌, subst, arith, inl, inr, ⊎_elim, List, length, length-set, set, get_or, get_or-set_same, get_or-set_other, Option, Some, None, le_trans}
use mathlib.Core.Logic.{dite}
use native.Mathlib.Decide.{ℕ_discrete}
use Rattle.ff_tables.specs.declared.orders.Order.{Order}
use Rattle.ff_tables.specs.Orders.{term_at}
use Rattle.ff_propagate.specs.declared.words.Held.{Held}
use Rattle.ff_propagate.specs.Words.{held}
use Rattle.ff_board.specs.Facts.{Grows}
use Rattle.ff_board.specs.Found.{value_in}
use Rattle.ff_board.specs.Swept.{Base}
use Rattle.ff_board.proofs.Sweeps.{base_grows}
use Rattle.ff_board.proofs.Going.{goes_further}
use Rattle.ff_board.proofs.board.EpochBoard.terms.Goals as goal

pub loop-j-preserved : goal.loop-j-preserved
loop-j-preserved c =
    let l = c.loop-j in let was = l.invariant in let one = c.one_term-value.ensures in let ts = c.args.terms.now in let j = l.j in let v = c.one_term-value.result.0 in
    let new : List ℕ = c.one_term-value.new.seat.view.seen in
    let wide : j < length l.values = omega (arith, was.wide, c.requires.wide) in
    record {
      goes = goes_further c.args.seat.now l.seat c.one_term-value.new.seat was.goes one.seat;
      wide = length-set l.values j v ∙ was.wide;
      before = λ i s lt b. dite (ℕ_discrete i j)
          (λ e. ap (λ (k : ℕ). get_or (set l.values j v) k None) e ∙ (get_or-set_same l.values j v None wide ∙ one.before s (subst (λ (z : ℕ). Base c.args.self.now.opening l.seat.view.seen (term_at ts z).var s) e (base_grows c.args.self.now.opening _ _ (term_at ts i).var s was.goes.2 b))))
          (λ n. get_or-set_other l.values j i v None n ∙ was.before i s (omega arith) b);
      after = λ i s lt f. dite (ℕ_discrete i j)
          (λ e. let is : v ≡ Some s = sym (get_or-set_same l.values j v None wide) ∙ (ap (λ (k : ℕ). get_or (set l.values j v) k None) (sym e) ∙ f) in
          let h = one.after s is in (h.0, ap (λ (k : ℕ). held new (term_at ts k).var) e ∙ h.1, h.2, h.3))
          (λ n. let h = was.after i s (omega arith) (sym (get_or-set_other l.values j i v None n) ∙ f) in (h.0, one.seat.2 _ _ h.1, h.2, le_trans h.3 one.top.0));
      bound = one.top.1;
      level = ⊎_elim (λ e. ⊎_elim (λ z. inl (e ∙ z)) (λ t. inr (t.0, t.1, one.seat.2 _ _ t.2, t.3 ∙ sym e)) was.level) (λ t. inr ((term_at ts j).var, t.0, t.1, t.2)) one.level;
    }

pub returns-clause-before : goal.returns-clause-before
returns-clause-before c j s l b = c.loop-j.invariant.before j s (omega arith) b

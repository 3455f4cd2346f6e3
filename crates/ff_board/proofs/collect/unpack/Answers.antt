use Rattle.std.proofs.Common.{ℕ, ◌≡◌, ◌+◌, ◌<◌, length, length-set, set, get_or, get_or-set_same, get_or-set_other, rules, sym, ap, ◌∙◌, subst, arith, None}
use mathlib.Core.Logic.{dite}
use native.Mathlib.Decide.{ℕ_discrete}
use Rattle.ff_propagate.specs.Facts.{fact_at}
use Rattle.ff_propagate.specs.Words.{held}
use Rattle.ff_board.specs.Answer.{fact_of}
use Rattle.ff_board.proofs.collect.unpack.Goals as goal

pub loop-v-preserved : goal.loop-v-preserved
loop-v-preserved c = let l = c.loop-v in let was = l.invariant in let x = c.fact_in.result in record {
  wide = length-set l.facts l.v x ∙ was.wide;
  done = λ u b. dite (ℕ_discrete u l.v)
      (λ e. ap (λ (k : ℕ). get_or (set l.facts l.v x) k None) e ∙ (get_or-set_same l.facts l.v x None (omega (arith, was.wide, c.requires)) ∙ (c.fact_in.ensures ∙ ap (λ (k : ℕ). fact_of (held c.args.words.now k)) (sym e))))
      (λ n. get_or-set_other l.facts l.v u x None n ∙ was.done u (omega arith));
}

pub returns-clause-facts : goal.returns-clause-facts
returns-clause-facts c v l = c.loop-v.invariant.done v (omega arith)

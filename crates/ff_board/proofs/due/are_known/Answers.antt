use Rattle.std.proofs.Common.{◌≡◌, ◌+◌, ◌<◌, ℕ, sym, ap, ◌∙◌, arith}
use mathlib.Core.Logic.{dite}
use native.Mathlib.Decide.{ℕ_discrete}
use Rattle.ff_tables.specs.Orders.{term_at}
use Rattle.ff_propagate.specs.Facts.{value_at, seen}
use Rattle.ff_board.proofs.due.are_known.Goals as goal

pub loop-j-preserved : goal.loop-j-preserved
loop-j-preserved c = record {
  known = λ p l. dite (ℕ_discrete p c.loop-j.j)
      (λ e. (c.in-Some.fact.value, ap (λ (k : ℕ). value_at c.args.facts.now (term_at c.args.terms.now k).var) e ∙ ap seen (sym c.in-Some.ensures)))
      (λ n. c.loop-j.invariant.known p (omega arith));
}

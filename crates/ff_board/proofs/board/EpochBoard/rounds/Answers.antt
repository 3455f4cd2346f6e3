use Rattle.std.proofs.Common.{◌≡◌, ◌<◌, ◌≤◌, ℕ, rules, sym, ap, ◌∙◌, subst, arith, length, ⊎_elim, List, Some, true, false}
use mathlib.Core.Logic.{dite}
use native.Mathlib.Decide.{dec_lt}
use Rattle.ff_propagate.specs.declared.words.Held.{Held}
use Rattle.ff_propagate.specs.Words.{held, held_of}
use Rattle.ff_board.specs.Facts.{Grows, vars_in}
use Rattle.ff_board.specs.Rule.{words_set}
use Rattle.ff_board.proofs.Steps.{words_most, below_length}
use Rattle.ff_board.proofs.Going.{goes_further}
use Rattle.ff_board.proofs.board.EpochBoard.rounds.Goals as goal

pub rounds-smaller : goal.rounds-smaller
rounds-smaller c = let a = words_most c.round.new.words in let n : length c.round.new.words ≡ vars_in c.args.self.now.opening = search rules in let m : words_set c.rounds.words < words_set c.round.new.words = c.round.ensures.more (search rules) in omega arith

pub rounds-preserved : goal.rounds-preserved
rounds-preserved c = let e = c.round.ensures in let was = c.rounds.invariant in record {
  goes = goes_further c.args.seat.now c.rounds.seat c.round.new.seat was.goes e.seat;
  covers = λ v h p. let n : length c.round.new.words ≡ vars_in c.args.self.now.opening = search rules in let l = below_length c.round.new.words v h p in sym (e.same v (omega arith)) ∙ p;
}

pub returns-clause-rule : goal.returns-clause-rule
returns-clause-rule c v h l p =
    let e = c.round.ensures in let was = c.rounds.invariant in
    let same : c.round.new.words ≡ c.rounds.words = ⊎_elim (λ t. absurd (search rules)) (λ q. q) e.quiet in
    e.sound (omega arith) v h (sym (e.same v l) ∙ p) (e.backed v h (was.covers v h (ap (λ w. held w v) (sym same) ∙ p)))

use Rattle.std.proofs.Common.{◌≡◌, ◌<◌, ℕ, rules, sym, ap, ◌∙◌, subst, arith, length, List, Some}
use Rattle.ff_propagate.specs.Facts.{fact_at}
use Rattle.ff_propagate.specs.Words.{held}
use Rattle.ff_board.specs.Answer.{fact_of}
use Rattle.ff_board.specs.Facts.{vars_in}
use Rattle.ff_board.proofs.Collected.{meets}
use Rattle.ff_board.proofs.board.EpochBoard.gather.Goals as goal

pub returns-clause-rule : goal.returns-clause-rule
returns-clause-rule c = let o = c.args.self.now.opening in let e = c.rounds.ensures in
    let words : length c.rounds.new.words ≡ vars_in o = search rules in
    meets o c.rounds.new.seat.view.seen c.unpack.new.facts (c.unpack.ensures.wide ∙ c.requires.facts) (λ v l. c.unpack.ensures.facts v (omega (arith, l, words)) ∙ ap fact_of (e.found v l))
    (λ v h l p. e.rule v h l (e.found v l ∙ p)) e.opened c.args.self.now.opening.stand c.args.self.now.opening.wide

pub returns-clause-found : goal.returns-clause-found
returns-clause-found c v l = let o = c.args.self.now.opening in
    let words : length c.rounds.new.words ≡ vars_in o = search rules in
    c.unpack.ensures.facts v (omega (arith, l, words)) ∙ ap fact_of (c.rounds.ensures.found v l)

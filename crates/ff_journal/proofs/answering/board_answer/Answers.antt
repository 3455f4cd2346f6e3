use Rattle.std.proofs.Common.{subst, sym}
use Rattle.ff_journal.specs.Answering.{IsAnswerBy}
use Rattle.ff_journal.proofs.answering.board_answer.Goals as goal

pub returns-in_ok-told-in-Board : goal.returns-in_ok-told-in-Board
returns-in_ok-told-in-Board c = subst (λ q. IsAnswerBy c.args.case.now c.args.facts.now c.args.epoch q c.in_ok-told-in-Board.told) (sym c.in-Board.is) c.in_ok-told-in-Board.ensures

pub returns-in_ok-told-in-Peek : goal.returns-in_ok-told-in-Peek
returns-in_ok-told-in-Peek c = subst (λ q. IsAnswerBy c.args.case.now c.args.facts.now c.args.epoch q c.in_ok-told-in-Peek.told) (sym c.in-Peek.is) c.in_ok-told-in-Peek.ensures

pub returns-in_ok-told-in-Parts : goal.returns-in_ok-told-in-Parts
returns-in_ok-told-in-Parts c = subst (λ q. IsAnswerBy c.args.case.now c.args.facts.now c.args.epoch q c.in_ok-told-in-Parts.told) (sym c.in-Parts.is) c.in_ok-told-in-Parts.ensures

pub returns-in_ok-told-in-Why : goal.returns-in_ok-told-in-Why
returns-in_ok-told-in-Why c = subst (λ q. IsAnswerBy c.args.case.now c.args.facts.now c.args.epoch q c.in_ok-told-in-Why.told) (sym c.in-Why.is)
    (c.in_ok-told-in-Why.ensures.why, c.in_ok-told-in-Why.ensures.names)

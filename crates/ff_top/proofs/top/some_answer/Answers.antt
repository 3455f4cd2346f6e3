use Rattle.ff_top.proofs.Totality.{some_answer}
use Rattle.ff_top.proofs.top.some_answer.Goals as goal

pub returns : goal.returns
returns c = some_answer c.some_judgement.ensures c.some_drawing.ensures c.some_summary.ensures

use Rattle.ff_made.proofs.SomeSummary.{some_answer}
use Rattle.ff_made.proofs.laws.some_summary.Goals as goal

pub returns : goal.returns
returns c = some_answer c.accordion_is_one.ensures.some

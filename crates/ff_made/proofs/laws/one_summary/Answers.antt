use Rattle.ff_made.proofs.OneSummary.{one_answer}
use Rattle.ff_made.proofs.laws.one_summary.Goals as goal

pub returns : goal.returns
returns c = one_answer c.accordion_is_one.ensures.one

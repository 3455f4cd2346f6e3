use Rattle.ff_judged.proofs.SomeJudgement.{some_answer}
use Rattle.ff_judged.proofs.laws.some_judgement.Goals as goal

pub returns : goal.returns
returns c = some_answer c.check_is_one.ensures c.texts_are_one.ensures c.some_verdict.ensures c.accepted_logs_refute.ensures

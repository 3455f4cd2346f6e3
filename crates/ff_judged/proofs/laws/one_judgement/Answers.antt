use Rattle.ff_judged.proofs.OneJudgement.{one_answer}
use Rattle.ff_judged.proofs.laws.one_judgement.Goals as goal

pub returns : goal.returns
returns c = one_answer c.check_is_one.ensures c.texts_are_one.ensures c.one_verdict.ensures

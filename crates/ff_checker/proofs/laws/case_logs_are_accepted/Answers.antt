use Rattle.ff_checker.proofs.CaseGrounds.{accepted}
use Rattle.ff_checker.proofs.laws.case_logs_are_accepted.Goals as goal

pub returns : goal.returns
returns c = λ pattern faces folded h case pins lines is log. accepted h case is pins lines log

use Rattle.ff_answers.proofs.Reports.{cases_have_reports}
use Rattle.ff_answers.proofs.laws.cases_have_reports.Goals as goal

pub returns : goal.returns
returns c = cases_have_reports

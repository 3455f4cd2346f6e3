use Rattle.ff_solve.proofs.OneReport.{report_is_one, summary_is_one}
use Rattle.ff_solve.proofs.laws.report_is_one.Goals as goal

pub returns-clause-report : goal.returns-clause-report
returns-clause-report c = report_is_one

pub returns-clause-summary : goal.returns-clause-summary
returns-clause-summary c = summary_is_one

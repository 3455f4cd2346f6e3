use Rattle.ff_solve.proofs.Boards.{clash_is_report}
use Rattle.ff_solve.proofs.reports.report_of.Goals as goal

pub returns-in-Clash : goal.returns-in-Clash
returns-in-Clash c = clash_is_report _ _ _ _ _ c.report_clash.ensures

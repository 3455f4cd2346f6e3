use Rattle.ff_solve.proofs.Boards.{board_is_summary, clash_is_summary}
use Rattle.ff_solve.proofs.summaries.summary_of.Goals as goal

pub returns-in-Board : goal.returns-in-Board
returns-in-Board c = board_is_summary _ _ _ _ _ _ c.board_summary.ensures

pub returns-in-Clash : goal.returns-in-Clash
returns-in-Clash c = clash_is_summary _ _ _ _ _ _ c.clash_summary.ensures

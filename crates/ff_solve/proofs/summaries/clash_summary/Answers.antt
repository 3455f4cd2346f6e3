use Rattle.std.proofs.Common.{refl}
use Rattle.ff_solve.proofs.summaries.clash_summary.Goals as goal

pub returns : goal.returns
returns c = record { clashes = c.requires.2; ends = refl; is = c.in_ok-summary_text.ensures }

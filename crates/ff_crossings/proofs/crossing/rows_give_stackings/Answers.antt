use Rattle.ff_types.specs.Sheets.{sheet_of}
use Rattle.ff_crossings.proofs.BorderLaws.{folded_laws}
use Rattle.ff_crossings.proofs.RowStackings.{rows_stack}
use Rattle.ff_crossings.proofs.crossing.rows_give_stackings.Goals as goal

pub returns : goal.returns
returns c = λ pattern faces folded h above orders rows.
    rows_stack (sheet_of pattern faces folded) (folded_laws pattern faces folded h) above orders rows

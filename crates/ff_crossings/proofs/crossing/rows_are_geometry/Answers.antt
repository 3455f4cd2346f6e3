use Rattle.ff_types.specs.Sheets.{sheet_of}
use Rattle.ff_crossings.proofs.BorderLaws.{folded_laws}
use Rattle.ff_crossings.proofs.CiteRows.{cites_have_rows}
use Rattle.ff_crossings.proofs.RowStackings.{rows_stack}
use Rattle.ff_crossings.proofs.crossing.rows_are_geometry.Goals as goal

pub returns : goal.returns
returns c = λ pattern faces folded h above. (
  (λ geo. (
    geo.stacking.orders,
    cites_have_rows (sheet_of pattern faces folded) (folded_laws pattern faces folded h) above geo,
  )),
  (λ both. rows_stack (sheet_of pattern faces folded)
      (folded_laws pattern faces folded h) above both.0 both.1),
)

use Rattle.ff_types.specs.Sheets.{sheet_of}
use Rattle.ff_crossings.proofs.BorderLaws.{folded_laws}
use Rattle.ff_crossings.proofs.CiteRows.{row_or_crossed, cites_have_rows}
use Rattle.ff_crossings.proofs.crossing.cites_give_rows.Goals as goal

pub returns-clause-crossed : goal.returns-clause-crossed
returns-clause-crossed c = λ pattern faces folded h above stacking.
    row_or_crossed (sheet_of pattern faces folded) (folded_laws pattern faces folded h) above stacking

pub returns-clause-holding : goal.returns-clause-holding
returns-clause-holding c = λ pattern faces folded h above geo.
    cites_have_rows (sheet_of pattern faces folded) (folded_laws pattern faces folded h) above geo

pub returns-clause-witnessed : goal.returns-clause-witnessed
returns-clause-witnessed c = λ pattern faces folded h above geo d w.
    cites_have_rows (sheet_of pattern faces folded) (folded_laws pattern faces folded h) above geo d
    ((folded_laws pattern faces folded h).witnessed d w)

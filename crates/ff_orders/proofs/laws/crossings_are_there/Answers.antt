use Rattle.ff_types.specs.Sheets.{sheet_of}
use Rattle.ff_crossings.proofs.BorderLaws.{folded_laws}
use Rattle.ff_orders.proofs.Crossed.{crossing_is}
use Rattle.ff_orders.proofs.laws.crossings_are_there.Goals as goal

pub returns : goal.returns
returns c = λ pattern faces folded h case is items above said cite v. crossing_is (sheet_of pattern faces folded) (folded_laws pattern faces folded h)
    c.rows_by_test.ensures c.listed_exactly.ensures c.triples_suffice.ensures c.parts_are_listed.ensures case is items above said cite v

use Rattle.ff_types.specs.Sheets.{sheet_of}
use Rattle.ff_crossings.proofs.BorderLaws.{folded_laws}
use Rattle.ff_orders.proofs.Geometry.{verdict_tells}
use Rattle.ff_orders.proofs.laws.verified_is_geometry.Goals as goal

pub returns : goal.returns
returns c = λ pattern faces folded h case is items above said verdict v. verdict_tells (sheet_of pattern faces folded) (folded_laws pattern faces folded h)
    c.rows_by_test.ensures (c.rows_give_stackings.ensures pattern faces folded h) case is items above said verdict v

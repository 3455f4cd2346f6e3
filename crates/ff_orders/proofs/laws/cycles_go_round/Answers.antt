use Rattle.ff_types.specs.Sheets.{sheet_of}
use Rattle.ff_crossings.proofs.BorderLaws.{folded_laws}
use Rattle.ff_orders.proofs.Rounds.{cycle_is}
use Rattle.ff_orders.proofs.laws.cycles_go_round.Goals as goal

pub returns : goal.returns
returns c = λ pattern faces folded h case is items above said f j k v. cycle_is (sheet_of pattern faces folded) (folded_laws pattern faces folded h)
    c.transitivity_rows.ensures case is items above said f j k v

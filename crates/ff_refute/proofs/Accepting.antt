-- A log that closes over what the givens say is accepted for pins that say the same.
use Rattle.std.proofs.Common.{◌≡◌, List, sym, subst}
use Rattle.ff_tables.specs.declared.givens.Given.{Given}
use Rattle.ff_types.specs.declared.pins.Pin.{Pin}
use Rattle.ff_types.specs.declared.cases.Case.{Case}
use Rattle.ff_log.specs.declared.claims.Claim.{Claim}
use Rattle.ff_log.specs.declared.logs.LogLine.{LogLine}
use Rattle.ff_log.specs.Logs.{Closes}
use Rattle.ff_log.specs.Grounds.{IsAcceptedIn}
use Rattle.ff_refute.specs.Givens.{SayPins, pin_claims}
use Rattle.ff_refute.specs.Making.{ground_of}

pub accepted : (case : Case) (gs : List Given) (pins : List Pin) (lines made : List LogLine) → SayPins case gs pins → lines ≡ made
    → Closes (ground_of case (pin_claims case gs)) made → IsAcceptedIn case pins lines
accepted case gs pins lines made say same closes = subst (λ ls. IsAcceptedIn case pins ls) (sym same)
    (subst (λ (cs : List Claim). Closes (ground_of case cs) made) (sym say) closes)

-- One line more.
use Rattle.std.proofs.Common.{◌≡◌, ℕ, false, List, [], ◌∷◌, ◌++◌, slice_get, refl, ap, subst, Some}
use Rattle.std.proofs.lemmas.List.{map-append}
use Rattle.ff_tables.specs.declared.terms.Constraint.{Constraint}
use Rattle.ff_types.specs.declared.cites.Cite.{Cite}
use Rattle.ff_types.specs.declared.cases.Case.{Case}
use Rattle.ff_log.specs.declared.claims.Claim.{Claim}
use Rattle.ff_log.specs.declared.logs.LogLine.{LogLine}
use Rattle.ff_log.specs.declared.logs.LogLine.TheVariants as line
use Rattle.ff_log.specs.Logs.{Branch, State, Ground, Takes, Reaches, start}
use Rattle.ff_refute.specs.Making.{ground_of, declared_or, declared_at, IsThere}

pub reach_last : (ground : Ground) (s : State) (lines : List LogLine) (m : State) (l : LogLine) (after : State)
    → Reaches ground s lines m → Takes ground m l after → Reaches ground s (lines ++ l ∷ []) after
reach_last ground s [] m l after e t = (after, subst (λ q. Takes ground q l after) e t, refl)
reach_last ground s (k ∷ lines) m l after (n, t, r) u = (n, t, reach_last ground n lines m l after r u)

-- a constraint is declared
pub at_use : (case : Case) (pins : List Claim) (lines : List LogLine) (index : List ℕ) (held : List Claim) (branches : List Branch)
    → IsThere case pins lines index held branches → (c : ℕ) (con : Constraint) (cite : Cite)
    → slice_get case.system.constraints c ≡ Some con → slice_get case.cites c ≡ Some cite
    → IsThere case pins (lines ++ line.Use cite ∷ []) (index ++ c ∷ []) held branches
at_use case pins lines index held branches r c con cite there cited = reach_last (ground_of case pins) start lines _ (line.Use cite) _ r (record {
  going = refl;
  does = (
    declared_at case c,
    record { place = c; constraint = con; cited = cited; there = there; is = ap (declared_or case.pairs) there },
    ap (λ d. record { declared = d; held = held; branches = branches; ended = false }) (map-append (declared_at case) index (c ∷ [])),
  );
})

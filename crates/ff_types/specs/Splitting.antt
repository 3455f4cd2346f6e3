-- A list of constraints with their cites, from its two parts. This project's own.
use Rattle.std.specs.Prelude.{◌≡◌, ℕ, ◌≤◌, List, [], ◌∷◌}
use Rattle.ff_tables.specs.declared.terms.Constraint.{Constraint}
use Rattle.ff_types.specs.declared.cites.Cite.{Cite}
use Rattle.ff_types.specs.declared.cites.Listed.{Listed}
use Rattle.ff_types.specs.declared.refusals.No.{No}
use Rattle.ff_types.specs.declared.refusals.No.TheVariants.{Refused, NoMemory}
use Rattle.ff_types.specs.declared.refusals.Refusal.TheVariants.{TooMany}
use Rattle.ff_types.specs.declared.refusals.What.TheVariants.{Constraints}
use Rattle.ff_types.specs.declared.limits.TheConstants.{MOST_CONSTRAINTS}

-- each constraint with the cite at its place
abbrev pub listed_of : List Constraint → List Cite → List Listed
listed_of (con ∷ cons) (cite ∷ cites) = record { constraint = con; cite = cite } ∷ listed_of cons cites
listed_of [] cites = []
listed_of cons [] = []

-- the constraint of an entry
abbrev pub constraint_of : Listed → Constraint
constraint_of l = l.constraint

-- the cite of an entry
abbrev pub cite_of : Listed → Cite
cite_of l = l.cite

-- why a list of this length takes no more
abbrev pub IsFull : ℕ → No → Type 0
IsFull n NoMemory = Unit {0}
IsFull n (Refused r) = (r ≡ TooMany Constraints MOST_CONSTRAINTS) × (MOST_CONSTRAINTS ≤ n)

-- What examining a constraint tells, and what was seen when a sweep has ended.
use Rattle.std.specs.Prelude.{◌≡◌, ℕ, ◌+◌, ◌<◌, ◌⊎◌, List, length, slice_get, slice_index, Option, Some, None}
use Rattle.ff_tables.specs.declared.orders.Order.{Order}
use Rattle.ff_tables.specs.declared.terms.Constraint.{Constraint}
use Rattle.ff_tables.specs.declared.known.Forced.TheVariants.{Nothing}
use Rattle.ff_tables.specs.Orders.{term_at}
use Rattle.ff_tables.specs.Forces.{Forces, ForcedIs, SomeAgrees, NoneAgrees}
use Rattle.ff_propagate.specs.Facts.{value_at}
use Rattle.ff_board.specs.declared.opening.Opening.{Opening}
use Rattle.ff_board.specs.declared.examine.Look.{Look}
use Rattle.ff_board.specs.declared.examine.Look.TheVariants.{Quiet, Set, Moved, Dead}
use Rattle.ff_board.specs.Facts.{vars_in, cons_in, SeenAt}
use Rattle.ff_board.specs.Rule.{set_below}

-- an opening fact, or a fact that was seen, gives the variable v the value s
abbrev pub Base : Opening → List ℕ → ℕ → Order → Type 0
Base o ws v s = SeenAt ws v s ⊎ (value_at o.facts v ≡ Some s)

-- from values that were found meanwhile, at least those known before and all of them seen after, some row of the
-- constraint agrees, and it forces nothing more
pub record RestsBetween (o : Opening) (con : Constraint) (old new : List ℕ) : Type 0 where
  pub found : ℕ → Option Order
  pub before : (j : ℕ) (s : Order) → j < length con.terms → Base o old (term_at con.terms j).var s
      → found (term_at con.terms j).var ≡ Some s
  pub after : (j : ℕ) (s : Order) → j < length con.terms → found (term_at con.terms j).var ≡ Some s
      → SeenAt new (term_at con.terms j).var s
  pub rests : ForcedIs con.kind con.terms found Nothing

-- no row of the c-th constraint agrees with what was seen
abbrev pub IsDeadSeen : Opening → ℕ → List ℕ → Type 0
IsDeadSeen o c ws = (con : Constraint) × (slice_get (cons_in o) c ≡ Some con)
    × NoneAgrees con.kind con.terms (SeenAt ws)

-- What examining the c-th constraint came to: it rests; a fact more was seen, set here or found; or no row of it
-- agrees with what was seen.
abbrev pub Examines : Opening → ℕ → List ℕ → List ℕ → Look → Type 0
Examines o c old new Quiet = (con : Constraint) → slice_get (cons_in o) c ≡ Some con → RestsBetween o con old new
Examines o c old new (Set v) = set_below (vars_in o) old < set_below (vars_in o) new
Examines o c old new Moved = set_below (vars_in o) old < set_below (vars_in o) new
Examines o c old new Dead = IsDeadSeen o c new

-- each of the first n constraints rests
abbrev pub Quiets : Opening → ℕ → List ℕ → List ℕ → Type 0
Quiets o n old new = (c : ℕ) (con : Constraint) → c < n → slice_get (cons_in o) c ≡ Some con
    → RestsBetween o con old new

-- each constraint that is among the first n of a list rests
abbrev pub QuietsOf : Opening → List ℕ → ℕ → List ℕ → List ℕ → Type 0
QuietsOf o list n old new = (k : ℕ) (con : Constraint) → k < n → slice_get (cons_in o) (slice_index list k) ≡ Some con
    → RestsBetween o con old new

-- what was seen is closed: no constraint is dead, and each value that one forces was seen
abbrev pub Closes : Opening → List ℕ → Type 0
Closes o ws = (c : ℕ) (con : Constraint) → slice_get (cons_in o) c ≡ Some con
    → SomeAgrees con.kind con.terms (SeenAt ws)
    × ((v : ℕ) (s : Order) → Forces con.kind con.terms (SeenAt ws) v s → SeenAt ws v s)

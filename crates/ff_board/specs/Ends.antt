-- How a pass and a sweep end.
use Rattle.std.specs.Prelude.{◌≡◌, ℕ, ◌<◌, List, length, Option}
use Rattle.ff_tables.specs.declared.orders.Order.{Order}
use Rattle.ff_propagate.specs.Facts.{seen}
use Rattle.ff_propagate.specs.Words.{held}
use Rattle.ff_propagate.specs.Closure.{IsClosure, Gives}
use Rattle.ff_board.specs.declared.opening.Opening.{Opening}
use Rattle.ff_board.specs.declared.sweep.Pass.{Pass}
use Rattle.ff_board.specs.declared.sweep.Pass.TheVariants as pass
use Rattle.ff_board.specs.declared.sweep.Sweep.{Sweep}
use Rattle.ff_board.specs.declared.sweep.Sweep.TheVariants as sweep
use Rattle.ff_board.specs.Answer.{fact_of}
use Rattle.ff_board.specs.Facts.{vars_in, cons_in}
use Rattle.ff_board.specs.Rule.{set_below, Opens}
use Rattle.ff_board.specs.Swept.{Quiets, Closes, IsDeadSeen}

-- what one pass over the constraints came to
abbrev pub PassEnds : Opening → List ℕ → List ℕ → Pass → Type 0
PassEnds o old new pass.Quiet = Quiets o (length (cons_in o)) old new
PassEnds o old new pass.Moved = set_below (vars_in o) old < set_below (vars_in o) new
PassEnds o old new (pass.Dead c) = IsDeadSeen o c new

-- the value that was seen of a variable
abbrev pub value_seen : List ℕ → ℕ → Option Order
value_seen ws v = seen (fact_of (held ws v))

-- At Closed every opening fact was seen, no constraint is dead by what was seen, each value that a constraint
-- forces from it was seen, and it is exactly the closure of the givens. A constraint that is named has no row
-- that agrees with what was seen.
abbrev pub SweepEnds : Opening → List ℕ → Sweep → Type 0
SweepEnds o ws sweep.Closed = Opens o ws × Closes o ws × IsClosure (cons_in o) (Gives o.givens) (value_seen ws)
SweepEnds o ws (sweep.Dead c) = IsDeadSeen o c ws

-- What the facts of a board that was swept come to.
-- For the proofs of this crate alone.
use Rattle.std.specs.Prelude.{ℕ, ◌≤◌, List, Option, Some}
use Rattle.ff_tables.specs.declared.givens.Given.{Given}
use Rattle.ff_types.specs.declared.cases.Case.{Case}
use Rattle.ff_propagate.specs.declared.facts.Fact.{Fact}
use Rattle.ff_propagate.specs.Facts.{value_at}
use Rattle.ff_propagate.specs.Closing.{IsDeadIn}
use Rattle.ff_propagate.specs.Closure.{IsClosure, Gives}
use Rattle.ff_board.specs.declared.sweep.Sweep.{Sweep}
use Rattle.ff_board.specs.declared.sweep.Sweep.TheVariants as sweep

-- the facts are the closure, or a constraint is dead in them
abbrev pub SweptTo : Case → List Given → List (Option Fact) → Sweep → Type 0
SweptTo case gs fs sweep.Closed = IsClosure case.system.constraints (Gives gs) (value_at fs)
SweptTo case gs fs (sweep.Dead c) = IsDeadIn case.system.constraints fs c

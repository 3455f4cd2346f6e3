-- Boards, without the givens of which they are the closure.
use Rattle.std.specs.Prelude.{ℕ, List, Option}
use Rattle.ff_tables.specs.declared.terms.Constraint.{Constraint}
use Rattle.ff_tables.specs.declared.givens.Given.{Given}
use Rattle.ff_propagate.specs.declared.facts.Fact.{Fact}
use Rattle.ff_propagate.specs.declared.facts.Closed.TheVariants.{Board}
use Rattle.ff_propagate.specs.Closing.{ClosesTo}

-- the facts are a board of the constraints: for some givens, those with which closing them answers Board
abbrev pub IsBoardOf : ℕ → List Constraint → List (Option Fact) → Type 0
IsBoardOf vars cons fs = (gs : List Given) × ClosesTo vars cons gs (Board fs)

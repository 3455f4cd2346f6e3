-- What the search of a part comes to within a budget of turns. This project's own.
use Rattle.std.specs.Prelude.{◌≡◌, ℕ, ◌<◌, List, [], length, slice_get, Option, Some}
use Rattle.ff_tables.specs.declared.orders.Order.{Order}
use Rattle.ff_tables.specs.declared.terms.Constraint.{Constraint}
use Rattle.ff_types.specs.declared.cases.Case.{Case}
use Rattle.ff_log.specs.Grounds.{IsAcceptedIn}
use Rattle.ff_propagate.specs.declared.parts.Part.{Part}
use Rattle.ff_propagate.specs.Trees.{Tree, IsTree, IsFinished, turns_of}
use Rattle.ff_propagate.specs.Solutions.{solutions_of}
use Rattle.ff_report.specs.declared.parts.PartOutcome.{PartOutcome}
use Rattle.ff_report.specs.declared.parts.PartOutcome.TheVariants.{Solutions, None, Unfinished}

-- the turns of the whole tree are within the budget, or beyond it
abbrev pub EndsWithin : List Constraint → (ℕ → Option Order) → ℕ → List ℕ → Type 0
EndsWithin cons value budget part = (tree : Tree) × IsTree cons value part tree × IsFinished part tree budget

-- the part's tree needs more turns than the budget
abbrev pub GoesBeyond : List Constraint → (ℕ → Option Order) → ℕ → List ℕ → Type 0
GoesBeyond cons value budget part = (tree : Tree) × IsTree cons value part tree × (budget < turns_of part tree)

-- all solutions in order, of which there are some; or none, and any log that is accepted for the case without pins; or the
-- tree goes beyond the budget
abbrev pub IsOutcome : Case → (ℕ → Option Order) → ℕ → List ℕ → PartOutcome → Type 0
IsOutcome case value budget part (Solutions list) = EndsWithin case.system.constraints value budget part
    × (list ≡ solutions_of case.system.constraints value part) × (list ≡ [] → ⊥)
IsOutcome case value budget part (None log) = EndsWithin case.system.constraints value budget part
    × (solutions_of case.system.constraints value part ≡ []) × IsAcceptedIn case [] log.lines
IsOutcome case value budget part Unfinished = GoesBeyond case.system.constraints value budget part

-- one for each part
pub record AreOutcomes (case : Case) (value : ℕ → Option Order) (budget : ℕ) (parts : List Part)
    (outcomes : List PartOutcome) : Type 0 where
  pub as_many : length outcomes ≡ length parts
  pub each : (k : ℕ) (part : Part) (outcome : PartOutcome) → slice_get parts k ≡ Some part
      → slice_get outcomes k ≡ Some outcome → IsOutcome case value budget part.vars outcome

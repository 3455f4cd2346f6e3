-- What holds of closures, and of facts by the rule, whoever found them.
use Rattle.std.specs.Prelude.{◌≡◌, ℕ, List, Option, Some, slice_get}
use Rattle.ff_tables.specs.declared.orders.Order.{Order}
use Rattle.ff_tables.specs.declared.terms.Constraint.{Constraint}
use Rattle.ff_tables.specs.declared.givens.Given.{Given}
use Rattle.ff_tables.specs.declared.known.Forced.TheVariants.{Nothing}
use Rattle.ff_tables.specs.Forces.{ForcedIs, Meets}
use Rattle.ff_tables.specs.Systems.{AreFit}
use Rattle.ff_propagate.specs.declared.facts.Fact.{Fact}
use Rattle.ff_propagate.specs.Facts.{value_at}
use Rattle.ff_propagate.specs.Closure.{InClosure, Gives, HoldsGivens, Clashes, IsClosure}
use Rattle.ff_propagate.specs.FactRule.{MeetsFactRule}
use Rattle.ff_propagate.specs.Closing.{Contradict, IsDeadIn}

-- each constraint has a row that agrees with the values, and forces nothing more from them
abbrev pub AreQuiet : List Constraint → (ℕ → Option Order) → Type 0
AreQuiet cons value = (c : ℕ) (con : Constraint) → slice_get cons c ≡ Some con
    → ForcedIs con.kind con.terms value Nothing

-- Facts by the rule that hold the givens, and from which no constraint forces more, are exactly the closure.
abbrev pub QuietFactsAreTheClosure : Type 0
QuietFactsAreTheClosure = (vars : ℕ) (cons : List Constraint) (gs : List Given) (fs : List (Option Fact))
    → MeetsFactRule vars cons gs fs → HoldsGivens gs (value_at fs) → AreQuiet cons (value_at fs)
    → IsClosure cons (Gives gs) (value_at fs)

-- Where a constraint is dead in facts by the rule, the closure of the givens clashes.
abbrev pub DeadFactsClash : Type 0
DeadFactsClash = (vars : ℕ) (cons : List Constraint) (gs : List Given) (fs : List (Option Fact))
    → AreFit vars cons → MeetsFactRule vars cons gs fs → (c : ℕ) → IsDeadIn cons fs c
    → Clashes cons (Gives gs)

-- Where two givens contradict each other, their closure clashes.
abbrev pub ContradictionsClash : Type 0
ContradictionsClash = (cons : List Constraint) (gs : List Given) (i j : ℕ) (g h : Given)
    → slice_get gs i ≡ Some g → slice_get gs j ≡ Some h → Contradict g h → Clashes cons (Gives gs)

-- An assignment that meets the constraints and holds the givens has the values of the closure.
abbrev pub AssignmentsHoldTheClosure : Type 0
AssignmentsHoldTheClosure = (cons : List Constraint) (gs : List Given) (a : ℕ → Order) → Meets cons a
    → HoldsGivens gs (λ v. Some (a v)) → (v : ℕ) (s : Order) → InClosure cons (Gives gs) v s → a v ≡ s

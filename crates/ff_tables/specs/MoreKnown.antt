-- That what is forced from less that is known is forced from more.
use Rattle.std.specs.Prelude.{ℕ, ◌<◌, Bool, IsTrue, length, Option}
use Rattle.ff_tables.specs.declared.orders.Order.{Order}
use Rattle.ff_tables.specs.declared.terms.Constraint.{Constraint}
use Rattle.ff_tables.specs.Orders.{term_at}
use Rattle.ff_tables.specs.Forces.{Forces, NoneAgrees, Knows}

-- whatever the first test says of a variable of the constraint the second says too
abbrev pub SaysAsMuch : Constraint → (ℕ → Order → Bool) → (ℕ → Order → Bool) → Type 0
SaysAsMuch con less more = (j : ℕ) (s : Order) → j < length con.terms
    → IsTrue (less (term_at con.terms j).var s) → IsTrue (more (term_at con.terms j).var s)

-- What a constraint forces where a test says what is known, it forces where another says as much and more.
abbrev pub MoreForcesMore : Type 0
MoreForcesMore = (con : Constraint) (less more : ℕ → Order → Bool) → SaysAsMuch con less more → (v : ℕ)
    (s : Order) → Forces con.kind con.terms (λ u t. IsTrue (less u t)) v s
    → Forces con.kind con.terms (λ u t. IsTrue (more u t)) v s

-- each variable of the constraint that the first function knows has the same value by the second
abbrev pub KnowsAsMuch : Constraint → (ℕ → Option Order) → (ℕ → Option Order) → Type 0
KnowsAsMuch con less more = (j : ℕ) (s : Order) → j < length con.terms → Knows less (term_at con.terms j).var s
    → Knows more (term_at con.terms j).var s

-- What a constraint forces from known values, it forces from these and more.
abbrev pub MoreValuesForceMore : Type 0
MoreValuesForceMore = (con : Constraint) (less more : ℕ → Option Order) → KnowsAsMuch con less more → (v : ℕ)
    (s : Order) → Forces con.kind con.terms (Knows less) v s → Forces con.kind con.terms (Knows more) v s

-- A constraint that is dead by known values is dead by these and more.
abbrev pub DeadStaysDead : Type 0
DeadStaysDead = (con : Constraint) (less more : ℕ → Option Order) → KnowsAsMuch con less more
    → NoneAgrees con.kind con.terms (Knows less) → NoneAgrees con.kind con.terms (Knows more)

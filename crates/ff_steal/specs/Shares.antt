-- The share of a hand. This project's own.
use Rattle.std.specs.Prelude.{◌≡◌, ℕ, ◌%◌, ◌<◌, ◌⊎◌, List, length, slice_get, slice_index, Some}
use Rattle.ff_tables.specs.declared.orders.Order.{Order}
use Rattle.ff_tables.specs.declared.terms.Constraint.{Constraint}
use Rattle.ff_tables.specs.Forces.{Forces, NoneAgrees}
use Rattle.ff_propagate.specs.declared.words.Held.{Held}
use Rattle.ff_board.specs.declared.opening.Opening.{Opening}
use Rattle.ff_propagate.specs.Words.{held}
use Rattle.ff_board.specs.Facts.{cons_in, SeenAt}
use Rattle.ff_board.specs.Swept.{Base}

-- a fact was seen at the variable
abbrev pub SeenSome : List ℕ → ℕ → Type 0
SeenSome ws v = (h : Held) × (held ws v ≡ Some h)

-- Each value that the constraint c forces from the opening facts and from what was seen before: a fact was then
-- seen on its variable. Or no row of the constraint agrees with what was seen then.
abbrev pub IsDone : Opening → ℕ → List ℕ → List ℕ → Type 0
IsDone o c old new = (con : Constraint) → slice_get (cons_in o) c ≡ Some con
    → ((v : ℕ) (s : Order) → Forces con.kind con.terms (Base o old) v s → SeenSome new v)
    ⊎ NoneAgrees con.kind con.terms (SeenAt new)

-- of the first n constraints, those whose number leaves this one are done
abbrev pub AreDone : Opening → ℕ → ℕ → ℕ → List ℕ → List ℕ → Type 0
AreDone o number count n old new = (c : ℕ) → c < n → c % count ≡ number → IsDone o c old new

-- of the first k constraints of a list, those whose number leaves this one are done
abbrev pub AreDoneOf : Opening → ℕ → ℕ → List ℕ → ℕ → List ℕ → List ℕ → Type 0
AreDoneOf o number count list k old new = (i : ℕ) → i < k → slice_index list i % count ≡ number
    → IsDone o (slice_index list i) old new

-- Constraints that are labelled by the parts that they touch.
-- For the proofs of this crate alone.
use Rattle.std.specs.Prelude.{◌≡◌, ℕ, ◌<◌, ◌⊎◌, List, length, slice_get, slice_index, Option, Some, None}
use Rattle.ff_tables.specs.declared.orders.Order.{Order}
use Rattle.ff_tables.specs.declared.terms.Constraint.{Constraint}
use Rattle.ff_tables.specs.Orders.{term_at}

-- the first n variables of the constraint are decided
abbrev pub AreDecided : (ℕ → Option Order) → Constraint → ℕ → Type 0
AreDecided value con n = (j : ℕ) → j < n → value (term_at con.terms j).var ≡ None → ⊥

-- an undecided variable of the constraint has the label
abbrev pub IsLabelOf : (ℕ → Option Order) → List ℕ → Constraint → ℕ → Type 0
IsLabelOf value labels con m = (j : ℕ) × (j < length con.terms) × (value (term_at con.terms j).var ≡ None)
    × (m ≡ slice_index labels (term_at con.terms j).var)

-- the label of an undecided variable of the constraint, 0 where each is decided
abbrev pub IsMark : (ℕ → Option Order) → List ℕ → Constraint → ℕ → Type 0
IsMark value labels con m = IsLabelOf value labels con m
    ⊎ (AreDecided value con (length con.terms) × (m ≡ 0))

-- each constraint has its label
pub record AreMarks (value : ℕ → Option Order) (labels : List ℕ) (cons : List Constraint)
    (marks : List ℕ) : Type 0 where
  pub as_many : length marks ≡ length cons
  pub each : (c : ℕ) (con : Constraint) → slice_get cons c ≡ Some con
      → IsMark value labels con (slice_index marks c)

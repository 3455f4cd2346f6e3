-- What the constraints of a system keep.
use Rattle.std.specs.Prelude.{◌≡◌, ℕ, ◌<◌, List, length, slice_get, Some}
use Rattle.ff_tables.specs.declared.terms.Constraint.{Constraint}
use Rattle.ff_tables.specs.Orders.{term_at}
use Rattle.ff_tables.specs.Rows.{arity}

-- as many terms as its kind has, on different variables below vars
pub record IsFit (vars : ℕ) (con : Constraint) : Type 0 where
  pub terms : length con.terms ≡ arity con.kind
  pub within : (j : ℕ) → j < length con.terms → (term_at con.terms j).var < vars
  pub differ : (i j : ℕ) → i < length con.terms → j < length con.terms
      → (term_at con.terms i).var ≡ (term_at con.terms j).var → i ≡ j

-- each constraint has the terms of its kind
abbrev pub AreFit : ℕ → List Constraint → Type 0
AreFit vars cons = (c : ℕ) (con : Constraint) → slice_get cons c ≡ Some con → IsFit vars con

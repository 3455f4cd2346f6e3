-- A part's own system: its variables and the constraints that touch it, with numbers of their own.
-- For the proofs of this crate alone.
use Rattle.std.specs.Prelude.{◌≡◌, ℕ, ◌<◌, ◌≤◌, ◌^◌, List, length, slice_get, slice_index, Option, Some, None, Contains}
use Rattle.ff_tables.specs.declared.orders.Order.{Order}
use Rattle.ff_tables.specs.declared.terms.Term.{Term}
use Rattle.ff_tables.specs.declared.terms.Constraint.{Constraint}
use Rattle.ff_tables.specs.Orders.{term_at}
use Rattle.ff_propagate.specs.declared.facts.Fact.{Fact}
use Rattle.ff_propagate.specs.Facts.{value_at}
use Rattle.ff_solver.specs.declared.copying.Names.{Names}
use Rattle.ff_propagate.specs.Trails.{value_in}

-- The term u is the term t by own numbers, each of which names a variable of the board. One of the part has a number below the
-- length of the part.
pub record IsCopiedTerm (part names : List ℕ) (t u : Term) : Type 0 where
  pub flipped : u.flipped ≡ t.flipped
  pub within : u.var < length names
  pub name : slice_index names u.var ≡ t.var
  pub own : Contains part t.var → u.var < length part

-- The constraint has the kind of the other, and its terms are those of the other by own numbers.
pub record IsCopied (part names : List ℕ) (from con : Constraint) : Type 0 where
  pub kind : con.kind ≡ from.kind
  pub as_many : length con.terms ≡ length from.terms
  pub each : (j : ℕ) → j < length from.terms
      → IsCopiedTerm part names (term_at from.terms j) (term_at con.terms j)

-- The constraint is such a copy of the one with this number.
pub record IsCopyOf (cons : List Constraint) (number : ℕ) (part names : List ℕ) (con : Constraint) : Type 0 where
  pub from : Constraint
  pub there : slice_get cons number ≡ Some from
  pub copied : IsCopied part names from con

-- Some of these is such a copy of the constraint.
pub record HasCopy (own : List Constraint) (part names : List ℕ) (from : Constraint) : Type 0 where
  pub number : ℕ
  pub con : Constraint
  pub there : slice_get own number ≡ Some con
  pub copied : IsCopied part names from con

-- The own numbers name the variables of the part first, in their order, and have the values of what they name.
pub record AreNames (value own_value : ℕ → Option Order) (part names : List ℕ) : Type 0 where
  pub long : length part ≤ length names
  pub front : (j : ℕ) → j < length part → slice_index names j ≡ slice_index part j
  pub values : (u : ℕ) → u < length names → own_value u ≡ value (slice_index names u)
  pub beyond : (u : ℕ) → length names ≤ u → own_value u ≡ None

-- The own constraints are copies of all that touch the part, with the values of what their variables name.
pub record AreOwn (cons own : List Constraint) (value own_value : ℕ → Option Order) (part names : List ℕ)
    : Type 0 where
  pub are_names : AreNames value own_value part names
  pub each : (c : ℕ) (con : Constraint) → slice_get own c ≡ Some con → (number : ℕ)
      × IsCopyOf cons number part names con
  pub all : (c : ℕ) (from : Constraint) → slice_get cons c ≡ Some from → (i : ℕ) → i < length from.terms
      → Contains part (term_at from.terms i).var → HasCopy own part names from

-- Each number of the list is greater than the one before.
abbrev pub IsRising : List ℕ → Type 0
IsRising list = (i j : ℕ) → i < j → j < length list → slice_index list i < slice_index list j

-- Where a variable stands in a part, if it does.
abbrev pub IsPlace : List ℕ → ℕ → Option ℕ → Type 0
IsPlace part v (Some i) = (i < length part) × (slice_index part i ≡ v)
IsPlace part v None = Contains part v → ⊥

-- The list begins with the other.
pub record IsLonger (old new : List ℕ) : Type 0 where
  pub long : length old ≤ length new
  pub front : (u : ℕ) → u < length old → slice_index new u ≡ slice_index old u

-- The names so far, of which the first are the part's variables, with the values that the facts give them.
pub record AreNamed (facts : List (Option Fact)) (part : List ℕ) (names : Names) : Type 0 where
  pub few : length names.list.items < 2 ^ 32
  pub as_many : length names.values.items ≡ length names.list.items
  pub longer : IsLonger part names.list.items
  pub values : (u : ℕ) → u < length names.list.items
      → value_in names.values.items u ≡ value_at facts (slice_index names.list.items u)

-- The constraints are copies of the first n with these numbers.
pub record AreCopied (cons : List Constraint) (numbers part names : List ℕ) (own : List Constraint) (n : ℕ)
    : Type 0 where
  pub as_many : length own ≡ n
  pub each : (i : ℕ) (con : Constraint) → slice_get own i ≡ Some con
      → IsCopyOf cons (slice_index numbers i) part names con

-- Each place of the list has its own number.
abbrev pub AreOwnNumbers : List ℕ → ℕ → Type 0
AreOwnNumbers list n = (length list ≡ n) × ((j : ℕ) → j < n → slice_index list j ≡ j)

-- The words that a board is opened with.
-- For the proofs of this crate alone.
use Rattle.std.specs.Prelude.{◌≡◌, ℕ, ◌+◌, ◌<◌, ◌↔◌, Bool, true, List, length, slice_get, slice_index, Option, Some, None}
use Rattle.ff_tables.specs.declared.terms.Term.{Term}
use Rattle.ff_tables.specs.declared.terms.Constraint.{Constraint}
use Rattle.ff_tables.specs.Orders.{term_at}
use Rattle.ff_propagate.specs.declared.facts.Fact.{Fact}
use Rattle.ff_propagate.specs.declared.facts.Reason.{Reason}
use Rattle.ff_propagate.specs.declared.facts.Reason.TheVariants as by
use Rattle.ff_propagate.specs.declared.words.Held.{Held}
use Rattle.ff_propagate.specs.Facts.{fact_at}
use Rattle.ff_propagate.specs.Words.{held_of}
use Rattle.ff_board.specs.Facts.{is_marked}

-- the variable has a fact with a level below k
abbrev pub IsLowFact : List (Option Fact) → ℕ → ℕ → Type 0
IsLowFact fs k v = (f : Fact) × (fact_at fs v ≡ Some f) × (f.level < k)

-- exactly the terms whose variables have facts with levels below k are marked
abbrev pub MarksAre : List (Option Fact) → List Term → ℕ → ℕ → Type 0
MarksAre fs ts k marks = (j : ℕ) → j < length ts → (is_marked marks j ≡ true) ↔ IsLowFact fs k (term_at ts j).var

-- the same of the terms of the reason's constraint
abbrev pub MarksBy : List Constraint → List (Option Fact) → ℕ → ℕ → Reason → Type 0
MarksBy cons fs k marks (by.Given i) = Unit {0}
MarksBy cons fs k marks (by.Forced c) = (con : Constraint) → slice_get cons c ≡ Some con
    → MarksAre fs con.terms k marks

-- the marks of a fact
abbrev pub MarksOf : List Constraint → List (Option Fact) → Fact → ℕ → Type 0
MarksOf cons fs f marks = MarksBy cons fs f.level marks f.reason

-- what the word of a variable keeps: its fact with its marks
abbrev pub HeldOf : List Constraint → List (Option Fact) → Option Fact → Option Held → Type 0
HeldOf cons fs None h = h ≡ None
HeldOf cons fs (Some f) h = (m : ℕ) × (h ≡ Some (record { fact = f; marks = m })) × MarksOf cons fs f m

-- the word of the variable v
abbrev pub WordOf : List Constraint → List (Option Fact) → ℕ → ℕ → Type 0
WordOf cons fs v w = HeldOf cons fs (fact_at fs v) (held_of w)

-- the words of the variables below n, and 0 past them
pub record WordsOf (cons : List Constraint) (fs : List (Option Fact)) (n : ℕ) (ws : List ℕ) : Type 0 where
  pub each : (v : ℕ) → v < n → WordOf cons fs v (slice_index ws v)
  pub rest : (v : ℕ) → n < v + 1 → slice_index ws v ≡ 0

-- Facts with which a board is opened. This project's own.
use Rattle.std.specs.Prelude.{suc, max, ◌≡◌, ℕ, Bool, true, false, List, [], ◌∷◌, slice_get, Option, Some, None}
use Rattle.ff_tables.specs.declared.givens.Given.{Given}
use Rattle.ff_propagate.specs.declared.facts.Fact.{Fact}
use Rattle.ff_propagate.specs.declared.facts.Reason.{Reason}
use Rattle.ff_propagate.specs.declared.facts.Reason.TheVariants as by
use Rattle.ff_propagate.specs.Facts.{fact_at, value_at}

-- the greatest level, or 0 where there is no fact
abbrev pub top_level : List (Option Fact) → ℕ
top_level [] = 0
top_level (None ∷ fs) = top_level fs
top_level (Some h ∷ fs) = max h.level (top_level fs)

-- the greater of the level of a fact, if there is one, and k
abbrev pub top_with : Option Fact → ℕ → ℕ
top_with None k = k
top_with (Some h) k = max h.level k

-- how many variables have a fact
abbrev pub set_count : List (Option Fact) → ℕ
set_count [] = 0
set_count (None ∷ fs) = set_count fs
set_count (Some h ∷ fs) = suc (set_count fs)

-- the fact is by a given
abbrev pub is_by_given : Option Fact → Bool
is_by_given None = false
is_by_given (Some f) = is_given f.reason
  where
    is_given : Reason → Bool
    is_given (by.Given i) = true
    is_given (by.Forced c) = false

-- each given's variable has its value, by a given
abbrev pub GivensStand : List Given → List (Option Fact) → Type 0
GivensStand gs fs = (i : ℕ) (g : Given) → slice_get gs i ≡ Some g
    → (value_at fs g.var ≡ Some g.value) × (is_by_given (fact_at fs g.var) ≡ true)

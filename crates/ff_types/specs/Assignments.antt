-- The set of pairs that values of the overlapping pairs say, and when the constraints of a case are true to the folded
-- sheet. This project's own.
use Rattle.std.specs.Prelude.{◌≡◌, ℕ, ◌↔◌, Bool, true, false, List, nat_lt, slice_get, if◌then◌else◌, Option, Some, None}
use Rattle.ff_tables.specs.declared.orders.Order.{Order}
use Rattle.ff_tables.specs.declared.orders.Order.TheVariants.{Below, Above}
use Rattle.ff_tables.specs.declared.givens.Given.{Given}
use Rattle.ff_tables.specs.Forces.{Knows, Meets}
use Rattle.ff_types.specs.declared.cases.Case.{Case}
use Rattle.ff_types.specs.Pairs.{number_of}
use Rattle.ff_types.specs.Sheets.{Sheet}
use Rattle.ff_types.specs.Keeping.{KeepsCreases}
use Rattle.ff_types.specs.Crossings.{IsGeometricStacking}

-- the order is known, and is above
abbrev pub says_above : Option Order → Bool
says_above (Some Above) = true
says_above _ = false

-- the order is known, and is below
abbrev pub says_below : Option Order → Bool
says_below (Some Below) = true
says_below _ = false

-- the value of a pair's variable, where the pair has one
abbrev pub value_at : (ℕ → Option Order) → Option ℕ → Option Order
value_at values (Some n) = values n
value_at values None = None

-- f is above h: of a listed pair with f the lesser, where its value is Above; with f the greater, where it is Below
abbrev pub set_of : List (ℕ × ℕ) → (ℕ → Option Order) → ℕ → ℕ → Bool
set_of pairs values f h = if nat_lt f h then says_above (value_at values (number_of pairs f h)) else says_below (value_at values (number_of pairs f h))

-- the set of an assignment
abbrev pub set_by : List (ℕ × ℕ) → (ℕ → Order) → ℕ → ℕ → Bool
set_by pairs a = set_of pairs (λ n. Some (a n))

-- the assignment has the values of the starts
abbrev pub HoldsStarts : List Given → (ℕ → Order) → Type 0
HoldsStarts starts a = (i : ℕ) (s : Given) → slice_get starts i ≡ Some s → Knows (λ v. Some (a v)) s.var s.value

-- The constraints are true to the sheet: an assignment meets them exactly where its set of pairs is a geometric stacking,
-- and holds the starts exactly where that keeps the creases; and each geometric stacking is the set of an assignment.
pub record IsTrueTo (g : Sheet) (case : Case) : Type 0 where
  pub stackings : (a : ℕ → Order) → Meets case.system.constraints a ↔ IsGeometricStacking g (set_by case.pairs a)
  pub creases : (a : ℕ → Order) → HoldsStarts case.starts a ↔ KeepsCreases g (set_by case.pairs a)
  pub all : (above : ℕ → ℕ → Bool) → IsGeometricStacking g above
      → (a : ℕ → Order) × ((f h : ℕ) → above f h ≡ set_by case.pairs a f h)

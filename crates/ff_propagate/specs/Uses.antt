-- For each variable the constraints that have it.
use Rattle.std.specs.Prelude.{◌≡◌, ℕ, ◌<◌, ◌≤◌, List, length, slice_get, slice_index, Some}
use Rattle.ff_basics.specs.NumberedLists.{list_at, lists_in}
use Rattle.ff_tables.specs.declared.terms.Constraint.{Constraint}
use Rattle.ff_tables.specs.Orders.{term_at}
use Rattle.ff_propagate.specs.declared.uses.Uses.{Uses}

-- the d-th constraint has the variable v
pub record IsUse (cons : List Constraint) (d v : ℕ) : Type 0 where
  pub con : Constraint
  pub there : slice_get cons d ≡ Some con
  pub place : ℕ
  pub within : place < length con.terms
  pub var : (term_at con.terms place).var ≡ v

-- the number stands in the list at the place k or later
abbrev pub IsFrom : List ℕ → ℕ → ℕ → Type 0
IsFrom list k n = (j : ℕ) × (k ≤ j) × (j < length list) × (slice_index list j ≡ n)

-- the number stands in the list
abbrev pub IsIn : List ℕ → ℕ → Type 0
IsIn list n = IsFrom list 0 n

-- the lists have each of the first n constraints at each of its variables, and no number of another
pub record AreListed (cons : List Constraint) (n : ℕ) (lists : List (List ℕ)) : Type 0 where
  pub below : (v k : ℕ) → k < length (list_at lists v) → slice_index (list_at lists v) k < n
  pub each : (d v : ℕ) → d < n → IsUse cons d v → IsIn (list_at lists v) d

-- the lists of these constraints over the variables below vars
pub record AreUses (vars : ℕ) (cons : List Constraint) (uses : Uses) : Type 0 where
  pub wide : length uses.lists.items ≡ vars
  pub listed : AreListed cons (length cons) (lists_in uses.lists.items)

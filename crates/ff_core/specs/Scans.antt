-- What a scan of all constraints finds. This project's own.
-- For the proofs of this crate alone.
use Rattle.std.specs.Prelude.{◌≡◌, ℕ, ◌<◌, List, slice_get, Option, Some, None}
use Rattle.ff_tables.specs.declared.terms.Constraint.{Constraint}
use Rattle.ff_tables.specs.declared.known.Forced.{Forced}
use Rattle.ff_tables.specs.declared.known.Forced.TheVariants.{Nothing, Value, Dead}
use Rattle.ff_tables.specs.Forces.{ForcedIs}
use Rattle.ff_propagate.specs.declared.facts.Fact.{Fact}
use Rattle.ff_propagate.specs.Facts.{value_at}
use Rattle.ff_propagate.specs.Closing.{IsDeadIn}
use Rattle.ff_propagate.specs.ClosureLaws.{AreQuiet}
use Rattle.ff_core.specs.declared.scanning.Scanned.{Scanned}
use Rattle.ff_core.specs.declared.scanning.Scanned.TheVariants as scanned
use Rattle.ff_core.specs.Steps.{HaveDead, ForcesMore}

-- the number that was found, else this one
abbrev pub first_of : Option ℕ → ℕ → Option ℕ
first_of (Some d) c = Some d
first_of None c = Some c

-- the first constraint that forces more, where the c-th tells this
abbrev pub more_after : Option ℕ → Forced → ℕ → Option ℕ
more_after o (Value v s) c = first_of o c
more_after o Nothing c = o
more_after o Dead c = o

-- c is the first constraint that forces more, and none is dead
pub record IsFirstMore (cons : List Constraint) (fs : List (Option Fact)) (c : ℕ) : Type 0 where
  pub alive : HaveDead cons fs → ⊥
  pub forces : ForcesMore cons fs c
  pub first : (d : ℕ) → d < c → ForcesMore cons fs d → ⊥

-- what a scan of all constraints answers
abbrev pub IsScanned : List Constraint → List (Option Fact) → Scanned → Type 0
IsScanned cons fs scanned.Quiet = AreQuiet cons (value_at fs)
IsScanned cons fs (scanned.Dead c) = IsDeadIn cons fs c
IsScanned cons fs (scanned.More c) = IsFirstMore cons fs c

-- of the first n constraints: none is dead; none forces more, or the first that does is this one
abbrev pub AliveTo : List Constraint → List (Option Fact) → ℕ → Type 0
AliveTo cons fs n = (c : ℕ) → c < n → IsDeadIn cons fs c → ⊥

-- none of the first n constraints forces anything
abbrev pub QuietTo : List Constraint → List (Option Fact) → ℕ → Type 0
QuietTo cons fs n = (c : ℕ) (con : Constraint) → c < n → slice_get cons c ≡ Some con → ForcedIs con.kind con.terms (value_at fs) Nothing

-- the first of the first n constraints that forces more, if there is one
abbrev pub MoreTo : List Constraint → List (Option Fact) → ℕ → Option ℕ → Type 0
MoreTo cons fs n None = QuietTo cons fs n
MoreTo cons fs n (Some c) = (c < n) × ForcesMore cons fs c × ((d : ℕ) → d < c → ForcesMore cons fs d → ⊥)

-- what a scan has found in the first n constraints
pub record IsScannedTo (cons : List Constraint) (fs : List (Option Fact)) (n : ℕ) (more : Option ℕ) : Type 0 where
  pub alive : AliveTo cons fs n
  pub more_is : MoreTo cons fs n more

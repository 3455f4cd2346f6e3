-- A log over a case, in the making.
use Rattle.std.specs.Prelude.{◌≡◌, ℕ, false, IsTrue, List, [], ◌∷◌, map, length, slice_get, Option, Some, None}
use Rattle.std.specs.Ordering.{nat_cmp}
use Rattle.std.specs.BTreeMap as tree
use Rattle.ff_tables.specs.declared.orders.Order.{Order}
use Rattle.ff_tables.specs.declared.terms.Kind.TheVariants.{TacoTortilla}
use Rattle.ff_tables.specs.declared.terms.Constraint.{Constraint}
use Rattle.ff_types.specs.declared.cases.Case.{Case}
use Rattle.ff_types.specs.Pairs.{pair_at}
use Rattle.ff_log.specs.declared.claims.Claim.{Claim}
use Rattle.ff_log.specs.declared.claims.Declared.{Declared}
use Rattle.ff_log.specs.declared.logs.LogLine.{LogLine}
use Rattle.ff_log.specs.Logs.{claim, holds, with_claim, reversed, Ground, State, Branch, start, Reaches, Closes, ForcesClaim, IsDead}
use Rattle.ff_log.specs.Grounds.{UsesIn, start_by, ArePair, declared_in}
use Rattle.ff_refute.specs.declared.making.Maker.{Maker}

-- what a value of a variable says of its two faces
abbrev pub claim_of : List (ℕ × ℕ) → ℕ → Order → Claim
claim_of pairs v s = claim (pair_at pairs v).0 (pair_at pairs v).1 s

-- the claim is among those that hold
abbrev pub Holds : List Claim → Claim → Type 0
Holds held c = IsTrue (holds held c)

-- what holds has all that is known
abbrev pub Tells : List (ℕ × ℕ) → List Claim → (ℕ → Order → Type 0) → Type 0
Tells pairs held known = (v : ℕ) (s : Order) → known v s → Holds held (claim_of pairs v s)

-- what a log over the case may rest on, where the pins say this
abbrev pub ground_of : Case → List Claim → Ground
ground_of case pins = record { uses = UsesIn case; crease = λ e. start_by case.pairs e case.starts; pins = pins; may_try = ArePair case }

-- what the constraint declares, and anything where there is none
abbrev pub declared_or : List (ℕ × ℕ) → Option Constraint → Declared
declared_or pairs None = record { kind = TacoTortilla; terms = [] }
declared_or pairs (Some con) = declared_in pairs con

-- the constraint with this number, as it is declared
abbrev pub declared_at : Case → ℕ → Declared
declared_at case c = declared_or case.pairs (slice_get case.system.constraints c)

-- the constraints with these numbers are declared, and this holds
abbrev pub state_of : Case → List ℕ → List Claim → List Branch → State
state_of case index held branches = record {
  declared = map (declared_at case) index;
  held = held;
  branches = branches;
  ended = false;
}

-- The lines are allowed; they declare the constraints with these numbers, in this order.
abbrev pub IsThere : Case → List Claim → List LogLine → List ℕ → List Claim → List Branch → Type 0
IsThere case pins lines index held branches = Reaches (ground_of case pins) start lines (state_of case index held branches)

-- the lines are allowed; the map has each declared constraint's number among the declared ones
pub record IsMaking (case : Case) (pins held : List Claim) (branches : List Branch) (m : Maker) : Type 0 where
  pub index : List ℕ
  pub at : IsThere case pins m.lines.items index held branches
  pub numbers : (c k : ℕ) → tree.get nat_cmp m.numbers c ≡ Some k → slice_get index k ≡ Some c
  pub counted : m.count ≡ length index

-- the constraint is declared as the k-th
pub record IsDeclaring (case : Case) (pins held : List Claim) (branches : List Branch) (c k : ℕ) (m : Maker) : Type 0 where
  pub index : List ℕ
  pub at : IsThere case pins m.lines.items index held branches
  pub numbers : (d j : ℕ) → tree.get nat_cmp m.numbers d ≡ Some j → slice_get index j ≡ Some d
  pub counted : m.count ≡ length index
  pub is : slice_get index k ≡ Some c

-- the constraint forces the value from what holds
pub record CanForce (case : Case) (held : List Claim) (c v : ℕ) (s : Order) : Type 0 where
  pub constraint : Constraint
  pub there : slice_get case.system.constraints c ≡ Some constraint
  pub forces : ForcesClaim (declared_in case.pairs constraint) held (claim_of case.pairs v s)

-- no row of the constraint agrees with what holds
pub record CanClose (case : Case) (held : List Claim) (c : ℕ) : Type 0 where
  pub constraint : Constraint
  pub there : slice_get case.system.constraints c ≡ Some constraint
  pub dead : IsDead (declared_in case.pairs constraint) held

-- A level closes: the log ends, or the opposite of what was tried holds round the branch.
abbrev pub Shuts : Case → List Claim → List Branch → Maker → Type 0
Shuts case pins [] m = Closes (ground_of case pins) m.lines.items
Shuts case pins (b ∷ branches) m = IsMaking case pins (with_claim b.before (reversed b.tried)) branches m

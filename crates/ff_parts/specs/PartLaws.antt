-- What holds of the parts of whatever is undecided, whoever found them.
use Rattle.std.specs.Prelude.{◌≡◌, ◌≢◌, ◌↔◌, ℕ, List, Option, Some, Contains, slice_get}
use Rattle.ff_tables.specs.declared.orders.Order.{Order}
use Rattle.ff_tables.specs.declared.terms.Constraint.{Constraint}
use Rattle.ff_tables.specs.Systems.{AreFit}
use Rattle.ff_propagate.specs.Parts.{IsUndecided, AreParts, Touches}
use Rattle.ff_parts.specs.Factors.{FactorsFor}

-- the variable is one of this part, and of no other
pub record IsInOnePart (parts : List (List ℕ)) (v : ℕ) : Type 0 where
  pub number : ℕ
  pub part : List ℕ
  pub there : slice_get parts number ≡ Some part
  pub among : Contains part v
  pub alone : (l : ℕ) (other : List ℕ) → slice_get parts l ≡ Some other → Contains other v → l ≡ number

-- The undecided variables are those of the parts, each of exactly one.
abbrev pub PartsShareOut : Type 0
PartsShareOut = (vars : ℕ) (cons : List Constraint) (value : ℕ → Option Order) (parts : List (List ℕ))
    → AreParts vars cons value parts → (v : ℕ) → IsUndecided vars value v ↔ IsInOnePart parts v

-- Two parts have no variable in common.
abbrev pub PartsAreApart : Type 0
PartsAreApart = (vars : ℕ) (cons : List Constraint) (value : ℕ → Option Order) (parts : List (List ℕ))
    → AreParts vars cons value parts → (k l : ℕ) (p q : List ℕ) → k ≢ l → slice_get parts k ≡ Some p
    → slice_get parts l ≡ Some q → (v : ℕ) → Contains p v → Contains q v → ⊥

-- No constraint touches two parts.
abbrev pub ConstraintsTouchOnePart : Type 0
ConstraintsTouchOnePart = (vars : ℕ) (cons : List Constraint) (value : ℕ → Option Order)
    (parts : List (List ℕ)) → AreFit vars cons → AreParts vars cons value parts → (c : ℕ) (con : Constraint)
    → slice_get cons c ≡ Some con → (k l : ℕ) (p q : List ℕ) → slice_get parts k ≡ Some p
    → slice_get parts l ≡ Some q → Touches p con → Touches q con → k ≡ l

-- For whichever givens the values are the closure, choices of one solution of each part correspond one-to-one to the
-- assignments that meet the constraints and hold the givens.
abbrev pub PartsFactor : Type 0
PartsFactor = (vars : ℕ) (cons : List Constraint) (value : ℕ → Option Order) (parts : List (List ℕ))
    → AreFit vars cons → AreParts vars cons value parts → FactorsFor vars cons value parts

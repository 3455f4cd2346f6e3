-- Independent parts of what a closure leaves undecided: classes of variables that constraints link.
-- Components.
use Rattle.std.specs.Prelude.{◌≡◌, ℕ, ◌<◌, ◌↔◌, List, [], ◌∷◌, length, slice_get, slice_index, Option, Some, None, Contains}
use Rattle.ff_tables.specs.declared.orders.Order.{Order}
use Rattle.ff_tables.specs.declared.terms.Constraint.{Constraint}
use Rattle.ff_tables.specs.Orders.{term_at}

-- a variable without a value
pub record IsUndecided (vars : ℕ) (value : ℕ → Option Order) (v : ℕ) : Type 0 where
  pub variable : v < vars
  pub open_yet : value v ≡ None

-- the variables stand in one constraint
pub record StandTogether (cons : List Constraint) (v w : ℕ) : Type 0 where
  pub number : ℕ
  pub constraint : Constraint
  pub there : slice_get cons number ≡ Some constraint
  pub first : ℕ
  pub second : ℕ
  pub first_inside : first < length constraint.terms
  pub second_inside : second < length constraint.terms
  pub first_is : (term_at constraint.terms first).var ≡ v
  pub second_is : (term_at constraint.terms second).var ≡ w

-- two undecided variables of one constraint
pub record AreLinked (vars : ℕ) (cons : List Constraint) (value : ℕ → Option Order) (v w : ℕ) : Type 0 where
  pub first : IsUndecided vars value v
  pub second : IsUndecided vars value w
  pub together : StandTogether cons v w

-- the variables of the list lead from v to w, each linked to the next; none leads from v to itself
abbrev pub IsLinkChain : ℕ → List Constraint → (ℕ → Option Order) → ℕ → List ℕ → ℕ → Type 0
IsLinkChain vars cons value v [] w = v ≡ w
IsLinkChain vars cons value v (u ∷ rest) w = AreLinked vars cons value v u
    × IsLinkChain vars cons value u rest w

-- a chain of constraints links the two undecided variables
abbrev pub AreConnected : ℕ → List Constraint → (ℕ → Option Order) → ℕ → ℕ → Type 0
AreConnected vars cons value v w = (chain : List ℕ) × IsLinkChain vars cons value v chain w

-- one class: an undecided variable and all that are connected to it, in increasing order
pub record IsPart (vars : ℕ) (cons : List Constraint) (value : ℕ → Option Order) (part : List ℕ) : Type 0 where
  pub some : 0 < length part
  pub undecided : (i : ℕ) → i < length part → IsUndecided vars value (slice_index part i)
  pub rising : (i j : ℕ) → i < j → j < length part → slice_index part i < slice_index part j
  pub class : (i v : ℕ) → i < length part → IsUndecided vars value v
      → AreConnected vars cons value (slice_index part i) v ↔ Contains part v

-- the parts: all classes, in order of their least variables
pub record AreParts (vars : ℕ) (cons : List Constraint) (value : ℕ → Option Order) (parts : List (List ℕ))
    : Type 0 where
  pub each : (k : ℕ) (part : List ℕ) → slice_get parts k ≡ Some part → IsPart vars cons value part
  pub all : (v : ℕ) → IsUndecided vars value v → (k : ℕ) × (part : List ℕ) × (slice_get parts k ≡ Some part)
      × Contains part v
  pub sorted : (k l : ℕ) (p q : List ℕ) → k < l → slice_get parts k ≡ Some p → slice_get parts l ≡ Some q
      → slice_index p 0 < slice_index q 0

-- the constraint has a variable of the part
pub record Touches (part : List ℕ) (con : Constraint) : Type 0 where
  pub place : ℕ
  pub inside : place < length con.terms
  pub among : Contains part (term_at con.terms place).var

-- the numbers of the constraints that have a variable of the part: all of them, each once, in increasing order
pub record AreTouching (cons : List Constraint) (part list : List ℕ) : Type 0 where
  pub each : (i : ℕ) → i < length list → (con : Constraint) × (slice_get cons (slice_index list i) ≡ Some con)
      × Touches part con
  pub all : (c : ℕ) (con : Constraint) → slice_get cons c ≡ Some con → Touches part con → Contains list c
  pub rising : (i j : ℕ) → i < j → j < length list → slice_index list i < slice_index list j

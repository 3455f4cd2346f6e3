-- Values that are set one after the other, and taken back.
use Rattle.std.specs.Prelude.{◌≡◌, ℕ, suc, ◌<◌, ◌≤◌, ◌^◌, ◌⊎◌, ◌==◌, Bool, true, List, [], ◌∷◌, ◌++◌, length, drop, slice_get, slice_index_or, slice_set, Option, Some, None, if◌then◌else◌, vec_capacity}
use Rattle.ff_tables.specs.declared.orders.Order.{Order}
use Rattle.ff_tables.specs.declared.terms.Term.{Term}
use Rattle.ff_tables.specs.declared.terms.Constraint.{Constraint}
use Rattle.ff_tables.specs.Orders.{term_at}
use Rattle.ff_tables.specs.Forces.{Forces, Knows, NoneAgrees}
use Rattle.ff_propagate.specs.declared.following.Passed.{Passed}
use Rattle.ff_propagate.specs.declared.following.Passed.TheVariants as passed
use Rattle.ff_propagate.specs.declared.trail.Step.{Step}
use Rattle.ff_propagate.specs.declared.trail.Trail.{Trail}

-- the value at a place of a list, and none past the last
abbrev pub value_in : List (Option Order) → ℕ → Option Order
value_in xs v = slice_index_or xs v None

-- the value that is known of a variable
abbrev pub known : Trail → ℕ → Option Order
known t v = value_in t.values.list.items v

-- the step with this number
abbrev pub step_at : Trail → ℕ → Step
step_at t i = slice_index_or t.steps.items i (record { var = 0; by = None })

-- how many values are known
abbrev pub count_known : List (Option Order) → ℕ
count_known [] = 0
count_known (None ∷ xs) = count_known xs
count_known (Some s ∷ xs) = suc (count_known xs)

-- the values without those of the steps' variables
abbrev pub without : (ℕ → Option Order) → List Step → ℕ → Option Order
without f [] w = f w
without f (s ∷ ss) w = if s.var == w then None else without f ss w

-- the values that were known when the trail had m steps
abbrev pub cut : Trail → ℕ → ℕ → Option Order
cut t m w = without (known t) (drop m t.steps.items) w

-- a value for each variable below vars, where it is known, steps of these variables, and room for as many
pub record IsTrail (vars : ℕ) (t : Trail) : Type 0 where
  pub few : vars < 2 ^ 32
  pub wide : length t.values.list.items ≡ vars
  pub room : vars ≤ vec_capacity t.steps
  pub count : length t.steps.items ≤ count_known t.values.list.items
  pub stepped : (i : ℕ) → i < length t.steps.items → (step_at t i).var < vars

-- The step with this number was forced: its constraint forces the value that it gave its variable from the values that were known
-- before.
pub record IsForcedAt (cons : List Constraint) (t : Trail) (i : ℕ) : Type 0 where
  pub number : ℕ
  pub by_number : (step_at t i).by ≡ Some number
  pub constraint : Constraint
  pub there : slice_get cons number ≡ Some constraint
  pub value : Order
  pub given : cut t (suc i) (step_at t i).var ≡ Some value
  pub forces : Forces constraint.kind constraint.terms (Knows (cut t i)) (step_at t i).var value

-- the steps from the n-th on were forced
abbrev pub AreForced : List Constraint → ℕ → Trail → Type 0
AreForced cons n t = (i : ℕ) → n ≤ i → i < length t.steps.items → IsForcedAt cons t i

-- the set of values has all that a constraint forces from it
abbrev pub IsKept : List Constraint → (ℕ → Order → Bool) → Type 0
IsKept cons set = (c : ℕ) (con : Constraint) → slice_get cons c ≡ Some con → (v : ℕ) (s : Order)
    → Forces con.kind con.terms (λ u t. set u t ≡ true) v s → set v s ≡ true

-- the set has the values of the trail
abbrev pub Covers : (ℕ → Order → Bool) → Trail → Type 0
Covers set t = (v : ℕ) (s : Order) → known t v ≡ Some s → set v s ≡ true

-- the trail grew by values that constraints force
pub record Grows (cons : List Constraint) (old new : Trail) : Type 0 where
  pub count : length old.steps.items ≤ length new.steps.items
  pub front : (i : ℕ) → i < length old.steps.items → step_at new i ≡ step_at old i
  pub changed : (v : ℕ)
      → (known new v ≡ known old v)
      ⊎ ((i : ℕ) × (length old.steps.items ≤ i) × (i < length new.steps.items) × ((step_at new i).var ≡ v))
  pub kept : (v : ℕ) (s : Order) → known old v ≡ Some s → known new v ≡ Some s
  pub same : (m : ℕ) → m ≤ length old.steps.items → (v : ℕ) → cut new m v ≡ cut old m v
  pub forced : AreForced cons (length old.steps.items) new
  pub derived : (set : ℕ → Order → Bool) → IsKept cons set → Covers set old → Covers set new

-- the variable v, which had no value, gets the value s
pub record IsStepped (old : Trail) (v : ℕ) (s : Order) (by : Option ℕ) (new : Trail) : Type 0 where
  pub values : new.values.list.items ≡ slice_set old.values.list.items v (Some s)
  pub steps : new.steps.items ≡ old.steps.items ++ record { var = v; by = by } ∷ []
  pub room : vec_capacity new.steps ≡ vec_capacity old.steps

-- a variable of the terms got its value in the head-th step or later
abbrev pub Waits : Trail → ℕ → List Term → Type 0
Waits t head ts = (i : ℕ) × (j : ℕ) × (head ≤ i) × (i < length t.steps.items) × (j < length ts)
    × ((step_at t i).var ≡ (term_at ts j).var)

-- what the constraint forces is known
abbrev pub IsSilent : (ℕ → Option Order) → Constraint → Type 0
IsSilent f con = (v : ℕ) (s : Order) → Forces con.kind con.terms (Knows f) v s → f v ≡ Some s

-- the constraint waits or is silent
abbrev pub Rests : Trail → ℕ → Constraint → Type 0
Rests t head con = Waits t head con.terms ⊎ IsSilent (known t) con

-- each of the first n constraints waits or is silent
abbrev pub AreReadyBelow : List Constraint → Trail → ℕ → ℕ → Type 0
AreReadyBelow cons t head n = (c : ℕ) (con : Constraint) → c < n → slice_get cons c ≡ Some con → Rests t head con

-- each constraint waits or is silent
abbrev pub AreReady : List Constraint → Trail → ℕ → Type 0
AreReady cons t head = (c : ℕ) (con : Constraint) → slice_get cons c ≡ Some con → Rests t head con

-- the constraint with this number has no row that agrees
pub record IsDead (cons : List Constraint) (t : Trail) (c : ℕ) : Type 0 where
  pub constraint : Constraint
  pub there : slice_get cons c ≡ Some constraint
  pub none : NoneAgrees constraint.kind constraint.terms (Knows (known t))

-- how constraints were examined: each waits or is silent, or one is dead
abbrev pub Ends : List Constraint → ℕ → Trail → Option ℕ → Type 0
Ends cons head t None = AreReady cons t head
Ends cons head t (Some c) = IsDead cons t c

-- how passes over all constraints end: one is dead, or each waits for a step from the one with this number on, or is silent
abbrev pub PassesEnd : List Constraint → Trail → Passed → Type 0
PassesEnd cons t (passed.Dead c) = IsDead cons t c
PassesEnd cons t (passed.Waiting head) = (head ≤ length t.steps.items) × AreReady cons t head

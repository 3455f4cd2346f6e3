-- Which orders of each pair are said.
-- For the proofs of this crate alone.
use Rattle.std.specs.Prelude.{◌≡◌, ℕ, ◌<◌, Bool, false, ◌&&◌, not, List, length, take, slice_get, slice_index_or, if◌then◌else◌, Some, IsTrue}
use Rattle.ff_tables.specs.declared.orders.Order.{Order}
use Rattle.ff_tables.specs.declared.orders.Order.TheVariants.{Below, Above}
use Rattle.ff_tables.specs.declared.givens.Given.{Given}
use Rattle.ff_tables.specs.declared.terms.Constraint.{Constraint}
use Rattle.ff_tables.specs.Forces.{NoneAgrees, Knows}
use Rattle.ff_types.specs.declared.cites.Cite.{Cite}
use Rattle.ff_types.specs.declared.cites.Cite.TheVariants as cite
use Rattle.ff_types.specs.declared.cases.Case.{Case}
use Rattle.ff_types.specs.CaseFields.{edge_of, start_at}
use Rattle.ff_orders.specs.declared.items.OrderItem.{OrderItem}
use Rattle.ff_orders.specs.declared.items.OrderVerdict.{OrderVerdict}
use Rattle.ff_orders.specs.declared.items.OrderVerdict.TheVariants.{Verified, Contradiction, Missing, Mark, Cycle, Crossing}
use Rattle.ff_orders.specs.declared.said.Said.{Said}
use Rattle.ff_orders.specs.Said.{is_said}
use Rattle.ff_orders.specs.Verdicts.{IsFirst, Never}

-- what is noted of a pair, whose number is to be below the length
abbrev pub said_at : List Said → ℕ → Said
said_at said n = slice_index_or said n (record { lesser = false; greater = false })

-- nothing noted
abbrev pub no_order : Said
no_order = record { lesser = false; greater = false }

-- for each pair whether its lesser face is said to be above the greater one, and whether the greater one above the lesser, by
-- the first i items
pub record AreNoted (up : List Bool) (pairs : List (ℕ × ℕ)) (items : List OrderItem) (i : ℕ) (said : List Said) : Type 0 where
  pub counted : length said ≡ length pairs
  pub lesser : (n f h : ℕ) → slice_get pairs n ≡ Some (f, h) → (said_at said n).lesser ≡ is_said up (take i items) f h
  pub greater : (n f h : ℕ) → slice_get pairs n ≡ Some (f, h) → (said_at said n).greater ≡ is_said up (take i items) h f

-- both orders are noted
abbrev pub is_both : Said → Bool
is_both s = s.lesser && s.greater

-- neither is noted
abbrev pub is_none : Said → Bool
is_none s = not s.lesser && not s.greater

-- the order of the lesser face to the greater one, where one is noted
abbrev pub order_of : Said → Order
order_of s = if s.lesser then Above else Below

-- the order noted of the pair of a variable
abbrev pub value_of : List Said → ℕ → Order
value_of said v = order_of (said_at said v)

-- both orders of the pair with this number are noted
pub record BothAt (said : List Said) (n : ℕ) : Type 0 where
  pub within : n < length said
  pub both : IsTrue (is_both (said_at said n))

-- neither is noted
pub record NoneAt (said : List Said) (n : ℕ) : Type 0 where
  pub within : n < length said
  pub none : IsTrue (is_none (said_at said n))

-- the starts are of pairs below the count
abbrev pub AreWithin : List Given → ℕ → Type 0
AreWithin starts count = (i : ℕ) (s : Given) → slice_get starts i ≡ Some s → s.var < count

-- the start has another value than is noted
pub record BrokenAt (said : List Said) (starts : List Given) (i : ℕ) : Type 0 where
  pub within : i < length starts
  pub broken : value_of said (start_at starts i).var ≡ (start_at starts i).value → ⊥

-- no row of the constraint has the values that are noted
abbrev pub IsDeadBy : List Said → Constraint → Type 0
IsDeadBy said con = NoneAgrees con.kind con.terms (Knows (λ v. Some (value_of said v)))

-- so it is of the constraint with this number
pub record DeadAt (said : List Said) (cons : List Constraint) (c : ℕ) : Type 0 where
  pub con : Constraint
  pub there : slice_get cons c ≡ Some con
  pub dead : IsDeadBy said con

-- the verdict where the first constraint without a row has this cite
abbrev pub verdict_by : Cite → OrderVerdict
verdict_by (cite.Transitivity f h k at) = Cycle f h k
verdict_by c = Crossing c

-- each pair has one order
pub record HaveOrders (said : List Said) : Type 0 where
  pub no_both : Never (BothAt said)
  pub no_none : Never (NoneAt said)

-- and each start is noted
pub record HaveStarts (case : Case) (said : List Said) : Type 0 where
  pub orders : HaveOrders said
  pub no_broken : Never (BrokenAt said case.starts)

-- the verdict is by the first constraint without a row
pub record IsUnmet (case : Case) (said : List Said) (verdict : OrderVerdict) : Type 0 where
  pub passed : HaveStarts case said
  pub number : ℕ
  pub cite : Cite
  pub there : slice_get case.cites number ≡ Some cite
  pub first : IsFirst (DeadAt said case.system.constraints) number
  pub same : verdict ≡ verdict_by cite

-- the verdict by what is noted
abbrev pub IsNotedVerdict : Case → List Said → OrderVerdict → Type 0
IsNotedVerdict case said (Contradiction f h) =
    (n : ℕ) × (slice_get case.pairs n ≡ Some (f, h)) × IsFirst (BothAt said) n
IsNotedVerdict case said (Missing f h) = Never (BothAt said)
    × ((n : ℕ) × (slice_get case.pairs n ≡ Some (f, h)) × IsFirst (NoneAt said) n)
IsNotedVerdict case said (Mark e) = HaveOrders said
    × ((i : ℕ) × (e ≡ edge_of (start_at case.starts i).by) × IsFirst (BrokenAt said case.starts) i)
IsNotedVerdict case said (Cycle f h k) = IsUnmet case said (Cycle f h k)
IsNotedVerdict case said (Crossing c) = IsUnmet case said (Crossing c)
IsNotedVerdict case said Verified = HaveStarts case said × Never (DeadAt said case.system.constraints)

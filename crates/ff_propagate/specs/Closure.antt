-- The closure of what is known at first, under constraints: the least set that holds it and all that some
-- constraint forces from the set. Propagation, as a least set.
use Rattle.std.specs.Prelude.{◌≡◌, ℕ, ◌↔◌, Bool, List, slice_get, IsTrue, Option, Some}
use Rattle.ff_tables.specs.declared.orders.Order.{Order}
use Rattle.ff_tables.specs.declared.orders.Order.TheVariants.{Below, Above}
use Rattle.ff_tables.specs.declared.terms.Constraint.{Constraint}
use Rattle.ff_tables.specs.declared.givens.Given.{Given}
use Rattle.ff_tables.specs.Forces.{Forces, Knows}

-- the set holds the base, and all that some constraint forces from the set
pub record IsClosed (cons : List Constraint) (base : ℕ → Order → Type 0) (set : ℕ → Order → Bool) : Type 0 where
  pub base_held : (v : ℕ) (s : Order) → base v s → IsTrue (set v s)
  pub forced_held : (c : ℕ) (con : Constraint) (v : ℕ) (s : Order) → slice_get cons c ≡ Some con
      → Forces con.kind con.terms (λ u t. IsTrue (set u t)) v s → IsTrue (set v s)

-- the closure of the base has the value s of the variable v: every set that is closed has it
abbrev pub InClosure : List Constraint → (ℕ → Order → Type 0) → ℕ → Order → Type 0
InClosure cons base v s = (set : ℕ → Order → Bool) → IsClosed cons base set → IsTrue (set v s)

-- the closure clashes: it has both values of some variable
pub record Clashes (cons : List Constraint) (base : ℕ → Order → Type 0) : Type 0 where
  pub variable : ℕ
  pub below : InClosure cons base variable Below
  pub above : InClosure cons base variable Above

-- the values are exactly the closure, which then doesn't clash
abbrev pub IsClosure : List Constraint → (ℕ → Order → Type 0) → (ℕ → Option Order) → Type 0
IsClosure cons base value = (v : ℕ) (s : Order) → Knows value v s ↔ InClosure cons base v s

-- the i-th given is of this variable and value
pub record IsGiven (gs : List Given) (i v : ℕ) (s : Order) : Type 0 where
  pub given : Given
  pub there : slice_get gs i ≡ Some given
  pub variable : given.var ≡ v
  pub value : given.value ≡ s

-- what a list of givens says
abbrev pub Gives : List Given → ℕ → Order → Type 0
Gives gs v s = (i : ℕ) × IsGiven gs i v s

-- an assignment holds the givens
abbrev pub HoldsGivens : List Given → (ℕ → Option Order) → Type 0
HoldsGivens gs value = (i : ℕ) (g : Given) → slice_get gs i ≡ Some g → Knows value g.var g.value

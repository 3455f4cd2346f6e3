-- When a fact of a word stands on facts of other words. A list of words has a word for each variable. This project's own.
use Rattle.std.specs.Prelude.{zero, suc, ◌≤◌, ◌⊎◌, ◌≡◌, ◌≢◌, ℕ, ◌+◌, ◌/◌, ◌%◌, ◌<◌, ◌==◌, Bool, true, List, length, slice_get, Option, Some}
use Rattle.std.specs.Arc.{arc_value}
use Rattle.ff_tables.specs.declared.orders.Order.{Order}
use Rattle.ff_tables.specs.declared.terms.Term.{Term}
use Rattle.ff_tables.specs.declared.terms.Constraint.{Constraint}
use Rattle.ff_tables.specs.Orders.{term_at}
use Rattle.ff_tables.specs.Forces.{Forces}
use Rattle.ff_propagate.specs.declared.facts.Fact.{Fact}
use Rattle.ff_propagate.specs.declared.facts.Reason.{Reason}
use Rattle.ff_propagate.specs.declared.facts.Reason.TheVariants as by
use Rattle.ff_propagate.specs.declared.words.Held.{Held}
use Rattle.ff_propagate.specs.Closure.{InClosure, Gives, IsGiven}
use Rattle.ff_propagate.specs.Words.{held}
use Rattle.ff_board.specs.declared.opening.Opening.{Opening}

-- how many variables the case has
abbrev pub vars_in : Opening → ℕ
vars_in o = (arc_value o.case).system.vars

-- the constraints of the case
abbrev pub cons_in : Opening → List Constraint
cons_in o = (arc_value o.case).system.constraints

-- the mark of the j-th term is among the marks: the j-th bit is 1
abbrev pub is_marked : ℕ → ℕ → Bool
is_marked marks zero = marks % 2 == 1
is_marked marks (suc j) = is_marked (marks / 2) j

-- each fact of the words ws stands in the words xs
abbrev pub Grows : List ℕ → List ℕ → Type 0
Grows ws xs = (v : ℕ) (h : Held) → held ws v ≡ Some h → held xs v ≡ Some h

-- a fact of the variable v has the value s
abbrev pub SeenAt : List ℕ → ℕ → Order → Type 0
SeenAt ws v s = (h : Held) × (held ws v ≡ Some h) × (h.fact.value ≡ s)

-- the variable v has a fact of a level below k
abbrev pub Lower : List ℕ → ℕ → ℕ → Type 0
Lower ws k v = (g : Held) × (held ws v ≡ Some g) × (g.fact.level < k)

-- a fact of a level below k gives the variable v the value s
abbrev pub SeenBelow : List ℕ → ℕ → ℕ → Order → Type 0
SeenBelow ws k v s = (g : Held) × (held ws v ≡ Some g) × (g.fact.level < k) × (g.fact.value ≡ s)

-- a marked term has the variable v, whose fact has the value s
abbrev pub Marked : List ℕ → List Term → ℕ → ℕ → Order → Type 0
Marked ws ts marks v s = (j : ℕ) × (j < length ts) × (is_marked marks j ≡ true) × ((term_at ts j).var ≡ v)
    × SeenAt ws v s

-- a fact of the variable v by the constraint c: its level is above 0, the marked terms have facts of lower
-- levels, and these force its value
pub record ForcedOk (o : Opening) (ws : List ℕ) (v : ℕ) (h : Held) (c : ℕ) : Type 0 where
  pub con : Constraint
  pub there : slice_get (cons_in o) c ≡ Some con
  pub up : 0 < h.fact.level
  pub lower : (j : ℕ) → j < length con.terms → is_marked h.marks j ≡ true
      → Lower ws h.fact.level (term_at con.terms j).var
  pub forces : Forces con.kind con.terms (Marked ws con.terms h.marks) v h.fact.value

-- a fact of the variable v stands by this reason
abbrev pub ReasonOk : Opening → List ℕ → ℕ → Held → Reason → Type 0
ReasonOk o ws v h (by.Given i) = (h.fact.level ≡ 0) × IsGiven o.givens i v h.fact.value
ReasonOk o ws v h (by.Forced c) = ForcedOk o ws v h c

-- a fact of the variable v stands by its reason
abbrev pub FactOk : Opening → List ℕ → ℕ → Held → Type 0
FactOk o ws v h = ReasonOk o ws v h h.fact.reason

-- where the reason is a constraint, its marked terms have facts
abbrev pub AllSeenBy : Opening → List ℕ → ℕ → Reason → Type 0
AllSeenBy o ws marks (by.Given i) = Unit {0}
AllSeenBy o ws marks (by.Forced c) = (con : Constraint) → slice_get (cons_in o) c ≡ Some con → (j : ℕ)
    → j < length con.terms → is_marked marks j ≡ true → (g : Held) × (held ws (term_at con.terms j).var ≡ Some g)

-- the marked terms of a fact have facts
abbrev pub AllSeen : Opening → List ℕ → Held → Type 0
AllSeen o ws h = AllSeenBy o ws h.marks h.fact.reason

-- each fact of which all marked terms have facts stands by its reason
abbrev pub Sound : Opening → List ℕ → Type 0
Sound o ws = (v : ℕ) (h : Held) → held ws v ≡ Some h → AllSeen o ws h → FactOk o ws v h

-- a level that a seat may offer: at most one above the greatest that it has seen, and 1 where it has seen none
abbrev pub Reaches : List ℕ → ℕ → Type 0
Reaches ws k = (k ≤ 1) ⊎ ((u : ℕ) × (g : Held) × (held ws u ≡ Some g) × (k ≤ g.fact.level + 1))

-- the facts are in the closure of the board's givens
abbrev pub AllIn : Opening → List ℕ → Type 0
AllIn o ws = (v : ℕ) (h : Held) → held ws v ≡ Some h → InClosure (cons_in o) (Gives o.givens) v h.fact.value

-- the reason is a constraint, which forces the value of the fact f of the variable v from facts of lower levels
abbrev pub IsForcedSeen : Opening → List ℕ → ℕ → Fact → Reason → Type 0
IsForcedSeen o ws v f (by.Given i) = ⊥
IsForcedSeen o ws v f (by.Forced c) = (con : Constraint) × (slice_get (cons_in o) c ≡ Some con)
    × Forces con.kind con.terms (SeenBelow ws f.level) v f.value

-- the marks of a fact of the variable v of the level k: the marked terms have lower facts afterwards, and each
-- other term that had a lower fact before is marked
pub record AreMarksFound (ts : List Term) (old new : List ℕ) (v k marks : ℕ) : Type 0 where
  pub marked : (j : ℕ) → j < length ts → is_marked marks j ≡ true → Lower new k (term_at ts j).var
  pub all : (j : ℕ) (g : Held) → j < length ts → (term_at ts j).var ≢ v → held old (term_at ts j).var ≡ Some g
      → g.fact.level < k → is_marked marks j ≡ true

-- the same of the terms of the reason's constraint
abbrev pub MarksFound : Opening → List ℕ → List ℕ → ℕ → ℕ → ℕ → Reason → Type 0
MarksFound o old new v k marks (by.Given i) = Unit {0}
MarksFound o old new v k marks (by.Forced c) = (con : Constraint) → slice_get (cons_in o) c ≡ Some con
    → AreMarksFound con.terms old new v k marks

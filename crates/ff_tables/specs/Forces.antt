-- What a constraint forces from what is known of variables. `known v s` says that the variable v is known to
-- have the value s: a relation, so that more that is known leaves fewer rows, and each user says what knowing
-- means.
use Rattle.std.specs.Prelude.{◌≡◌, ℕ, zero, suc, ◌<◌, ◌⊎◌, ◌&&◌, Bool, true, List, length, slice_get, Option, Some, None}
use Rattle.ff_tables.specs.declared.orders.Order.{Order}
use Rattle.ff_tables.specs.declared.orders.Order.TheVariants.{Below, Above}
use Rattle.ff_tables.specs.declared.terms.Kind.{Kind}
use Rattle.ff_tables.specs.declared.terms.Term.{Term}
use Rattle.ff_tables.specs.declared.terms.Constraint.{Constraint}
use Rattle.ff_tables.specs.declared.known.Forced.{Forced}
use Rattle.ff_tables.specs.declared.known.Forced.TheVariants.{Nothing, Value, Dead}
use Rattle.ff_tables.specs.Orders.{turn, turned_option, fits, term_at, row_at}
use Rattle.ff_tables.specs.Rows.{HasRow}

-- the row agrees: it has each value that is known of a term. Where both values are known of a term no row
-- agrees.
abbrev pub Agrees : List Term → (ℕ → Order → Type 0) → List Order → Type 0
Agrees ts known row = (j : ℕ) (b : Order) → j < length ts
    → known (term_at ts j).var (turn (term_at ts j).flipped b) → row_at row j ≡ b

-- some row agrees
abbrev pub SomeAgrees : Kind → List Term → (ℕ → Order → Type 0) → Type 0
SomeAgrees kind ts known = (k : ℕ) × (row : List Order) × HasRow kind k row × Agrees ts known row

-- no row agrees: the constraint is dead
abbrev pub NoneAgrees : Kind → List Term → (ℕ → Order → Type 0) → Type 0
NoneAgrees kind ts known = (k : ℕ) (row : List Order) → HasRow kind k row → Agrees ts known row → ⊥

-- each row that agrees has the value s at the term p
abbrev pub Only : Kind → List Term → (ℕ → Order → Type 0) → ℕ → Order → Type 0
Only kind ts known p s = (k : ℕ) (row : List Order) → HasRow kind k row → Agrees ts known row → row_at row p ≡ s

-- some row that agrees has the value s at the term p
abbrev pub Can : Kind → List Term → (ℕ → Order → Type 0) → ℕ → Order → Type 0
Can kind ts known p s = (k : ℕ) × (row : List Order) × HasRow kind k row × Agrees ts known row
    × (row_at row p ≡ s)

-- the constraint forces the value s of the variable v: v is one of its variables, and each row that agrees
-- has s at v
abbrev pub Forces : Kind → List Term → (ℕ → Order → Type 0) → ℕ → Order → Type 0
Forces kind ts known v s = (p : ℕ) × (p < length ts) × ((term_at ts p).var ≡ v)
    × Only kind ts known p (turn (term_at ts p).flipped s)

-- what a function on variables knows
abbrev pub Knows : (ℕ → Option Order) → ℕ → Order → Type 0
Knows f v s = f v ≡ Some s

-- what is known of the term j
abbrev pub known_at : List Term → (ℕ → Option Order) → ℕ → Option Order
known_at ts f j = turned_option (term_at ts j).flipped (f (term_at ts j).var)

-- the same as a test of what a function knows: the row has what is known of each of the first n terms
abbrev pub agrees_below : List Term → (ℕ → Option Order) → ℕ → List Order → Bool
agrees_below ts f zero row = true
agrees_below ts f (suc j) row = agrees_below ts f j row && fits (known_at ts f j) (row_at row j)

-- each of the first n terms' variables is known
abbrev pub AreKnown : List Term → (ℕ → Option Order) → ℕ → Type 0
AreKnown ts f n = (p : ℕ) → p < n → (s : Order) × Knows f (term_at ts p).var s

-- the term's variable is known, or the term can have both values
abbrev pub Settled : Kind → List Term → (ℕ → Option Order) → ℕ → Type 0
Settled kind ts f p = ((s : Order) × Knows f (term_at ts p).var s)
    ⊎ (Can kind ts (Knows f) p Below × Can kind ts (Knows f) p Above)

-- so it is of each of the first n terms
abbrev pub SettlesBelow : Kind → List Term → (ℕ → Option Order) → ℕ → Type 0
SettlesBelow kind ts f n = (p : ℕ) → p < n → Settled kind ts f p

-- some row agrees, and v is the variable of the first unknown term that has one value in all rows that agree,
-- which gives v the value s
pub record IsFirst (kind : Kind) (ts : List Term) (f : ℕ → Option Order) (v : ℕ) (s : Order) : Type 0 where
  pub at : ℕ
  pub within : at < length ts
  pub var : (term_at ts at).var ≡ v
  pub unknown : f v ≡ None
  pub only : Only kind ts (Knows f) at (turn (term_at ts at).flipped s)
  pub some : SomeAgrees kind ts (Knows f)
  pub before : SettlesBelow kind ts f at

-- what `forced` answers: Dead exactly where no row agrees, else the first forced value, else Nothing
abbrev pub ForcedIs : Kind → List Term → (ℕ → Option Order) → Forced → Type 0
ForcedIs kind ts f Nothing = SomeAgrees kind ts (Knows f) × SettlesBelow kind ts f (length ts)
ForcedIs kind ts f (Value v s) = IsFirst kind ts f v s
ForcedIs kind ts f Dead = NoneAgrees kind ts (Knows f)

-- an assignment of values to all variables meets the constraints: it gives each of them one of its rows
abbrev pub Meets : List Constraint → (ℕ → Order) → Type 0
Meets cons a = (c : ℕ) (con : Constraint) → slice_get cons c ≡ Some con
    → SomeAgrees con.kind con.terms (λ v s. a v ≡ s)

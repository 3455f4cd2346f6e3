-- What holds of the terms of a constraint.
-- For the proofs of this crate alone.
use Rattle.std.specs.Prelude.{◌≡◌, ℕ, ◌<◌, Bool, true, false, IsTrue, List, [], ◌∷◌, length, slice_index_or, Option, Some, None}
use Rattle.ff_tables.specs.declared.orders.Order.{Order}
use Rattle.ff_tables.specs.declared.orders.Order.TheVariants.{Below, Above}
use Rattle.ff_tables.specs.Orders.{row_at}
use Rattle.ff_tables.specs.Rows.{HasRow}
use Rattle.ff_tables.specs.declared.terms.Kind.{Kind}
use Rattle.ff_tables.specs.declared.terms.Kind.TheVariants as kind
use Rattle.ff_tables.specs.declared.terms.Term.{Term}
use Rattle.ff_log.specs.declared.claims.Claim.{Claim}
use Rattle.ff_log.specs.declared.claims.Declared.{Declared}
use Rattle.ff_log.specs.Logs.{claim_at, holds, Agrees}

-- a term of a variable of its own
abbrev pub plain : ℕ → Term
plain j = record { var = j; flipped = false }

-- the terms of a constraint on variables of its own, none of them flipped
abbrev pub plain_terms : Kind → List Term
plain_terms kind.TacoTaco = plain 0 ∷ plain 1 ∷ plain 2 ∷ plain 3 ∷ plain 4 ∷ plain 5 ∷ []
plain_terms kind.Transitivity = plain 0 ∷ plain 1 ∷ plain 2 ∷ []
plain_terms kind.TacoTortilla = plain 0 ∷ plain 1 ∷ []
plain_terms kind.TortillaTortilla = plain 0 ∷ plain 1 ∷ []

-- the value that is known where the two orders hold or not; none where both do
abbrev pub value_of : Bool → Bool → Option Order
value_of true false = Some Above
value_of false true = Some Below
value_of _ _ = None

-- the known value of a variable, none past the end
abbrev pub known_in : List (Option Order) → ℕ → Option Order
known_in values j = slice_index_or values j None

-- the value that is known of the term at the place
abbrev pub known_of : Declared → List Claim → ℕ → Option Order
known_of d held j = value_of (holds held (claim_at d j Above)) (holds held (claim_at d j Below))

-- both values hold of the term at the place
abbrev pub HasBoth : Declared → List Claim → ℕ → Type 0
HasBoth d held j = IsTrue (holds held (claim_at d j Above)) × IsTrue (holds held (claim_at d j Below))

-- the terms before place n have been read
pub record AreRead (d : Declared) (held : List Claim) (n : ℕ) (values : List (Option Order)) (both : Bool) : Type 0 where
  pub six : length values ≡ 6
  pub known : (j : ℕ) → j < n → known_in values j ≡ known_of d held j
  pub some : IsTrue both → (j : ℕ) × (j < n) × HasBoth d held j
  pub none : both ≡ false → (j : ℕ) → j < n → HasBoth d held j → ⊥

-- each row that agrees has the value at the place
abbrev pub Only : Declared → List Claim → ℕ → Order → Type 0
Only d held j s = (k : ℕ) (row : List Order) → HasRow d.kind k row → Agrees d held row → row_at row j ≡ s

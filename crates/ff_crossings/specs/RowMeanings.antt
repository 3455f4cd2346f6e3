-- What it says of an order of faces that the values of terms are a row. The families are those of
-- Flat-Folder's documentation; these exact rows are this project's own.
use Rattle.std.specs.Prelude.{◌≡◌, ◌≢◌, ℕ, ◌↔◌, Bool, not, List, [], ◌∷◌, map, IsTrue}
use Rattle.ff_tables.specs.declared.orders.Order.{Order}
use Rattle.ff_tables.specs.declared.terms.Kind.{Kind}
use Rattle.ff_tables.specs.declared.terms.Kind.TheVariants.{TacoTaco, Transitivity}
use Rattle.ff_tables.specs.Rows.{is_row, HasRow}
use Rattle.ff_types.specs.Terms.{value_in}
use Rattle.ff_types.specs.Stackings.{CanBeListed}
use Rattle.ff_crossings.specs.Listings.{AreCompared}
use Rattle.ff_crossings.specs.Alternating.{Interleave}

-- the values are a row of the kind
abbrev pub IsSomeRow : Kind → List Order → Type 0
IsSomeRow kind row = (k : ℕ) × HasRow kind k row

-- whether values are a row is told by the test of the kind
abbrev pub RowsByTest : Type 0
RowsByTest = (kind : Kind) (row : List Order) → IsSomeRow kind row ↔ IsTrue (is_row kind row)

-- the values of all terms
abbrev pub values : (ℕ → ℕ → Bool) → List (ℕ × ℕ) → List Order
values above terms = map (value_in above) terms

-- two terms are equal
abbrev pub EqualRows : Kind → Type 0
EqualRows kind = (above : ℕ → ℕ → Bool) (p q : ℕ × ℕ)
    → IsSomeRow kind (values above (p ∷ q ∷ [])) ↔ (above p.0 p.1 ≡ above q.0 q.1)

-- three faces go round, each above the next
abbrev pub GoRound : (ℕ → ℕ → Bool) → ℕ → ℕ → ℕ → Type 0
GoRound above f h k = IsTrue (above f h) × IsTrue (above h k) × IsTrue (above k f)

-- three faces, of which each two are compared, go round neither way
abbrev pub TransitivityRows : Type 0
TransitivityRows = (above : ℕ → ℕ → Bool) (f h k : ℕ)
    → above f h ≡ not (above h f) → above h k ≡ not (above k h) → above k f ≡ not (above f k)
    → IsSomeRow Transitivity (values above ((f, h) ∷ (f, k) ∷ (h, k) ∷ []))
    ↔ ((GoRound above f h k → ⊥) × (GoRound above f k h → ⊥))

-- no two of the four faces are the same
pub record AreFour (a b c d : ℕ) : Type 0 where
  pub ab : a ≢ b
  pub ac : a ≢ c
  pub ad : a ≢ d
  pub bc : b ≢ c
  pub bd : b ≢ d
  pub cd : c ≢ d

-- the pairs among four faces, in order
abbrev pub four_terms : ℕ → ℕ → ℕ → ℕ → List (ℕ × ℕ)
four_terms a b c d = (a, b) ∷ (a, c) ∷ (a, d) ∷ (b, c) ∷ (b, d) ∷ (c, d) ∷ []

-- four faces that can be listed: the pairs {a, b} and {c, d} don't interleave
abbrev pub TacoTacoRows : Type 0
TacoTacoRows = (above : ℕ → ℕ → Bool) (a b c d : ℕ) → AreFour a b c d
    → AreCompared above (a ∷ b ∷ c ∷ d ∷ []) → CanBeListed above (a ∷ b ∷ c ∷ d ∷ [])
    → IsSomeRow TacoTaco (values above (four_terms a b c d)) ↔ (Interleave above a b c d → ⊥)

-- Sets of rows as bits, which the code has in place of the lists of rows.
-- For the proofs of this crate alone.
use Rattle.std.specs.Prelude.{◌≡◌, ℕ, ◌+◌, ◌*◌, ◌⊎◌, Bool, true, List, [], ◌∷◌, map, Option, Some, None, if◌then◌else◌}
use Rattle.ff_tables.specs.declared.orders.Order.{Order}
use Rattle.ff_tables.specs.declared.orders.Order.TheVariants.{Below, Above}
use Rattle.ff_tables.specs.declared.terms.Kind.{Kind}
use Rattle.ff_tables.specs.declared.terms.Kind.TheVariants.{TacoTaco, TacoTortilla, TortillaTortilla, Transitivity}
use Rattle.ff_tables.specs.Orders.{is_order, row_at}
use Rattle.ff_tables.specs.Rows.{rows_of, HasRow}

-- where the masks of the kind begin in the table
abbrev pub base : Kind → ℕ
base TacoTaco = 0
base TacoTortilla = 18
base TortillaTortilla = 18
base Transitivity = 12

-- which of the two masks of a term
abbrev pub side_of : Order → ℕ
side_of Below = 0
side_of Above = 1

-- the tests as bits, the first lowest
unfoldable pub bits : List Bool → ℕ
bits [] = 0
bits (b ∷ bs) = bits bs * 2 + (if b then 1 else 0)

-- the rows that have the value b at the term j
abbrev pub mask_of : Kind → ℕ → Order → ℕ
mask_of kind j b = bits (map (λ row. is_order b (row_at row j)) (rows_of kind))

-- some row for which g holds has the value b at the term j
abbrev pub SomeHas : Kind → (List Order → Bool) → ℕ → Order → Type 0
SomeHas kind g j b = (k : ℕ) × (row : List Order) × HasRow kind k row × (g row ≡ true) × (row_at row j ≡ b)

-- the value that all rows for which g holds have at the term j; None where both values come
abbrev pub OnlyIs : Kind → (List Order → Bool) → ℕ → Option Order → Type 0
OnlyIs kind g j None = SomeHas kind g j Below × SomeHas kind g j Above
OnlyIs kind g j (Some s) = (k : ℕ) (row : List Order) → HasRow kind k row → g row ≡ true → row_at row j ≡ s

-- the same where nothing is known of the term
abbrev pub OpenIs : Kind → (List Order → Bool) → ℕ → Option Order → Option Order → Type 0
OpenIs kind g j known None = ((s : Order) × (known ≡ Some s)) ⊎ OnlyIs kind g j None
OpenIs kind g j known (Some s) = (known ≡ None) × OnlyIs kind g j (Some s)

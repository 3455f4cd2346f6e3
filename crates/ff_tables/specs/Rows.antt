-- The rows of each kind of constraint: the lists of values that its terms may have together, in term order.
-- The families' names are those of Flat-Folder's documentation; these exact rows are this project's own.
use Rattle.std.specs.Prelude.{◌≡◌, ℕ, zero, suc, ◌&&◌, Bool, true, false, List, [], ◌∷◌, ◌++◌, map, filter, slice_get, Some}
use Rattle.ff_tables.specs.declared.orders.Order.{Order}
use Rattle.ff_tables.specs.declared.orders.Order.TheVariants.{Below, Above}
use Rattle.ff_tables.specs.declared.terms.Kind.{Kind}
use Rattle.ff_tables.specs.declared.terms.Kind.TheVariants.{TacoTaco, TacoTortilla, TortillaTortilla, Transitivity}
use Rattle.ff_tables.specs.Orders.{is_order}

-- how many terms a constraint of the kind has
abbrev pub arity : Kind → ℕ
arity TacoTaco = 6
arity TacoTortilla = 2
arity TortillaTortilla = 2
arity Transitivity = 3

-- all lists of n values, in lexicographic order with Below before Above
abbrev pub all_lists : ℕ → List (List Order)
all_lists zero = [] ∷ []
all_lists (suc n) = map (λ rest. Below ∷ rest) (all_lists n) ++ map (λ rest. Above ∷ rest) (all_lists n)

-- three faces p, q, r with the values of (p,q), (p,r), (q,r) don't go round: not p above q above r above p,
-- and not the other way round
abbrev pub has_no_cycle : Order → Order → Order → Bool
has_no_cycle Above Below Above = false
has_no_cycle Below Above Below = false
has_no_cycle pq pr qr = true

-- both tests hold or neither
abbrev pub both_or_neither : Bool → Bool → Bool
both_or_neither true true = true
both_or_neither false false = true
both_or_neither s t = false

-- the pairs {a, b} and {c, d} don't interleave: c lies between a and b exactly where d does
abbrev pub are_apart : Order → Order → Order → Order → Bool
are_apart ac ad bc bd = both_or_neither (is_order ac bc) (is_order ad bd)

-- the values of (a,b), (a,c), (a,d), (b,c), (b,d), (c,d): the four lie in an order, in which the two pairs
-- don't interleave
abbrev pub is_taco_row : Order → Order → Order → Order → Order → Order → Bool
is_taco_row ab ac ad bc bd cd = has_no_cycle ab ac bc && has_no_cycle ab ad bd && has_no_cycle ac ad cd
    && has_no_cycle bc bd cd && are_apart ac ad bc bd

-- what the values of a constraint's terms are to be: those of an order of three faces; those of an order of
-- four in which two pairs don't interleave; equal
abbrev pub is_row : Kind → List Order → Bool
is_row Transitivity (pq ∷ pr ∷ qr ∷ []) = has_no_cycle pq pr qr
is_row TacoTaco (ab ∷ ac ∷ ad ∷ bc ∷ bd ∷ cd ∷ []) = is_taco_row ab ac ad bc bd cd
is_row TacoTortilla (s ∷ t ∷ []) = is_order s t
is_row TortillaTortilla (s ∷ t ∷ []) = is_order s t
is_row kind row = false

unfoldable pub rows_of : Kind → List (List Order)
rows_of kind = filter (is_row kind) (all_lists (arity kind))

-- the k-th row of the kind
abbrev pub HasRow : Kind → ℕ → List Order → Type 0
HasRow kind k row = slice_get (rows_of kind) k ≡ Some row

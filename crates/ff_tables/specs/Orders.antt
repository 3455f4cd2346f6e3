-- Orders, terms and the values of rows.
use Rattle.std.specs.Prelude.{ℕ, Bool, true, false, List, slice_index_or, Option, Some, None}
use Rattle.ff_tables.specs.declared.orders.Order.{Order}
use Rattle.ff_tables.specs.declared.orders.Order.TheVariants.{Below, Above}
use Rattle.ff_tables.specs.declared.terms.Term.{Term}

-- the order, or the other one where it is flipped
abbrev pub turn : Bool → Order → Order
turn false s = s
turn true Below = Above
turn true Above = Below

-- the order turned, where it is known
abbrev pub turned_option : Bool → Option Order → Option Order
turned_option b None = None
turned_option b (Some s) = Some (turn b s)

-- whether the orders are the same
abbrev pub is_order : Order → Order → Bool
is_order Below Below = true
is_order Below Above = false
is_order Above Below = false
is_order Above Above = true

-- whether the value is what is known, if that is known
abbrev pub fits : Option Order → Order → Bool
fits None x = true
fits (Some b) x = is_order b x

-- the term at a place, which is to be below the number of terms
abbrev pub term_at : List Term → ℕ → Term
term_at ts j = slice_index_or ts j (record { var = 0; flipped = false })

-- the value of a row at a term
abbrev pub row_at : List Order → ℕ → Order
row_at row j = slice_index_or row j Below

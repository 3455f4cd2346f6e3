-- The orders of three faces, and those of four in which two pairs don't interleave, listed bottom to top.
use Rattle.std.specs.Prelude.{ℕ, suc, ◌==◌, nat_lt, List, [], ◌∷◌, if◌then◌else◌}
use Rattle.ff_tables.specs.declared.orders.Order.{Order}
use Rattle.ff_tables.specs.declared.orders.Order.TheVariants.{Below, Above}

-- how many faces of the list are below x
abbrev pub height : List ℕ → ℕ → ℕ
height [] x = 0
height (y ∷ ys) x = if y == x then 0 else suc (height ys x)

-- how p stands to q where the faces lie so, bottom to top
abbrev pub order_in : List ℕ → ℕ → ℕ → Order
order_in faces p q = if nat_lt (height faces q) (height faces p) then Above else Below

-- the orders of the three pairs when the faces stand in this row
abbrev pub three_values : List ℕ → List Order
three_values faces = order_in faces 0 1 ∷ order_in faces 0 2 ∷ order_in faces 1 2 ∷ []

-- the orders of the six pairs
abbrev pub four_values : List ℕ → List Order
four_values faces = order_in faces 0 1 ∷ order_in faces 0 2 ∷ order_in faces 0 3 ∷ order_in faces 1 2
    ∷ order_in faces 1 3 ∷ order_in faces 2 3 ∷ []

-- the six rows of three faces
abbrev pub orders_of_three : List (List ℕ)
orders_of_three = (0 ∷ 1 ∷ 2 ∷ []) ∷ (0 ∷ 2 ∷ 1 ∷ []) ∷ (2 ∷ 0 ∷ 1 ∷ []) ∷ (1 ∷ 0 ∷ 2 ∷ [])
    ∷ (1 ∷ 2 ∷ 0 ∷ []) ∷ (2 ∷ 1 ∷ 0 ∷ []) ∷ []

-- the faces a, b of one taco are 0 and 1, the faces c, d of the other are 2 and 3:
-- abcd, abdc, acdb, adcb, dabc, cabd, cdab, dcab, bacd, badc, dbac, cbad, bcda, bdca, cdba, dcba
abbrev pub apart_orders : List (List ℕ)
apart_orders = (0 ∷ 1 ∷ 2 ∷ 3 ∷ []) ∷ (0 ∷ 1 ∷ 3 ∷ 2 ∷ []) ∷ (0 ∷ 2 ∷ 3 ∷ 1 ∷ []) ∷ (0 ∷ 3 ∷ 2 ∷ 1 ∷ [])
    ∷ (3 ∷ 0 ∷ 1 ∷ 2 ∷ []) ∷ (2 ∷ 0 ∷ 1 ∷ 3 ∷ []) ∷ (2 ∷ 3 ∷ 0 ∷ 1 ∷ []) ∷ (3 ∷ 2 ∷ 0 ∷ 1 ∷ [])
    ∷ (1 ∷ 0 ∷ 2 ∷ 3 ∷ []) ∷ (1 ∷ 0 ∷ 3 ∷ 2 ∷ []) ∷ (3 ∷ 1 ∷ 0 ∷ 2 ∷ []) ∷ (2 ∷ 1 ∷ 0 ∷ 3 ∷ [])
    ∷ (1 ∷ 2 ∷ 3 ∷ 0 ∷ []) ∷ (1 ∷ 3 ∷ 2 ∷ 0 ∷ []) ∷ (2 ∷ 3 ∷ 1 ∷ 0 ∷ []) ∷ (3 ∷ 2 ∷ 1 ∷ 0 ∷ []) ∷ []

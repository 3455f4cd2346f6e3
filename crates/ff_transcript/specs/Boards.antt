-- How boards, parts and solutions are written. This project's own.
use Rattle.std.specs.Prelude.{ℕ, List, [], ◌∷◌, ◌++◌, length, codes, Option, Some, None}
use Rattle.std.specs.Fmt.{decimal}
use Rattle.std.specs.List.{flat_map}
use Rattle.ff_tables.specs.declared.orders.Order.{Order}
use Rattle.ff_report.specs.Parts.{sign}

-- the sign of a value, a point where it is undecided
abbrev pub value_sign : Option Order → List ℕ
value_sign None = codes "."
value_sign (Some value) = sign value

-- a sign for each pair, and `=` where there are no pairs
abbrev pub board_text : List (Option Order) → List ℕ
board_text [] = codes "="
board_text (v ∷ vs) = flat_map value_sign (v ∷ vs)

-- the same of what an epoch has: `impossible` where it has no board
abbrev pub shown_text : Option (List (Option Order)) → List ℕ
shown_text None = codes "impossible"
shown_text (Some board) = board_text board

-- a space, and the number
abbrev pub spaced : ℕ → List ℕ
spaced n = codes " " ++ decimal n

-- the numbers of a part's variables, with single spaces between
abbrev pub variables_text : List ℕ → List ℕ
variables_text [] = []
variables_text (v ∷ vs) = decimal v ++ flat_map spaced vs

-- a part, in brackets
abbrev pub part_text : List ℕ → List ℕ
part_text vars = codes " (" ++ variables_text vars ++ codes ")"

-- how many parts there are, and each part
abbrev pub parts_text : List (List ℕ) → List ℕ
parts_text parts = codes "parts " ++ decimal (length parts) ++ flat_map part_text parts

-- a space, and a sign for each variable
abbrev pub solution_text : List Order → List ℕ
solution_text values = codes " " ++ flat_map sign values

-- the solutions of a page
abbrev pub page_text : List (List Order) → List ℕ
page_text page = codes "page" ++ flat_map solution_text page

-- The head of a report: its counts, its faces with their folded points, and its pairs. This project's own.
use Rattle.std.specs.Prelude.{◌≡◌, ℕ, zero, suc, ℤ, ◌<◌, Bool, if◌then◌else◌, List, [], ◌++◌, length, map, slice_index, slice_index_or, codes, Option, None, Some, option_map}
use Rattle.std.specs.Borrow.{Bor}
use Rattle.std.specs.Fmt.{decimal, signed_decimal}
use Rattle.std.specs.List.{flat_map}
use Rattle.ff_whole.specs.declared.points.Pt.{Pt}
use Rattle.ff_whole.specs.Convex.{point_at}
use Rattle.ff_tables.specs.declared.orders.Order.{Order}
use Rattle.ff_tables.specs.declared.orders.Order.TheVariants.{Below, Above}
use Rattle.ff_types.specs.declared.faces.Faces.{Faces}
use Rattle.ff_types.specs.declared.faces.Folded.{Folded}
use Rattle.ff_types.specs.declared.cases.Case.{Case}
use Rattle.ff_types.specs.Faces.{ring_at}
use Rattle.ff_types.specs.Foldings.{is_up}
use Rattle.ff_propagate.specs.declared.facts.Fact.{Fact}
use Rattle.ff_propagate.specs.Facts.{value_at}

-- a line for each number below the count
abbrev pub lines_of : (ℕ → List ℕ) → ℕ → List ℕ
lines_of line zero = []
lines_of line (suc n) = lines_of line n ++ line n

-- `faces F scale D pairs P constraints C`
abbrev pub counts_line : ℕ → ℤ → ℕ → ℕ → List ℕ
counts_line faces scale pairs constraints =
    codes "faces " ++ decimal faces ++ codes " scale " ++ signed_decimal scale ++ codes " pairs " ++ decimal pairs ++ codes " constraints " ++ decimal constraints ++ codes "\n"

-- a space, and then `X,Y`
abbrev pub corner_text : Pt → List ℕ
corner_text p = codes " " ++ signed_decimal p.x ++ codes "," ++ signed_decimal p.y

-- `face I up` or `face I down`, and then the scaled folded points of its ring
abbrev pub face_line : ℕ → Bool → List Pt → List ℕ
face_line face up corners = codes "face " ++ decimal face ++ (if up then codes " up" else codes " down") ++ flat_map corner_text corners ++ codes "\n"

-- the line of a face of the folding
abbrev pub face_of : Faces → Folded → ℕ → List ℕ
face_of faces folded f = face_line f (is_up folded.up f) (map (point_at folded.points) (ring_at faces.rings f))

-- the word for an order, or that there is none
abbrev pub order_name : Option Order → List ℕ
order_name None = codes "undecided"
order_name (Some Below) = codes "below"
order_name (Some Above) = codes "above"

-- `pair N F G above`, `below` or `undecided`
abbrev pub pair_line : ℕ → ℕ × ℕ → Option Order → List ℕ
pair_line n pair order = codes "pair " ++ decimal n ++ codes " " ++ decimal pair.0 ++ codes " " ++ decimal pair.1 ++ codes " " ++ order_name order ++ codes "\n"

-- the line of a pair of the case
abbrev pub pair_of : List (ℕ × ℕ) → List (Option Fact) → ℕ → List ℕ
pair_of pairs facts n = pair_line n (slice_index_or pairs n (0, 0)) (value_at facts n)

-- the pairs, where the closure doesn't clash
abbrev pub pair_lines : List (ℕ × ℕ) → Option (List (Option Fact)) → List ℕ
pair_lines pairs None = []
pair_lines pairs (Some facts) = lines_of (pair_of pairs facts) (length pairs)

-- the head of a report: counts, faces, and pairs where there is a board
abbrev pub head : Faces → Folded → Case → Option (List (Option Fact)) → List ℕ
head faces folded case facts =
    counts_line (length faces.rings) folded.scale (length case.pairs) (length case.system.constraints) ++ lines_of (face_of faces folded) (length faces.rings) ++ pair_lines case.pairs facts

-- the folding is that of the faces as far as a report needs it: a flag for each face, a point for each corner
pub record FitFolding (faces : Faces) (folded : Folded) : Type 0 where
  pub flags : length folded.up ≡ length faces.rings
  pub points : (f i : ℕ) → f < length faces.rings → i < length (ring_at faces.rings f) → slice_index (ring_at faces.rings f) i < length folded.points

-- facts that are lent
abbrev pub seen_facts : Option (Bor (List (Option Fact))) → Option (List (Option Fact))
seen_facts facts = option_map (λ f. f.now) facts

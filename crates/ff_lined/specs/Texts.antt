-- The text of a crease pattern: one line of JSON without spaces, as FOLD 1.1 has its keys.
use Rattle.std.specs.Prelude.{ℕ, ◌≡◌, List, ◌++◌, map, codes, Some}
use Rattle.serde_json.specs.Data.{Data, array, item, member, no_items, no_members, number, object, string, unsigned}
use Rattle.serde_json.specs.Find.{of_integer}
use Rattle.serde_json.specs.View.{items_of}
use Rattle.serde_json.specs.Written.{compact_text}
use Rattle.ff_whole.specs.declared.points.Pt.{Pt}
use Rattle.ff_types.specs.declared.patterns.EdgeEnds.{EdgeEnds}
use Rattle.ff_types.specs.declared.patterns.Mark.{Mark}
use Rattle.ff_types.specs.declared.patterns.Mark.TheVariants.{B, M, V, F, U}
use Rattle.ff_types.specs.declared.patterns.Pattern.{Pattern}

-- an array of two numbers, for a vertex
abbrev pub point_data : Pt → Data
point_data p = array (item (number (of_integer p.x)) (item (number (of_integer p.y)) no_items))

-- an array of two numbers, for an edge
abbrev pub ends_data : EdgeEnds → Data
ends_data e = array (item (number (unsigned e.a)) (item (number (unsigned e.b)) no_items))

-- the letter of a mark
abbrev pub letter_text : Mark → List ℕ
letter_text B = codes "B"
letter_text M = codes "M"
letter_text V = codes "V"
letter_text F = codes "F"
letter_text U = codes "U"

abbrev pub mark_data : Mark → Data
mark_data mark = string (letter_text mark)

-- an array of what the items of a list are
abbrev pub list_data : {A : Type 0} → (A → Data) → List A → Data
list_data f xs = array (items_of (map f xs))

-- the object with the three keys, in their order
abbrev pub pattern_data : List Pt → List EdgeEnds → List Mark → Data
pattern_data points edges marks = object (member (codes "edges_assignment") (list_data mark_data marks)
    (member (codes "edges_vertices") (list_data ends_data edges) (member (codes "vertices_coords") (list_data point_data points) no_members)))

-- the line of a crease pattern with marks
abbrev pub pattern_line : List Pt → List EdgeEnds → List Mark → List ℕ
pattern_line points edges marks = compact_text (pattern_data points edges marks) ++ codes "\n"

-- the pattern has marks
abbrev pub IsMarked : Pattern → Type 0
IsMarked p = (marks : List Mark) × (p.marks ≡ Some marks)

-- the text is that of the pattern
abbrev pub IsTextOf : Pattern → List ℕ → Type 0
IsTextOf p text = (marks : List Mark) × (p.marks ≡ Some marks) × (text ≡ pattern_line p.points p.edges marks)

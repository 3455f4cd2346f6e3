-- Which crease pattern a JSON value spells, by FOLD 1.1. That coordinates are whole numbers is this project's own.
use Rattle.std.specs.Prelude.{ℕ, ◌≡◌, ◌==◌, ◌^◌, ℤ, pos, List, [], ◌∷◌, length, codes, nat_le, nat_lt, nat_eq, if◌then◌else◌, is_some, Option, None, Some, option_map, option_and_then}
use Rattle.std.specs.Ordering.{int_eq}
use Rattle.std.specs.Str.{is_utf8}
use Rattle.serde_json.specs.Data.{Data, Items, no_items, item}
use Rattle.serde_json.specs.Read.{read}
use Rattle.serde_json.specs.Find.{get, as_object, as_array, as_number, as_i64, as_u64, as_str}
use Rattle.ff_whole.specs.declared.points.Pt.{Pt}
use Rattle.ff_types.specs.declared.patterns.EdgeEnds.{EdgeEnds}
use Rattle.ff_types.specs.declared.patterns.Pattern.{Pattern}
use Rattle.ff_types.specs.declared.patterns.Mark.{Mark}
use Rattle.ff_types.specs.declared.patterns.Mark.TheVariants.{B, M, V, F, U}

-- ---- the JSON object

-- the value that the bytes are, by serde_json's own definition on texts
abbrev pub json_of : List ℕ → Option Data
json_of bytes = if is_utf8 bytes then read bytes else None

-- the data, where it is an object
abbrev pub only_object : Data → Option Data
only_object d = if is_some (as_object d) then Some d else None

-- the object that the bytes are, None where they aren't one
abbrev pub object_of : List ℕ → Option Data
object_of bytes = option_and_then only_object (json_of bytes)

-- ---- the items of the three lists, None where one isn't of its form

-- a whole number within 64 bits
abbrev pub whole : Data → Option ℤ
whole d = option_and_then as_i64 (as_number d)

-- a number from 0 on
abbrev pub natural : Data → Option ℕ
natural d = option_and_then as_u64 (as_number d)

-- the items of an array
abbrev pub listed : Items → List Data
listed no_items = []
listed (item d ds) = d ∷ listed ds

-- the items, where the data is an array
abbrev pub list_of : Data → Option (List Data)
list_of d = option_map listed (as_array d)

-- the point `[x, y]`, or `[x, y, 0]`
abbrev pub point_in : List Data → Option Pt
point_in (x ∷ y ∷ []) = option_and_then (λ a. option_map (λ b. record { x = a; y = b }) (whole y)) (whole x)
point_in (x ∷ y ∷ z ∷ []) = option_and_then (λ c. if int_eq c (pos 0) then point_in (x ∷ y ∷ []) else None) (whole z)
point_in ds = None

-- the point that an array of two or three numbers spells
abbrev pub point_of : Data → Option Pt
point_of d = option_and_then point_in (list_of d)

-- the number that spells a vertex
abbrev pub vertex_of : Data → Option ℕ
vertex_of d = option_and_then (λ n. if nat_lt n (2 ^ 32) then Some n else None) (natural d)

-- the two vertices that a list of two items spells
abbrev pub ends_in : List Data → Option EdgeEnds
ends_in (a ∷ b ∷ []) = option_and_then (λ m. option_map (λ n. record { a = m; b = n }) (vertex_of b)) (vertex_of a)
ends_in ds = None

-- the edge `[a, b]`
abbrev pub ends_of : Data → Option EdgeEnds
ends_of d = option_and_then ends_in (list_of d)

-- the mark that one letter spells
abbrev pub letter : List ℕ → Option Mark
letter (c ∷ []) = if c == 66 then Some B else (if c == 77 then Some M else (if c == 86 then Some V else (if c == 70 then Some F else (if c == 85 then Some U else None))))
letter cs = None

-- the mark `"B"`, `"M"`, `"V"`, `"F"` or `"U"`
abbrev pub mark_of : Data → Option Mark
mark_of d = option_and_then letter (as_str d)

-- what each item spells, None where one spells nothing
abbrev pub all_of : {B A : Type 0} → (B → Option A) → List B → Option (List A)
all_of f [] = Some []
all_of f (d ∷ ds) = option_and_then (λ a. option_map (λ rest. a ∷ rest) (all_of f ds)) (f d)

-- ---- the three keys

-- the items under the keys; `marks` is None where there is no assignment
pub record Keys : Type 0 where
  pub vertices : List Data
  pub edges : List Data
  pub marks : Option (List Data)

-- an array of three items at least
abbrev pub vertices_in : Data → Option (List Data)
vertices_in d = option_and_then (λ ds. if nat_le 3 (length ds) then Some ds else None) (option_and_then list_of (get (codes "vertices_coords") d))

-- an array
abbrev pub edges_in : Data → Option (List Data)
edges_in d = option_and_then list_of (get (codes "edges_vertices") d)

-- an array of n items
abbrev pub marks_of : ℕ → Data → Option (List Data)
marks_of n d = option_and_then (λ ds. if nat_eq (length ds) n then Some ds else None) (list_of d)

-- absent, or an array of n items
abbrev pub optional_marks : ℕ → Option Data → Option (Option (List Data))
optional_marks n None = Some None
optional_marks n (Some d) = option_map Some (marks_of n d)

-- the list of marks, where the key is there
abbrev pub marks_in : ℕ → Data → Option (Option (List Data))
marks_in n d = optional_marks n (get (codes "edges_assignment") d)

-- the object has this under its keys
pub record IsKeyed (d : Data) (k : Keys) : Type 0 where
  pub vertices : vertices_in d ≡ Some k.vertices
  pub edges : edges_in d ≡ Some k.edges
  pub marks : marks_in (length k.edges) d ≡ Some k.marks

-- ---- the pattern

-- what all items spell, where there is a list
abbrev pub optional_all_of : {A : Type 0} → (Data → Option A) → Option (List Data) → Option (Option (List A))
optional_all_of f None = Some None
optional_all_of f (Some ds) = option_map Some (all_of f ds)

-- the items spell the pattern
pub record AreSpelled (k : Keys) (p : Pattern) : Type 0 where
  pub points : all_of point_of k.vertices ≡ Some p.points
  pub edges : all_of ends_of k.edges ≡ Some p.edges
  pub marks : optional_all_of mark_of k.marks ≡ Some p.marks

-- the object spells the pattern
pub record Spells (d : Data) (p : Pattern) : Type 0 where
  pub keys : Keys
  pub keyed : IsKeyed d keys
  pub spelled : AreSpelled keys p

-- The text of a crease pattern is read as that pattern.
use Rattle.std.proofs.Common.{◌≡◌, ◌∙◌, ℕ, suc, ◌<◌, ◌≤◌, ◌^◌, max, Bool, true, false, ℤ, pos, negsuc, nat_lt, nat_le, nat_eq, if◌then◌else◌, List, [], ◌∷◌, ◌++◌, length, map, get_or, Global, String, string_bytes, is_some, IfOk, Ok, Err, Result, Option, Some, None, option_map, option_and_then, codes, refl, sym, ap, subst, arith}
use Rattle.std.specs.Str.{is_utf8}
use Rattle.std.proofs.lemmas.Bool.{false≢true, lt-ltb, le-leb, eq-eqb}
use Rattle.std.proofs.lemmas.List.{get_or_default, length-map}
use Rattle.std.proofs.lemmas.Str.{IsUtf8-string_bytes, is_utf8-from_IsUtf8}
use Rattle.json.specs.Token.{Token}
use Rattle.json.specs.Lex.{tokens}
use Rattle.json.specs.Print.{ArePrintable, ArePrintableOrBad, print}
use Rattle.json.specs.Json as json
use Rattle.json.specs.Tree as tree
use Rattle.json.proofs.Numbered.{ArePrintableOrBad-tokens}
use Rattle.serde_json.specs.Data.{Data, depth, items_depth, number, unsigned}
use Rattle.serde_json.specs.Find.{as_object, of_integer}
use Rattle.serde_json.specs.Read.{max_depth, of_json, read}
use Rattle.serde_json.specs.View.{items_of}
use Rattle.serde_json.specs.Written.{IsInOrder}
use Rattle.ff_tables.specs.declared.memory.NoMemory.{NoMemory}
use Rattle.ff_whole.specs.declared.points.Pt.{Pt}
use Rattle.ff_whole.specs.declared.sizes.TheConstants.{POINT_SIZE}
use Rattle.ff_whole.specs.Points.{IsNear, origin}
use Rattle.ff_whole.specs.Sizes.{IsBelow}
use Rattle.ff_types.specs.declared.patterns.EdgeEnds.{EdgeEnds}
use Rattle.ff_types.specs.declared.patterns.Mark.{Mark}
use Rattle.ff_types.specs.declared.patterns.Mark.TheVariants.{B, M, V, F, U}
use Rattle.ff_types.specs.declared.patterns.Pattern.{Pattern}
use Rattle.ff_types.specs.Patterns.{edge_at}
use Rattle.ff_read.specs.Read.{IsReadAs}
use Rattle.ff_read.specs.Spelling.{all_of, edges_in, ends_of, listed, mark_of, marks_in, object_of, only_object, optional_all_of, point_of, vertex_of, vertices_in, whole}
use Rattle.ff_lined.specs.Texts.{ends_data, mark_data, pattern_data, point_data}
use Rattle.ff_lined.proofs.Feeds.{feeds}

-- ---- the tokens of a text

ends_apart : (ts us : List Token) → ArePrintableOrBad (ts ++ us) → ArePrintableOrBad ts × ArePrintableOrBad us
ends_apart [] us h = (tt, h)
ends_apart (t ∷ ts) us h = let r = ends_apart ts us h.1 in ((h.0, r.0), r.1)

ends_together : (ts us : List Token) → ArePrintable ts → ArePrintable us → ArePrintable (ts ++ us)
unfolding ArePrintable
ends_together [] us h k = k
ends_together (t ∷ ts) us h k = (h.0, ends_together ts us h.1 k)

-- those of a value are none of them bad
mutual
  unfolding ArePrintable

  of_value : (j : json.Json) → ArePrintableOrBad (tree.json_tokens j) → ArePrintable (tree.json_tokens j)
  of_value json.null h = (tt, tt)
  of_value (json.boolean b) h = (tt, tt)
  of_value (json.number s) h = (h.0, tt)
  of_value (json.string s) h = (tt, tt)
  of_value (json.array js) h = (tt, of_values js h.1)
  of_value (json.object ms) h = (tt, of_members ms h.1)

  of_values : (js : json.Items) → ArePrintableOrBad (tree.items_tokens js) → ArePrintable (tree.items_tokens js)
  of_values json.no_items h = (tt, tt)
  of_values (json.item j js) h = let p = ends_apart (tree.json_tokens j) (tree.items_tokens js) h in ends_together (tree.json_tokens j) (tree.items_tokens js) (of_value j p.0) (of_values js p.1)

  of_members : (ms : json.Members) → ArePrintableOrBad (tree.members_tokens ms) → ArePrintable (tree.members_tokens ms)
  of_members json.no_members h = (tt, tt)
  of_members (json.member k j ms) h = let p = ends_apart (tree.json_tokens j) (tree.members_tokens ms) h.1 in (tt, ends_together (tree.json_tokens j) (tree.members_tokens ms) (of_value j p.0) (of_members ms p.1))

printable : (s : List ℕ) (d : Data) → IsInOrder s d → ArePrintable (tokens s)
printable s d (j, e, f) = subst ArePrintable (sym e) (of_value j (subst ArePrintableOrBad e (ArePrintableOrBad-tokens s)))

-- a line feed after it changes nothing
read_fed : (s : List ℕ) (d : Data) → s ≡ print (tokens s) → IsInOrder s d → read s ≡ Some d → read (s ++ codes "\n") ≡ Some d
read_fed s d compact order e =
    let same : tokens (s ++ codes "\n") ≡ tokens s = ap (λ t. tokens (t ++ codes "\n")) compact ∙ feeds (tokens s) (printable s d order) in
    ap (λ ts. option_and_then of_json (option_and_then (λ p. json.if_last p.0 p.1) (json.value max_depth ts))) same ∙ e

some_if : (b : Bool) (o : Option Data) (d : Data) → b ≡ true → o ≡ Some d → (if b then o else None) ≡ Some d
some_if true o d t e = e
some_if false o d t e = absurd (false≢true t)

pub object_read : (t : String Global) (s : List ℕ) (d : Data) → string_bytes t ≡ s ++ codes "\n" → s ≡ print (tokens s) → IsInOrder s d → read s ≡ Some d → is_some (as_object d) ≡ true
    → object_of (string_bytes t) ≡ Some d
object_read t s d is compact order e o =
    let there : read (string_bytes t) ≡ Some d = ap read is ∙ read_fed s d compact order e in
    ap (option_and_then only_object) (some_if (is_utf8 (string_bytes t)) (read (string_bytes t)) d (is_utf8-from_IsUtf8 (string_bytes t) (IsUtf8-string_bytes t)) there) ∙ rw o refl

-- ---- how deep it is

max_at_most : (a b n : ℕ) → a ≤ n → b ≤ n → max a b ≤ n
max_at_most a b n h k = omega (arith, h, k)

list_depth : {A : Type 0} (f : A → Data) (n : ℕ) → ((x : A) → depth (f x) ≤ n) → (xs : List A) → items_depth (items_of (map f xs)) ≤ n
list_depth f n h [] = omega arith
list_depth f n h (x ∷ xs) = max_at_most (depth (f x)) (items_depth (items_of (map f xs))) n (h x) (list_depth f n h xs)

pub shallow : (points : List Pt) (edges : List EdgeEnds) (marks : List Mark) → depth (pattern_data points edges marks) ≤ max_depth
shallow points edges marks =
    let a = list_depth mark_data 1 (λ m. omega arith) marks in
    let b = list_depth ends_data 1 (λ e. omega arith) edges in
    let c = list_depth point_data 1 (λ p. omega arith) points in
    omega (arith, a, b, c)

-- ---- what it spells

listed_all : (ds : List Data) → listed (items_of ds) ≡ ds
listed_all [] = refl
listed_all (d ∷ ds) = ap (λ r. d ∷ r) (listed_all ds)

kept_if : {A : Type 0} (b : Bool) (a : A) → b ≡ true → (if b then Some a else None) ≡ Some a
kept_if true a e = refl
kept_if false a e = absurd (false≢true e)

whole_is : (z : ℤ) → IsBelow POINT_SIZE z → whole (number (of_integer z)) ≡ Some z
whole_is (pos n) h = kept_if (nat_lt n (2 ^ 63)) (pos n) (lt-ltb n (2 ^ 63) (let b = h.below in omega (arith, b)))
whole_is (negsuc n) h = refl

point_is : (p : Pt) → IsNear p → point_of (point_data p) ≡ Some p
point_is p h = rw (whole_is p.x h.x_below, whole_is p.y h.y_below) refl

vertex_is : (n : ℕ) → n < 2 ^ 32 → vertex_of (number (unsigned n)) ≡ Some n
vertex_is n h = kept_if (nat_lt n (2 ^ 32)) n (lt-ltb n (2 ^ 32) h)

ends_are : (e : EdgeEnds) → e.a < 2 ^ 32 → e.b < 2 ^ 32 → ends_of (ends_data e) ≡ Some e
ends_are e h k = rw (vertex_is e.a h, vertex_is e.b k) refl

mark_is : (m : Mark) → mark_of (mark_data m) ≡ Some m
mark_is B = refl
mark_is M = refl
mark_is V = refl
mark_is F = refl
mark_is U = refl

all_are : {A : Type 0} (f : A → Data) (g : Data → Option A) (xs : List A) → ((i : ℕ) (d : A) → i < length xs → g (f (get_or xs i d)) ≡ Some (get_or xs i d)) → all_of g (map f xs) ≡ Some xs
all_are f g [] h = refl
all_are f g (x ∷ xs) h = rw (h 0 x (omega arith), all_are f g xs (λ i d l. h (suc i) d (omega (arith, l)))) refl

module _ (p : Pattern) (marks : List Mark) (marked : p.marks ≡ Some marks) where
  abbrev ds_of_points : List Data
  ds_of_points = map point_data p.points

  abbrev ds_of_edges : List Data
  ds_of_edges = map ends_data p.edges

  abbrev ds_of_marks : List Data
  ds_of_marks = map mark_data marks

  vertices_are : 3 ≤ length p.points → vertices_in (pattern_data p.points p.edges marks) ≡ Some ds_of_points
  vertices_are three = ap (λ ds. if nat_le 3 (length ds) then Some ds else None) (listed_all ds_of_points)
      ∙ kept_if (nat_le 3 (length ds_of_points)) ds_of_points (le-leb 3 (length ds_of_points) (subst (λ n. 3 ≤ n) (sym (length-map p.points point_data)) three))

  edges_are : edges_in (pattern_data p.points p.edges marks) ≡ Some ds_of_edges
  edges_are = ap (λ ds. Some ds) (listed_all ds_of_edges)

  as_many : length ds_of_marks ≡ length ds_of_edges
  as_many = length-map marks mark_data ∙ p.valid.marked marks marked ∙ sym (length-map p.edges ends_data)

  marks_are : marks_in (length ds_of_edges) (pattern_data p.points p.edges marks) ≡ Some (Some ds_of_marks)
  marks_are = ap (λ ds. option_map Some (if nat_eq (length ds) (length ds_of_edges) then Some ds else None)) (listed_all ds_of_marks)
      ∙ ap (option_map Some) (kept_if (nat_eq (length ds_of_marks) (length ds_of_edges)) ds_of_marks (eq-eqb (length ds_of_marks) (length ds_of_edges) as_many))

  points_spelled : all_of point_of ds_of_points ≡ Some p.points
  points_spelled = all_are point_data point_of p.points (λ i d l. point_is (get_or p.points i d) (subst IsNear (get_or_default p.points i origin d l) (p.valid.near i l)))

  small_ends : (i : ℕ) → i < length p.edges → ((edge_at p.edges i).a < 2 ^ 32) × ((edge_at p.edges i).b < 2 ^ 32)
  small_ends i l =
      let j = p.valid.joins i l in
      let few = p.valid.few_points in let a = j.first in let b = j.second in (omega (arith, few, a), omega (arith, few, b))

  edges_spelled : all_of ends_of ds_of_edges ≡ Some p.edges
  edges_spelled = all_are ends_data ends_of p.edges
      (λ i d l. let s = subst (λ (e : EdgeEnds). (e.a < 2 ^ 32) × (e.b < 2 ^ 32)) (get_or_default p.edges i (record { a = 0; b = 0 }) d l) (small_ends i l) in ends_are (get_or p.edges i d) s.0 s.1)

  marks_spelled : optional_all_of mark_of (Some ds_of_marks) ≡ Some p.marks
  marks_spelled = ap (option_map Some) (all_are mark_data mark_of marks (λ i d l. mark_is (get_or marks i d))) ∙ ap (λ o. Some o) (sym marked)

  reads_as : (text : List ℕ) → object_of text ≡ Some (pattern_data p.points p.edges marks) → 3 ≤ length p.points → IsReadAs text p
  reads_as text e three = record {
    object = pattern_data p.points p.edges marks;
    read = e;
    spells = record {
      keys = record { vertices = ds_of_points; edges = ds_of_edges; marks = Some ds_of_marks };
      keyed = record { vertices = vertices_are three; edges = edges_are; marks = marks_are };
      spelled = record { points = points_spelled; edges = edges_spelled; marks = marks_spelled };
    };
  }

  pub ok_reads : (r : Result (List ℕ) NoMemory) → IfOk r (λ text. object_of text ≡ Some (pattern_data p.points p.edges marks)) → IfOk r (λ text. 3 ≤ length p.points → IsReadAs text p)
  ok_reads (Ok text) e = λ three. reads_as text e three
  ok_reads (Err n) e = tt

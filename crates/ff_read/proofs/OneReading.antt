-- Bytes come to one pattern or to one refusal.
use Rattle.std.proofs.Common.{◌≡◌, ◌∙◌, ◌⊎◌, inl, inr, ℕ, ◌<◌, List, length, Bool, true, false, nat_eq, if◌then◌else◌, codes, Option, None, Some, option_map, option_and_then, arith, refl, sym, ap, subst}
use Rattle.std.proofs.lemmas.Map.Views.{exact_unsigned_eq}
use Rattle.std.proofs.lemmas.Option.{none-some, same_Some}
use Rattle.serde_json.specs.Data.{Data}
use Rattle.serde_json.specs.Find.{get}
use Rattle.ff_types.specs.declared.limits.TheConstants.{MOST_VERTICES, MOST_EDGES}
use Rattle.ff_types.specs.declared.patterns.Pattern.{Pattern}
use Rattle.ff_types.specs.declared.refusals.Key.{Key}
use Rattle.ff_types.specs.declared.refusals.Key.TheVariants.{Fold, VerticesCoords, EdgesVertices, EdgesAssignment, Pins, Log, Viewers, FacesVertices, FaceOrders, Choice, Near, Lines}
use Rattle.ff_types.specs.declared.refusals.Refusal.{Refusal}
use Rattle.ff_types.specs.declared.refusals.Refusal.TheVariants.{TooLong, NotJson, BadKey, BadVertex, FarVertex, BadEdge, BadMark, SamePoint, Crossing, Loose, Rim, Pinch, Reflex, Enclosed, Apart, Parity, Inconsistent, Oversized, TooMany, BadScript, BadFaces, BadOrder, BadChoice, BadNear, BadLine, OffGrid, Overlap}
use Rattle.ff_types.specs.declared.refusals.What.TheVariants.{Vertices, Edges}
use Rattle.ff_types.specs.Patterns.{edge_at}
use Rattle.ff_read.specs.Spelling.{Keys, IsKeyed, AreSpelled, Spells, object_of, vertices_in, edges_in, marks_in, optional_marks, list_of}
use Rattle.ff_read.specs.Refused.{IsSameEdge, RefusesKey, RefusesItems, RefusesFold}
use Rattle.ff_read.specs.Read.{IsReadAs, RefusesBytes}
use Rattle.ff_read.specs.Readings.{ReadingIsOne}
use Rattle.ff_read.proofs.Good.{is_pattern}
use Rattle.ff_read.proofs.Outcomes.{PointsOut, one_out, one_value, some_out}

pub no_value : {A : Type 0} (o : Option A) (a : A) → o ≡ None → o ≡ Some a → ⊥
no_value o a e f = none-some a (sym e ∙ f)

-- ---- the items

-- a pattern's edges are such as are read
same_twice : (p : Pattern) (k e : ℕ) → k < e → e < length p.edges → IsSameEdge (edge_at p.edges k) (edge_at p.edges e) → ⊥
same_twice p k e l m (inl s) = omega (arith, l, p.valid.once k e (omega (arith, l, m)) m s.0 s.1)
same_twice p k e l m (inr s) = p.valid.once_back k e (omega (arith, l, m)) m s.0 s.1

pub spelled_out : (k : Keys) (p : Pattern) → AreSpelled k p → PointsOut k None
spelled_out k p s = inr (inr (
  p.points,
  record { spelled = s.points; near = p.valid.near },
  inr (
    p.edges,
    record { spelled = s.edges; good = record { joins = p.valid.joins; once = λ j e l m t. same_twice p j e l m t } },
    inr (p.marks, s.marks, inr (inr (p.valid.few_points, p.valid.few_edges, refl))),
  ),
))

pub refused_out : (k : Keys) (r : Refusal) → RefusesItems k r → PointsOut k (Some r)
refused_out k (BadVertex v) h = inl (v, h, refl)
refused_out k (FarVertex v) h = inr (inl (h.0, v, h.1, h.2, refl))
refused_out k (BadEdge e) h = inr (inr (h.0, h.1, inl (e, h.2, refl)))
refused_out k (BadMark e) h = inr (inr (h.0, h.3, inr (h.1, h.4, inl (h.2, e, h.5, h.6, refl))))
refused_out k (TooMany Vertices n) h = inr (inr (h.0, h.3.are_points, inr (h.1, h.3.have_edges, inr (h.2, h.3.are_marks, inl (h.4, ap (λ m. Some (TooMany Vertices m)) h.5)))))
refused_out k (TooMany Edges n) h = inr (inr (h.0, h.3.are_points, inr (h.1, h.3.have_edges, inr (h.2, h.3.are_marks, inr (inl (h.4, h.5, ap (λ m. Some (TooMany Edges m)) h.6))))))
refused_out k r h = absurd h

-- ---- the keys

many_if : (b : Bool) (n : ℕ) (xs ds : List Data) (ms : Option (List Data)) → (b ≡ true → length xs ≡ n) → option_map Some (if b then Some xs else None) ≡ Some ms → ms ≡ Some ds → length ds ≡ n
many_if true n xs ds ms h e f = ap length (sym (same_Some xs ds (same_Some (Some xs) ms e ∙ f))) ∙ h refl
many_if false n xs ds ms h e f = absurd (none-some ms e)

many_in : (n : ℕ) (o : Option (List Data)) (ds : List Data) (ms : Option (List Data)) → option_map Some (option_and_then (λ xs. if nat_eq (length xs) n then Some xs else None) o) ≡ Some ms → ms ≡ Some ds → length ds ≡ n
many_in n None ds ms e f = absurd (none-some ms e)
many_in n (Some xs) ds ms e f = many_if (nat_eq (length xs) n) n xs ds ms (λ t. exact_unsigned_eq (length xs) n t) e f

as_many_marks : (n : ℕ) (o : Option Data) (ms : Option (List Data)) → optional_marks n o ≡ Some ms → (ds : List Data) → ms ≡ Some ds → length ds ≡ n
as_many_marks n None ms e ds f = absurd (none-some ds (same_Some None ms e ∙ f))
as_many_marks n (Some a) ms e ds f = many_in n (list_of a) ds ms e f

pub same_keys : (d : Data) (k l : Keys) → IsKeyed d k → IsKeyed d l → k ≡ l
same_keys d k l g h =
    let vs = one_value (vertices_in d) k.vertices l.vertices g.vertices h.vertices in
    let es = one_value (edges_in d) k.edges l.edges g.edges h.edges in
    let marked = subst (λ (xs : List Data). marks_in (length xs) d ≡ Some k.marks) es g.marks in
    let ms = one_value (marks_in (length l.edges) d) k.marks l.marks marked h.marks in
    λ i. record { vertices = vs i; edges = es i; marks = ms i }

pub one_key : (d : Data) (a b : Key) → RefusesKey d a → RefusesKey d b → a ≡ b
one_key d VerticesCoords VerticesCoords g h = refl
one_key d VerticesCoords EdgesVertices g h = absurd (no_value (vertices_in d) h.0 g h.1)
one_key d VerticesCoords EdgesAssignment g h = absurd (no_value (vertices_in d) h.0 g h.2)
one_key d EdgesVertices VerticesCoords g h = absurd (no_value (vertices_in d) g.0 h g.1)
one_key d EdgesVertices EdgesVertices g h = refl
one_key d EdgesVertices EdgesAssignment g h = absurd (no_value (edges_in d) h.1 g.2 h.3)
one_key d EdgesAssignment VerticesCoords g h = absurd (no_value (vertices_in d) g.0 h g.2)
one_key d EdgesAssignment EdgesVertices g h = absurd (no_value (edges_in d) g.1 h.2 g.3)
one_key d EdgesAssignment EdgesAssignment g h = refl
one_key d Fold b g h = absurd g
one_key d Pins b g h = absurd g
one_key d Log b g h = absurd g
one_key d Viewers b g h = absurd g
one_key d FacesVertices b g h = absurd g
one_key d FaceOrders b g h = absurd g
one_key d Choice b g h = absurd g
one_key d Near b g h = absurd g
one_key d Lines b g h = absurd g
one_key d a b g h = absurd h

pub key_or_keys : (d : Data) (key : Key) (k : Keys) → RefusesKey d key → IsKeyed d k → ⊥
key_or_keys d VerticesCoords k g h = no_value (vertices_in d) k.vertices g h.vertices
key_or_keys d EdgesVertices k g h = no_value (edges_in d) k.edges g.2 h.edges
key_or_keys d EdgesAssignment k g h =
    let es = one_value (edges_in d) g.1 k.edges g.3 h.edges in
    no_value (marks_in (length k.edges) d) k.marks (subst (λ (xs : List Data). marks_in (length xs) d ≡ None) es g.4) h.marks
key_or_keys d key k g h = absurd g

with_marks : (d : Data) (vs es : List Data) (o : Option (Option (List Data))) → vertices_in d ≡ Some vs → edges_in d ≡ Some es → marks_in (length es) d ≡ o → ((key : Key) → RefusesKey d key → ⊥) → ((k : Keys) → IsKeyed d k → ⊥) → ⊥
with_marks d vs es None v e m none keys = none EdgesAssignment (vs, es, v, e, m)
with_marks d vs es (Some ms) v e m none keys = keys (record { vertices = vs; edges = es; marks = ms }) (record { vertices = v; edges = e; marks = m })

with_edges : (d : Data) (vs : List Data) (o : Option (List Data)) → vertices_in d ≡ Some vs → edges_in d ≡ o → ((key : Key) → RefusesKey d key → ⊥) → ((k : Keys) → IsKeyed d k → ⊥) → ⊥
with_edges d vs None v e none keys = none EdgesVertices (vs, v, e)
with_edges d vs (Some es) v e none keys = with_marks d vs es (marks_in (length es) d) v e refl none keys

with_vertices : (d : Data) (o : Option (List Data)) → vertices_in d ≡ o → ((key : Key) → RefusesKey d key → ⊥) → ((k : Keys) → IsKeyed d k → ⊥) → ⊥
with_vertices d None v none keys = none VerticesCoords v
with_vertices d (Some vs) v none keys = with_edges d vs (edges_in d) v refl none keys

-- the keys, or the first that is wrong
pub keys_out : (d : Data) → ((key : Key) → RefusesKey d key → ⊥) → ((k : Keys) → IsKeyed d k → ⊥) → ⊥
keys_out d none keys = with_vertices d (vertices_in d) refl none keys

-- ---- an object

-- a refusal of items is the one outcome of reading them
Items : Data → Refusal → Type 0
Items d r = (k : Keys) × IsKeyed d k × RefusesItems k r

one_of_items : (d : Data) (r s : Refusal) → Items d r → Items d s → r ≡ s
unfolding Items
one_of_items d r s g h =
    let same = same_keys d g.0 h.0 g.1 h.1 in
    same_Some r s (one_out h.0 (Some r) (Some s) (refused_out h.0 r (subst (λ (k : Keys). RefusesItems k r) same g.2)) (refused_out h.0 s h.2))

pattern_or_items : (d : Data) (p : Pattern) (r : Refusal) → Spells d p → Items d r → ⊥
unfolding Items
pattern_or_items d p r g h =
    let same = same_keys d g.keys h.0 g.keyed h.1 in
    none-some r (one_out h.0 None (Some r) (spelled_out h.0 p (subst (λ (k : Keys). AreSpelled k p) same g.spelled)) (refused_out h.0 r h.2))

-- a refusal of a key, or of items
Cases : Data → Refusal → Type 0
Cases d r = ((key : Key) × RefusesKey d key × (r ≡ BadKey key)) ⊎ Items d r

cases : (d : Data) (r : Refusal) → RefusesFold d r → Cases d r
unfolding Cases Items
cases d (BadKey key) h = inl (key, h, refl)
cases d TooLong h = inr h
cases d NotJson h = inr h
cases d (BadVertex v) h = inr h
cases d (FarVertex v) h = inr h
cases d (BadEdge e) h = inr h
cases d (BadMark e) h = inr h
cases d (SamePoint v) h = inr h
cases d (Crossing e k) h = inr h
cases d (Loose v) h = inr h
cases d (Rim e) h = inr h
cases d (Pinch v) h = inr h
cases d (Reflex v) h = inr h
cases d (Enclosed v) h = inr h
cases d (Apart f) h = inr h
cases d (Parity e) h = inr h
cases d (Inconsistent v) h = inr h
cases d (Oversized v) h = inr h
cases d (TooMany w n) h = inr h
cases d (BadScript w n) h = inr h
cases d (BadFaces i) h = inr h
cases d (BadOrder i) h = inr h
cases d (BadChoice i) h = inr h
cases d (BadNear i) h = inr h
cases d (BadLine i) h = inr h
cases d (OffGrid i j) h = inr h
cases d (Overlap i j) h = inr h

one_case : (d : Data) (r s : Refusal) → Cases d r → Cases d s → r ≡ s
unfolding Cases Items
one_case d r s (inl g) (inl h) = g.2 ∙ ap BadKey (one_key d g.0 h.0 g.1 h.1) ∙ sym h.2
one_case d r s (inl g) (inr h) = absurd (key_or_keys d g.0 h.0 g.1 h.1)
one_case d r s (inr g) (inl h) = absurd (key_or_keys d h.0 g.0 h.1 g.1)
one_case d r s (inr g) (inr h) = one_of_items d r s g h

no_case : (d : Data) (p : Pattern) (r : Refusal) → Spells d p → Cases d r → ⊥
unfolding Cases
no_case d p r g (inl h) = key_or_keys d h.0 g.keys h.1 g.keyed
no_case d p r g (inr h) = pattern_or_items d p r g h

-- the outcome of reading items is a pattern or a refusal
marks_come : (d : Data) (k : Keys) → IsKeyed d k → (r : Option Refusal) → PointsOut k r → ((p : Pattern) → Spells d p → ⊥) → ((r : Refusal) → RefusesFold d r → ⊥) → ⊥
marks_come d k h r (inl a) pattern refused = refused (BadVertex a.0) (k, h, a.1)
marks_come d k h r (inr (inl a)) pattern refused = refused (FarVertex a.1) (k, h, (a.0, a.2, a.3))
marks_come d k h r (inr (inr (ps, a, inl b))) pattern refused = refused (BadEdge b.0) (k, h, (ps, a, b.1))
marks_come d k h r (inr (inr (ps, a, inr (es, b, inl c)))) pattern refused = refused (BadMark c.1) (k, h, (ps, es, c.0, a, b, c.2, c.3))
marks_come d k h r (inr (inr (ps, a, inr (es, b, inr (ms, c, inl e))))) pattern refused =
    refused (TooMany Vertices MOST_VERTICES) (k, h, (ps, es, ms, record { are_points = a; have_edges = b; are_marks = c }, e.0, refl))
marks_come d k h r (inr (inr (ps, a, inr (es, b, inr (ms, c, inr (inl e)))))) pattern refused =
    refused (TooMany Edges MOST_EDGES) (k, h, (ps, es, ms, record { are_points = a; have_edges = b; are_marks = c }, e.0, e.1, refl))
marks_come d k h r (inr (inr (ps, a, inr (es, b, inr (ms, c, inr (inr e)))))) pattern refused =
    let valid = is_pattern k.vertices k.edges k.marks ps es ms a b (as_many_marks (length k.edges) (get (codes "edges_assignment") d) k.marks h.marks) c e.0 e.1 in
    pattern (record { points = ps; edges = es; marks = ms; valid = valid }) (record { keys = k; keyed = h; spelled = record { points = a.spelled; edges = b.spelled; marks = c } })

pub object_out : (d : Data) → ((p : Pattern) → Spells d p → ⊥) → ((r : Refusal) → RefusesFold d r → ⊥) → ⊥
object_out d pattern refused = keys_out d (λ key h. refused (BadKey key) h) (λ k h. some_out k (λ r o. marks_come d k h r o pattern refused))

-- ---- bytes

-- a refusal of bytes that are no object, or of an object
Bytes : List ℕ → Refusal → Type 0
Bytes bytes r = ((object_of bytes ≡ None) × (r ≡ NotJson)) ⊎ ((d : Data) × (object_of bytes ≡ Some d) × RefusesFold d r)

of_bytes : (bytes : List ℕ) (r : Refusal) → RefusesBytes bytes r → Bytes bytes r
unfolding Bytes
of_bytes bytes NotJson h = inl (h, refl)
of_bytes bytes TooLong h = inr h
of_bytes bytes (BadKey k) h = inr h
of_bytes bytes (BadVertex v) h = inr h
of_bytes bytes (FarVertex v) h = inr h
of_bytes bytes (BadEdge e) h = inr h
of_bytes bytes (BadMark e) h = inr h
of_bytes bytes (SamePoint v) h = inr h
of_bytes bytes (Crossing e k) h = inr h
of_bytes bytes (Loose v) h = inr h
of_bytes bytes (Rim e) h = inr h
of_bytes bytes (Pinch v) h = inr h
of_bytes bytes (Reflex v) h = inr h
of_bytes bytes (Enclosed v) h = inr h
of_bytes bytes (Apart f) h = inr h
of_bytes bytes (Parity e) h = inr h
of_bytes bytes (Inconsistent v) h = inr h
of_bytes bytes (Oversized v) h = inr h
of_bytes bytes (TooMany w n) h = inr h
of_bytes bytes (BadScript w n) h = inr h
of_bytes bytes (BadFaces i) h = inr h
of_bytes bytes (BadOrder i) h = inr h
of_bytes bytes (BadChoice i) h = inr h
of_bytes bytes (BadNear i) h = inr h
of_bytes bytes (BadLine i) h = inr h
of_bytes bytes (OffGrid i j) h = inr h
of_bytes bytes (Overlap i j) h = inr h

one_of_bytes : (bytes : List ℕ) (r s : Refusal) → Bytes bytes r → Bytes bytes s → r ≡ s
unfolding Bytes
one_of_bytes bytes r s (inl g) (inl h) = g.1 ∙ sym h.1
one_of_bytes bytes r s (inl g) (inr h) = absurd (no_value (object_of bytes) h.0 g.0 h.1)
one_of_bytes bytes r s (inr g) (inl h) = absurd (no_value (object_of bytes) g.0 h.0 g.1)
one_of_bytes bytes r s (inr g) (inr h) =
    let same = one_value (object_of bytes) g.0 h.0 g.1 h.1 in
    one_case h.0 r s (cases h.0 r (subst (λ (d : Data). RefusesFold d r) same g.2)) (cases h.0 s h.2)

not_of_bytes : (bytes : List ℕ) (p : Pattern) (r : Refusal) → IsReadAs bytes p → Bytes bytes r → ⊥
unfolding Bytes
not_of_bytes bytes p r g (inl h) = no_value (object_of bytes) g.object h.0 g.read
not_of_bytes bytes p r g (inr h) =
    let same = one_value (object_of bytes) g.object h.0 g.read h.1 in
    no_case h.0 p r (subst (λ (d : Data). Spells d p) same g.spells) (cases h.0 r h.2)

refused_by : (bytes : List ℕ) (d : Data) → object_of bytes ≡ Some d → (r : Refusal) → RefusesFold d r → ((r : Refusal) → RefusesBytes bytes r → ⊥) → ⊥
refused_by bytes d e NotJson h refused = h.2
refused_by bytes d e TooLong h refused = refused TooLong (d, e, h)
refused_by bytes d e (BadKey k) h refused = refused (BadKey k) (d, e, h)
refused_by bytes d e (BadVertex v) h refused = refused (BadVertex v) (d, e, h)
refused_by bytes d e (FarVertex v) h refused = refused (FarVertex v) (d, e, h)
refused_by bytes d e (BadEdge x) h refused = refused (BadEdge x) (d, e, h)
refused_by bytes d e (BadMark x) h refused = refused (BadMark x) (d, e, h)
refused_by bytes d e (SamePoint v) h refused = refused (SamePoint v) (d, e, h)
refused_by bytes d e (Crossing x k) h refused = refused (Crossing x k) (d, e, h)
refused_by bytes d e (Loose v) h refused = refused (Loose v) (d, e, h)
refused_by bytes d e (Rim x) h refused = refused (Rim x) (d, e, h)
refused_by bytes d e (Pinch v) h refused = refused (Pinch v) (d, e, h)
refused_by bytes d e (Reflex v) h refused = refused (Reflex v) (d, e, h)
refused_by bytes d e (Enclosed v) h refused = refused (Enclosed v) (d, e, h)
refused_by bytes d e (Apart f) h refused = refused (Apart f) (d, e, h)
refused_by bytes d e (Parity x) h refused = refused (Parity x) (d, e, h)
refused_by bytes d e (Inconsistent v) h refused = refused (Inconsistent v) (d, e, h)
refused_by bytes d e (Oversized v) h refused = refused (Oversized v) (d, e, h)
refused_by bytes d e (TooMany w n) h refused = refused (TooMany w n) (d, e, h)
refused_by bytes d e (BadScript w n) h refused = refused (BadScript w n) (d, e, h)
refused_by bytes d e (BadFaces i) h refused = refused (BadFaces i) (d, e, h)
refused_by bytes d e (BadOrder i) h refused = refused (BadOrder i) (d, e, h)
refused_by bytes d e (BadChoice i) h refused = refused (BadChoice i) (d, e, h)
refused_by bytes d e (BadNear i) h refused = refused (BadNear i) (d, e, h)
refused_by bytes d e (BadLine i) h refused = refused (BadLine i) (d, e, h)
refused_by bytes d e (OffGrid i j) h refused = refused (OffGrid i j) (d, e, h)
refused_by bytes d e (Overlap i j) h refused = refused (Overlap i j) (d, e, h)

bytes_out : (bytes : List ℕ) (o : Option Data) → object_of bytes ≡ o → ((p : Pattern) → IsReadAs bytes p → ⊥) → ((r : Refusal) → RefusesBytes bytes r → ⊥) → ⊥
bytes_out bytes None e pattern refused = refused NotJson e
bytes_out bytes (Some d) e pattern refused = object_out d (λ p s. pattern p (record { object = d; read = e; spells = s })) (λ r h. refused_by bytes d e r h refused)

one_pattern : (bytes : List ℕ) (p q : Pattern) → IsReadAs bytes p → IsReadAs bytes q → (p.points ≡ q.points) × (p.edges ≡ q.edges) × (p.marks ≡ q.marks)
one_pattern bytes p q a b =
    let object = one_value (object_of bytes) a.object b.object a.read b.read in
    let spells = subst (λ (d : Data). Spells d p) object a.spells in
    let keys = same_keys b.object spells.keys b.spells.keys spells.keyed b.spells.keyed in
    let spelled = subst (λ (k : Keys). AreSpelled k p) keys spells.spelled in
    (one_value _ p.points q.points spelled.points b.spells.spelled.points, one_value _ p.edges q.edges spelled.edges b.spells.spelled.edges, one_value _ p.marks q.marks spelled.marks b.spells.spelled.marks)

pub reading_is_one : ReadingIsOne
reading_is_one = record {
  pattern = one_pattern;
  refusal = λ bytes r s g h. one_of_bytes bytes r s (of_bytes bytes r g) (of_bytes bytes s h);
  not_both = λ bytes p r g h. not_of_bytes bytes p r g (of_bytes bytes r h);
  some = λ bytes pattern refused. bytes_out bytes (object_of bytes) refl pattern refused;
}

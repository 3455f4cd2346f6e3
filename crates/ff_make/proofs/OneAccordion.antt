-- There is one accordion of so many panels.
use Rattle.std.proofs.Common.{◌≡◌, ◌⊎◌, inl, inr, ℕ, ℤ, pos, zero, suc, ◌+◌, ◌-◌, ◌*◌, ◌%◌, ◌<◌, ◌≤◌, List, [], ◌∷◌, ◌++◌, length, get_or, refl, sym, ap, ap₂, ◌∙◌, subst, arith, Option, Some}
use Rattle.ff_whole.specs.declared.points.Pt.{Pt}
use Rattle.ff_whole.specs.Points.{origin}
use Rattle.ff_types.specs.declared.patterns.EdgeEnds.{EdgeEnds}
use Rattle.ff_types.specs.declared.patterns.Mark.{Mark}
use Rattle.ff_types.specs.declared.patterns.Mark.TheVariants.{B, M, V}
use Rattle.ff_types.specs.declared.patterns.Pattern.{Pattern}
use Rattle.ff_make.specs.Accordions.{IsVertex, IsEdge, IsMark, AreVertices, AreEdges, AreMarks, IsAccordion}
use Rattle.ff_make.specs.Laws.{IsMade, AccordionIsOne, SomeAccordion}
use Rattle.ff_make.proofs.Strips.{is_pattern, kind_of, vertex_kind, vertices_more, edges_more, marks_more, no_vertices, no_edges, no_marks}

-- lists that have the same item at each place
same_items : {X : Type 0} (d : X) (xs ys : List X) → length xs ≡ length ys → ((i : ℕ) → i < length xs → get_or xs i d ≡ get_or ys i d) → xs ≡ ys
same_items d [] [] long each = refl
same_items d [] (y ∷ ys) long each = absurd (omega (arith, long))
same_items d (x ∷ xs) [] long each = absurd (omega (arith, long))
same_items {X} d (x ∷ xs) (y ∷ ys) long each = ap₂ (λ (z : X) (zs : List X). z ∷ zs) (each 0 (omega arith))
    (same_items d xs ys (omega (arith, long)) (λ i l. each (suc i) (omega (arith, l))))

-- ---- one of each item

one_vertex : (n v : ℕ) (p q : Pt) → IsVertex n v p → IsVertex n v q → p ≡ q
one_vertex n v p q a b = elim (vertex_kind n v) [
  | inl k ↦ a.lower k ∙ sym (b.lower k)
  | inr k ↦ a.upper (v - (n + 1)) (omega (arith, k)) ∙ sym (b.upper (v - (n + 1)) (omega (arith, k)))
]

one_edge : (n e : ℕ) (x y : EdgeEnds) → IsEdge n e x → IsEdge n e y → x ≡ y
one_edge n e x y a b = elim (kind_of n e) [
  | inl k ↦ a.below k ∙ sym (b.below k)
  | inr (inl k) ↦ a.right k ∙ sym (b.right k)
  | inr (inr (inl k)) ↦ a.above (e - (n + 1)) (omega (arith, k.0, k.1)) (omega (arith, k.0)) ∙ sym (b.above (e - (n + 1)) (omega (arith, k.0, k.1)) (omega (arith, k.0)))
  | inr (inr (inr (inl k))) ↦ a.left k ∙ sym (b.left k)
  | inr (inr (inr (inr k))) ↦ a.crease (e - (2 * n + 1)) (omega (arith, k)) (omega (arith, k)) ∙ sym (b.crease (e - (2 * n + 1)) (omega (arith, k)) (omega (arith, k)))
]

border_or : (n e : ℕ) → (e ≤ 2 * n + 1) ⊎ (2 * n + 1 < e)
border_or n e = grind arith

even_or_odd : (i : ℕ) → (i % 2 ≡ 1) ⊎ (i % 2 ≡ 0)
even_or_odd i = grind arith

one_mark : (n e : ℕ) (x y : Mark) → IsMark n e x → IsMark n e y → x ≡ y
one_mark n e x y a b = elim (border_or n e) [
  | inl k ↦ a.border k ∙ sym (b.border k)
  | inr k ↦ elim (even_or_odd (e - (2 * n + 1))) [
    | inl odd ↦ a.valley (e - (2 * n + 1)) (omega (arith, k)) (omega (arith, k)) odd ∙ sym (b.valley (e - (2 * n + 1)) (omega (arith, k)) (omega (arith, k)) odd)
    | inr even ↦ a.mountain (e - (2 * n + 1)) (omega (arith, k)) (omega (arith, k)) even ∙ sym (b.mountain (e - (2 * n + 1)) (omega (arith, k)) (omega (arith, k)) even)
  ]
]

pub accordion_is_one : AccordionIsOne
accordion_is_one n p q a b = (
  same_items origin p.points q.points (a.vertices.as_many ∙ sym b.vertices.as_many)
      (λ i l. let m : i < 2 * n + 2 = omega (arith, l, a.vertices.as_many) in one_vertex n i _ _ (a.vertices.each i m) (b.vertices.each i m)),
  same_items (record { a = 0; b = 0 }) p.edges q.edges (a.sides.as_many ∙ sym b.sides.as_many)
      (λ i l. let m : i < 3 * n + 1 = omega (arith, l, a.sides.as_many) in one_edge n i _ _ (a.sides.each i m) (b.sides.each i m)),
  a.marked ∙ ap Some (same_items B a.assignment b.assignment (a.turns.as_many ∙ sym b.turns.as_many)
      (λ i l. let m : i < 3 * n + 1 = omega (arith, l, a.turns.as_many) in one_mark n i _ _ (a.turns.each i m) (b.turns.each i m))) ∙ sym b.marked,
)

-- ---- some

a_vertex : (n v : ℕ) → (p : Pt) × IsVertex n v p
a_vertex n v = elim (vertex_kind n v) [
  | inl k ↦ (record { x = pos v; y = pos 0 }, record { lower = λ _. refl; upper = λ i e. absurd (omega (arith, k, e)) })
  | inr k ↦ (
    record { x = pos (v - (n + 1)); y = pos 1 },
    record { lower = λ l. absurd (omega (arith, k, l)); upper = λ i e. ap (λ (z : ℕ). record { x = pos z; y = pos 1 }) (omega (arith, k, e)) },
  )
]

an_edge : (n e : ℕ) → (x : EdgeEnds) × IsEdge n e x
an_edge n e = elim (kind_of n e) [
  | inl k ↦ (
    record { a = e; b = e + 1 },
    record {
      below = λ _. refl;
      right = λ q. absurd (omega (arith, k, q));
      above = λ i l q. absurd (omega (arith, k, q));
      left = λ q. absurd (omega (arith, k, q));
      crease = λ i l q. absurd (omega (arith, k, q));
    },
  )
  | inr (inl k) ↦ (
    record { a = n; b = 2 * n + 1 },
    record {
      below = λ l. absurd (omega (arith, k, l));
      right = λ _. refl;
      above = λ i l q. absurd (omega (arith, k, q));
      left = λ q. absurd (omega (arith, k, q));
      crease = λ i l q. absurd (omega (arith, k, q));
    },
  )
  | inr (inr (inl k)) ↦ (
    record { a = 2 * n + 1 - (e - (n + 1)); b = 2 * n - (e - (n + 1)) },
    record {
      below = λ l. absurd (omega (arith, k.0, l));
      right = λ q. absurd (omega (arith, k.0, q));
      above = λ i l q. ap (λ (z : ℕ). record { a = 2 * n + 1 - z; b = 2 * n - z }) (let r : e - (n + 1) ≡ i = omega (arith, q) in r);
      left = λ q. absurd (omega (arith, k.1, q));
      crease = λ i l q. absurd (omega (arith, k.1, q));
    },
  )
  | inr (inr (inr (inl k))) ↦ (
    record { a = n + 1; b = 0 },
    record {
      below = λ l. absurd (omega (arith, k, l));
      right = λ q. absurd (omega (arith, k, q));
      above = λ i l q. absurd (omega (arith, k, l, q));
      left = λ _. refl;
      crease = λ i l q. absurd (omega (arith, k, l, q));
    },
  )
  | inr (inr (inr (inr k))) ↦ (
    record { a = e - (2 * n + 1); b = n + 1 + (e - (2 * n + 1)) },
    record {
      below = λ l. absurd (omega (arith, k, l));
      right = λ q. absurd (omega (arith, k, q));
      above = λ i l q. absurd (omega (arith, k, l, q));
      left = λ q. absurd (omega (arith, k, q));
      crease = λ i l q. ap (λ (z : ℕ). record { a = z; b = n + 1 + z }) (let r : e - (2 * n + 1) ≡ i = omega (arith, q) in r);
    },
  )
]

a_mark : (n e : ℕ) → (m : Mark) × IsMark n e m
a_mark n e = elim (border_or n e) [
  | inl k ↦ (B, record { border = λ _. refl; valley = λ i l q. absurd (omega (arith, k, l, q)); mountain = λ i l q. absurd (omega (arith, k, l, q)) })
  | inr k ↦ elim (even_or_odd (e - (2 * n + 1))) [
    | inl odd ↦ (
      V,
      record {
        border = λ l. absurd (omega (arith, k, l));
        valley = λ i l q r. refl;
        mountain = λ i l q r. absurd (let s : e - (2 * n + 1) ≡ i = omega (arith, q) in omega (arith, sym (ap (λ (z : ℕ). z % 2) s) ∙ odd, r));
      },
    )
    | inr even ↦ (
      M,
      record {
        border = λ l. absurd (omega (arith, k, l));
        valley = λ i l q r. absurd (let s : e - (2 * n + 1) ≡ i = omega (arith, q) in omega (arith, sym (ap (λ (z : ℕ). z % 2) s) ∙ even, r));
        mountain = λ i l q r. refl;
      },
    )
  ]
]

one_more : (k : ℕ) → k + 1 ≡ suc k
one_more k = omega arith

some_vertices : (n k : ℕ) → (list : List Pt) × AreVertices n k list
some_vertices n zero = ([], no_vertices n)
some_vertices n (suc k) = by (some_vertices n k) (a_vertex n k) where
  by : (list : List Pt) × AreVertices n k list → (p : Pt) × IsVertex n k p → (list : List Pt) × AreVertices n (suc k) list
  by (list, are) (p, is) = (list ++ p ∷ [], subst (λ (j : ℕ). AreVertices n j (list ++ p ∷ [])) (one_more k) (vertices_more n k list p are is))

some_edges : (n k : ℕ) → (list : List EdgeEnds) × AreEdges n k list
some_edges n zero = ([], no_edges n)
some_edges n (suc k) = by (some_edges n k) (an_edge n k) where
  by : (list : List EdgeEnds) × AreEdges n k list → (x : EdgeEnds) × IsEdge n k x → (list : List EdgeEnds) × AreEdges n (suc k) list
  by (list, are) (x, is) = (list ++ x ∷ [], subst (λ (j : ℕ). AreEdges n j (list ++ x ∷ [])) (one_more k) (edges_more n k list x are is))

some_marks : (n k : ℕ) → (list : List Mark) × AreMarks n k list
some_marks n zero = ([], no_marks n)
some_marks n (suc k) = by (some_marks n k) (a_mark n k) where
  by : (list : List Mark) × AreMarks n k list → (m : Mark) × IsMark n k m → (list : List Mark) × AreMarks n (suc k) list
  by (list, are) (m, is) = (list ++ m ∷ [], subst (λ (j : ℕ). AreMarks n j (list ++ m ∷ [])) (one_more k) (marks_more n k list m are is))

pub some_accordion : SomeAccordion
some_accordion n some few = by (some_vertices n (2 * n + 2)) (some_edges n (3 * n + 1)) (some_marks n (3 * n + 1)) where
  by : (list : List Pt) × AreVertices n (2 * n + 2) list → (list : List EdgeEnds) × AreEdges n (3 * n + 1) list → (list : List Mark) × AreMarks n (3 * n + 1) list
      → (p : Pattern) × IsMade n p
  by (points, vertices) (edges, sides) (marks, turns) = (
    record { points = points; edges = edges; marks = Some marks; valid = is_pattern n points edges marks some few vertices sides turns },
    record { vertices = vertices; sides = sides; assignment = marks; marked = refl; turns = turns },
  )

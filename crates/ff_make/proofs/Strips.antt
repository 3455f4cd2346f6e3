-- An accordion is a pattern.
use Rattle.std.proofs.Common.{◌≡◌, ◌≢◌, ◌⊎◌, inl, inr, ⊎_elim, ℕ, ℤ, pos, zero, suc, ◌+◌, ◌-◌, ◌*◌, ◌<◌, ◌≤◌, ◌<ℤ◌, List, [], ◌∷◌, ◌++◌, length, length-append, get_or, refl, sym, ap, ◌∙◌, subst, arith, Option, Some, None}
use Rattle.std.proofs.lemmas.List.{get_or_append_left, get_or_push}
use mathlib.Core.Logic.{dite}
use native.Mathlib.Decide.{ℕ_discrete}
use Rattle.ff_whole.specs.declared.points.Pt.{Pt}
use Rattle.ff_whole.specs.Points.{IsNear, origin}
use Rattle.ff_whole.specs.Convex.{point_at}
use Rattle.ff_types.specs.declared.patterns.EdgeEnds.{EdgeEnds}
use Rattle.ff_types.specs.declared.patterns.Mark.{Mark}
use Rattle.ff_types.specs.declared.patterns.Mark.TheVariants.{B}
use Rattle.ff_types.specs.Patterns.{edge_at, Joins, IsPattern}
use Rattle.ff_make.specs.Accordions.{IsVertex, IsEdge, IsMark, AreVertices, AreEdges, AreMarks}

-- the ends a and b of the edge e of a strip of n panels, by the five kinds of edges
abbrev Side : ℕ → ℕ → ℕ → ℕ → Type 0
Side n e a b =
    ((e < n) × (a ≡ e) × (b ≡ e + 1))
    ⊎ (((e ≡ n) × (a ≡ n) × (b ≡ 2 * n + 1))
    ⊎ (((n < e) × (e < 2 * n + 1) × (a + e ≡ 3 * n + 2) × (b + e ≡ 3 * n + 1))
    ⊎ (((e ≡ 2 * n + 1) × (a ≡ n + 1) × (b ≡ 0))
    ⊎ ((2 * n + 1 < e) × (e < 3 * n + 1) × (a + (2 * n + 1) ≡ e) × (b ≡ a + (n + 1))))))

pub kind_of : (n e : ℕ) → (e < n) ⊎ ((e ≡ n) ⊎ (((n < e) × (e < 2 * n + 1)) ⊎ ((e ≡ 2 * n + 1) ⊎ (2 * n + 1 < e))))
kind_of n e = grind arith

side_of : (n e : ℕ) (x : EdgeEnds) → e < 3 * n + 1 → IsEdge n e x → Side n e x.a x.b
side_of n e x l is = elim (kind_of n e) [
  | inl k ↦ let q = is.below k in inl (k, ap (λ (y : EdgeEnds). y.a) q, ap (λ (y : EdgeEnds). y.b) q)
  | inr (inl k) ↦ let q = is.right k in inr (inl (k, ap (λ (y : EdgeEnds). y.a) q, ap (λ (y : EdgeEnds). y.b) q))
  | inr (inr (inl k)) ↦
      let i : ℕ = e - (n + 1) in
      let q = is.above i (omega (arith, k.0, k.1)) (omega (arith, k.0)) in
      let a = ap (λ (y : EdgeEnds). y.a) q in let b = ap (λ (y : EdgeEnds). y.b) q in
      inr (inr (inl (k.0, k.1, omega (arith, a, k.0, k.1), omega (arith, b, k.0, k.1))))
  | inr (inr (inr (inl k))) ↦ let q = is.left k in inr (inr (inr (inl (k, ap (λ (y : EdgeEnds). y.a) q, ap (λ (y : EdgeEnds). y.b) q))))
  | inr (inr (inr (inr k))) ↦
      let i : ℕ = e - (2 * n + 1) in
      let q = is.crease i (omega (arith, k)) (omega (arith, k)) in
      let a = ap (λ (y : EdgeEnds). y.a) q in let b = ap (λ (y : EdgeEnds). y.b) q in
      inr (inr (inr (inr (k, l, omega (arith, a, k), omega (arith, a, b, k)))))
]

-- edges with the same ends are the same
once_at : (n e k a b : ℕ) → 0 < n → Side n e a b → Side n k a b → e ≡ k
once_at n e k a b some (inl p) (inl q) = omega (arith, some, p.0, p.1, p.2, q.0, q.1, q.2)
once_at n e k a b some (inl p) (inr (inl q)) = omega (arith, some, p.0, p.1, p.2, q.0, q.1, q.2)
once_at n e k a b some (inl p) (inr (inr (inl q))) = omega (arith, some, p.0, p.1, p.2, q.0, q.1, q.2, q.3)
once_at n e k a b some (inl p) (inr (inr (inr (inl q)))) = omega (arith, some, p.0, p.1, p.2, q.0, q.1, q.2)
once_at n e k a b some (inl p) (inr (inr (inr (inr q)))) = omega (arith, some, p.0, p.1, p.2, q.0, q.1, q.2, q.3)
once_at n e k a b some (inr (inl p)) (inl q) = omega (arith, some, p.0, p.1, p.2, q.0, q.1, q.2)
once_at n e k a b some (inr (inl p)) (inr (inl q)) = omega (arith, some, p.0, p.1, p.2, q.0, q.1, q.2)
once_at n e k a b some (inr (inl p)) (inr (inr (inl q))) = omega (arith, some, p.0, p.1, p.2, q.0, q.1, q.2, q.3)
once_at n e k a b some (inr (inl p)) (inr (inr (inr (inl q)))) = omega (arith, some, p.0, p.1, p.2, q.0, q.1, q.2)
once_at n e k a b some (inr (inl p)) (inr (inr (inr (inr q)))) = omega (arith, some, p.0, p.1, p.2, q.0, q.1, q.2, q.3)
once_at n e k a b some (inr (inr (inl p))) (inl q) = omega (arith, some, p.0, p.1, p.2, p.3, q.0, q.1, q.2)
once_at n e k a b some (inr (inr (inl p))) (inr (inl q)) = omega (arith, some, p.0, p.1, p.2, p.3, q.0, q.1, q.2)
once_at n e k a b some (inr (inr (inl p))) (inr (inr (inl q))) = omega (arith, some, p.0, p.1, p.2, p.3, q.0, q.1, q.2, q.3)
once_at n e k a b some (inr (inr (inl p))) (inr (inr (inr (inl q)))) = omega (arith, some, p.0, p.1, p.2, p.3, q.0, q.1, q.2)
once_at n e k a b some (inr (inr (inl p))) (inr (inr (inr (inr q)))) = omega (arith, some, p.0, p.1, p.2, p.3, q.0, q.1, q.2, q.3)
once_at n e k a b some (inr (inr (inr (inl p)))) (inl q) = omega (arith, some, p.0, p.1, p.2, q.0, q.1, q.2)
once_at n e k a b some (inr (inr (inr (inl p)))) (inr (inl q)) = omega (arith, some, p.0, p.1, p.2, q.0, q.1, q.2)
once_at n e k a b some (inr (inr (inr (inl p)))) (inr (inr (inl q))) = omega (arith, some, p.0, p.1, p.2, q.0, q.1, q.2, q.3)
once_at n e k a b some (inr (inr (inr (inl p)))) (inr (inr (inr (inl q)))) = omega (arith, some, p.0, p.1, p.2, q.0, q.1, q.2)
once_at n e k a b some (inr (inr (inr (inl p)))) (inr (inr (inr (inr q)))) = omega (arith, some, p.0, p.1, p.2, q.0, q.1, q.2, q.3)
once_at n e k a b some (inr (inr (inr (inr p)))) (inl q) = omega (arith, some, p.0, p.1, p.2, p.3, q.0, q.1, q.2)
once_at n e k a b some (inr (inr (inr (inr p)))) (inr (inl q)) = omega (arith, some, p.0, p.1, p.2, p.3, q.0, q.1, q.2)
once_at n e k a b some (inr (inr (inr (inr p)))) (inr (inr (inl q))) = omega (arith, some, p.0, p.1, p.2, p.3, q.0, q.1, q.2, q.3)
once_at n e k a b some (inr (inr (inr (inr p)))) (inr (inr (inr (inl q)))) = omega (arith, some, p.0, p.1, p.2, p.3, q.0, q.1, q.2)
once_at n e k a b some (inr (inr (inr (inr p)))) (inr (inr (inr (inr q)))) = omega (arith, some, p.0, p.1, p.2, p.3, q.0, q.1, q.2, q.3)

-- no edge has the ends of another the other way round
back_at : (n e k a b : ℕ) → 0 < n → Side n e a b → Side n k b a → ⊥
back_at n e k a b some (inl p) (inl q) = omega (arith, some, p.0, p.1, p.2, q.0, q.1, q.2)
back_at n e k a b some (inl p) (inr (inl q)) = omega (arith, some, p.0, p.1, p.2, q.0, q.1, q.2)
back_at n e k a b some (inl p) (inr (inr (inl q))) = omega (arith, some, p.0, p.1, p.2, q.0, q.1, q.2, q.3)
back_at n e k a b some (inl p) (inr (inr (inr (inl q)))) = omega (arith, some, p.0, p.1, p.2, q.0, q.1, q.2)
back_at n e k a b some (inl p) (inr (inr (inr (inr q)))) = omega (arith, some, p.0, p.1, p.2, q.0, q.1, q.2, q.3)
back_at n e k a b some (inr (inl p)) (inl q) = omega (arith, some, p.0, p.1, p.2, q.0, q.1, q.2)
back_at n e k a b some (inr (inl p)) (inr (inl q)) = omega (arith, some, p.0, p.1, p.2, q.0, q.1, q.2)
back_at n e k a b some (inr (inl p)) (inr (inr (inl q))) = omega (arith, some, p.0, p.1, p.2, q.0, q.1, q.2, q.3)
back_at n e k a b some (inr (inl p)) (inr (inr (inr (inl q)))) = omega (arith, some, p.0, p.1, p.2, q.0, q.1, q.2)
back_at n e k a b some (inr (inl p)) (inr (inr (inr (inr q)))) = omega (arith, some, p.0, p.1, p.2, q.0, q.1, q.2, q.3)
back_at n e k a b some (inr (inr (inl p))) (inl q) = omega (arith, some, p.0, p.1, p.2, p.3, q.0, q.1, q.2)
back_at n e k a b some (inr (inr (inl p))) (inr (inl q)) = omega (arith, some, p.0, p.1, p.2, p.3, q.0, q.1, q.2)
back_at n e k a b some (inr (inr (inl p))) (inr (inr (inl q))) = omega (arith, some, p.0, p.1, p.2, p.3, q.0, q.1, q.2, q.3)
back_at n e k a b some (inr (inr (inl p))) (inr (inr (inr (inl q)))) = omega (arith, some, p.0, p.1, p.2, p.3, q.0, q.1, q.2)
back_at n e k a b some (inr (inr (inl p))) (inr (inr (inr (inr q)))) = omega (arith, some, p.0, p.1, p.2, p.3, q.0, q.1, q.2, q.3)
back_at n e k a b some (inr (inr (inr (inl p)))) (inl q) = omega (arith, some, p.0, p.1, p.2, q.0, q.1, q.2)
back_at n e k a b some (inr (inr (inr (inl p)))) (inr (inl q)) = omega (arith, some, p.0, p.1, p.2, q.0, q.1, q.2)
back_at n e k a b some (inr (inr (inr (inl p)))) (inr (inr (inl q))) = omega (arith, some, p.0, p.1, p.2, q.0, q.1, q.2, q.3)
back_at n e k a b some (inr (inr (inr (inl p)))) (inr (inr (inr (inl q)))) = omega (arith, some, p.0, p.1, p.2, q.0, q.1, q.2)
back_at n e k a b some (inr (inr (inr (inl p)))) (inr (inr (inr (inr q)))) = omega (arith, some, p.0, p.1, p.2, q.0, q.1, q.2, q.3)
back_at n e k a b some (inr (inr (inr (inr p)))) (inl q) = omega (arith, some, p.0, p.1, p.2, p.3, q.0, q.1, q.2)
back_at n e k a b some (inr (inr (inr (inr p)))) (inr (inl q)) = omega (arith, some, p.0, p.1, p.2, p.3, q.0, q.1, q.2)
back_at n e k a b some (inr (inr (inr (inr p)))) (inr (inr (inl q))) = omega (arith, some, p.0, p.1, p.2, p.3, q.0, q.1, q.2, q.3)
back_at n e k a b some (inr (inr (inr (inr p)))) (inr (inr (inr (inl q)))) = omega (arith, some, p.0, p.1, p.2, p.3, q.0, q.1, q.2)
back_at n e k a b some (inr (inr (inr (inr p)))) (inr (inr (inr (inr q)))) = omega (arith, some, p.0, p.1, p.2, p.3, q.0, q.1, q.2, q.3)

ends_at : (n e a b : ℕ) → 0 < n → Side n e a b → (a < 2 * n + 2) × (b < 2 * n + 2) × (a ≢ b)
ends_at n e a b some (inl p) = (omega (arith, some, p.0, p.1, p.2), omega (arith, some, p.0, p.1, p.2), λ s. absurd (omega (arith, some, s, p.0, p.1, p.2)))
ends_at n e a b some (inr (inl p)) = (omega (arith, some, p.0, p.1, p.2), omega (arith, some, p.0, p.1, p.2), λ s. absurd (omega (arith, some, s, p.0, p.1, p.2)))
ends_at n e a b some (inr (inr (inl p))) = (omega (arith, some, p.0, p.1, p.2, p.3), omega (arith, some, p.0, p.1, p.2, p.3), λ s. absurd (omega (arith, some, s, p.0, p.1, p.2, p.3)))
ends_at n e a b some (inr (inr (inr (inl p)))) = (omega (arith, some, p.0, p.1, p.2), omega (arith, some, p.0, p.1, p.2), λ s. absurd (omega (arith, some, s, p.0, p.1, p.2)))
ends_at n e a b some (inr (inr (inr (inr p)))) = (omega (arith, some, p.0, p.1, p.2, p.3), omega (arith, some, p.0, p.1, p.2, p.3), λ s. absurd (omega (arith, some, s, p.0, p.1, p.2, p.3)))

pub vertex_kind : (n v : ℕ) → (v ≤ n) ⊎ (n < v)
vertex_kind n v = grind arith

near_at : (n v : ℕ) (p : Pt) → n ≤ 400 → v < 2 * n + 2 → IsVertex n v p → IsNear p
near_at n v p few l is = ⊎_elim
    (λ k. subst IsNear (sym (is.lower k)) (record { x_below = record { below = omega (arith, few, k) }; y_below = record { below = omega arith } }))
    (λ k. subst IsNear (sym (is.upper (v - (n + 1)) (omega (arith, k)))) (record { x_below = record { below = omega (arith, few, l, k) }; y_below = record { below = omega arith } }))
    (vertex_kind n v)

pub is_pattern : (n : ℕ) (points : List Pt) (edges : List EdgeEnds) (marks : List Mark) → 0 < n → n ≤ 400 → AreVertices n (2 * n + 2) points
    → AreEdges n (3 * n + 1) edges → AreMarks n (3 * n + 1) marks → IsPattern points edges (Some marks)
is_pattern n points edges marks some few vertices sides turns = record {
  few_points = omega (arith, vertices.as_many, few);
  few_edges = omega (arith, sides.as_many, few);
  near = λ v l. let m : v < 2 * n + 2 = omega (arith, l, vertices.as_many) in near_at n v (point_at points v) few m (vertices.each v m);
  joins = λ e l. let t = ends_at n e _ _ some (side e l) in record { first = omega (arith, t.0, vertices.as_many); second = omega (arith, t.1, vertices.as_many); differ = t.2 };
  once = λ e k l m p q. once_at n e k _ _ some (side e l) (subst (λ (z : ℕ × ℕ). Side n k z.0 z.1) (λ i. (sym p i, sym q i)) (side k m));
  once_back = λ e k l m p q. back_at n e k _ _ some (side e l) (subst (λ (z : ℕ × ℕ). Side n k z.1 z.0) (λ i. (sym p i, sym q i)) (side k m));
  marked = λ ms e. let same : marks ≡ ms = (let q : Some marks ≡ Some ms = e in cc) in omega (arith, ap length same, turns.as_many, sides.as_many);
}
  where
    side : (e : ℕ) → e < length edges → Side n e (edge_at edges e).a (edge_at edges e).b
    side e l = let m : e < 3 * n + 1 = omega (arith, l, sides.as_many) in side_of n e (edge_at edges e) m (sides.each e m)

-- ---- one item more

module _ {X : Type 0} (P : ℕ → X → Type 0) (d : X) where
  each_more : (list : List X) (x : X) (k : ℕ) → length list ≡ k → ((v : ℕ) → v < k → P v (get_or list v d)) → P k x
      → (v : ℕ) → v < k + 1 → P v (get_or (list ++ x ∷ []) v d)
  each_more list x k long all here v l = dite (ℕ_discrete v k)
      (λ e. subst (λ (z : ℕ × X). P z.0 z.1) (λ i. (sym e i, sym (ap (λ (j : ℕ). get_or (list ++ x ∷ []) j d) e ∙ get_or_push list x d k long) i)) here)
      (λ n. subst (P v) (sym (get_or_append_left list (x ∷ []) d v (omega (arith, long, l, n)))) (all v (omega (arith, l, n))))

pub vertices_more : (n k : ℕ) (list : List Pt) (p : Pt) → AreVertices n k list → IsVertex n k p → AreVertices n (k + 1) (list ++ p ∷ [])
vertices_more n k list p was here = record {
  as_many = length-append list (p ∷ []) ∙ ap (λ (j : ℕ). j + 1) was.as_many;
  each = each_more (IsVertex n) origin list p k was.as_many was.each here;
}

pub edges_more : (n k : ℕ) (list : List EdgeEnds) (x : EdgeEnds) → AreEdges n k list → IsEdge n k x → AreEdges n (k + 1) (list ++ x ∷ [])
edges_more n k list x was here = record {
  as_many = length-append list (x ∷ []) ∙ ap (λ (j : ℕ). j + 1) was.as_many;
  each = each_more (IsEdge n) (record { a = 0; b = 0 }) list x k was.as_many was.each here;
}

pub marks_more : (n k : ℕ) (list : List Mark) (m : Mark) → AreMarks n k list → IsMark n k m → AreMarks n (k + 1) (list ++ m ∷ [])
marks_more n k list m was here = record {
  as_many = length-append list (m ∷ []) ∙ ap (λ (j : ℕ). j + 1) was.as_many;
  each = each_more (IsMark n) B list m k was.as_many was.each here;
}

pub no_vertices : (n : ℕ) → AreVertices n 0 []
no_vertices n = record { as_many = refl; each = λ v l. absurd (omega (arith, l)) }

pub no_edges : (n : ℕ) → AreEdges n 0 []
no_edges n = record { as_many = refl; each = λ v l. absurd (omega (arith, l)) }

pub no_marks : (n : ℕ) → AreMarks n 0 []
no_marks n = record { as_many = refl; each = λ v l. absurd (omega (arith, l)) }

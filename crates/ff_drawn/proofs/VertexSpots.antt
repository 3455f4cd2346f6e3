-- Extents of vertices: in another order, one more, and that no two of them are at one point.
use Rattle.std.proofs.Common.{◌≡◌, ◌⊎◌, inl, inr, ℕ, ◌+◌, ◌-◌, ◌<◌, List, [], ◌∷◌, ◌++◌, length, arith, sym, ap, ◌∙◌, subst}
use Rattle.std.proofs.lemmas.List.{get_or_append_left, get_or_push, get_or_default}
use Rattle.std.proofs.lemmas.List.Elements.{Contains-get_or}
use Rattle.std.proofs.lemmas.List.Sorted.{Contains-permutation, IsPermutation-sym}
use Rattle.std.specs.List.Sorted.{IsPermutation}
use Rattle.ff_basics.proofs.Numbers.{last_or, which}
use Rattle.ff_whole.specs.declared.points.Pt.{Pt}
use Rattle.ff_whole.specs.Convex.{point_at}
use Rattle.ff_whole.proofs.Signs.{linear}
use Rattle.ff_types.specs.FaceRefusals.{SamePointAt, Never}
use Rattle.ff_drawn.specs.declared.extents.Extent.{Extent}
use Rattle.ff_drawn.specs.Extents.{extent_at, IsVertexExtent, AreVertexExtents, AreSpots}

-- what holds of each, in another order
pub same_each : (P : Extent → Type 0) (old new : List Extent) → IsPermutation old new → ((i : ℕ) → i < length old → P (extent_at old i)) → (i : ℕ) → i < length new → P (extent_at new i)
same_each P old new p h i l =
    let c = Contains-permutation new old (extent_at new i) (IsPermutation-sym old new p) (Contains-get_or new i _ l) in
    subst P (get_or_default old c.0 _ (extent_at new i) c.1 ∙ c.2) (h c.0 c.1)

pub same_all : (n : ℕ) (old new : List Extent) → IsPermutation old new → ((k : ℕ) → k < n → (i : ℕ) × (i < length old) × ((extent_at old i).number ≡ k)) → (k : ℕ) → k < n → (i : ℕ) × (i < length new) × ((extent_at new i).number ≡ k)
same_all n old new p h k l =
    let r = h k l in
    let c = Contains-permutation old new (extent_at old r.0) p (Contains-get_or old r.0 _ r.1) in
    (c.0, c.1, ap (λ (x : Extent). x.number) (get_or_default new c.0 _ (extent_at old r.0) c.1 ∙ c.2) ∙ r.2)

pub same_vertices : (points : List Pt) (old new : List Extent) → AreVertexExtents points old → IsPermutation old new → AreVertexExtents points new
same_vertices points old new a p = record { each = same_each (IsVertexExtent points) old new p a.each; all = same_all (length points) old new p a.all }

-- one more, with the next number
pub each_more : (P : Extent → Type 0) (list : List Extent) (n : ℕ) (new : Extent) → length list ≡ n → ((k : ℕ) → k < n → P (extent_at list k) × ((extent_at list k).number ≡ k))
    → P new → new.number ≡ n → (k : ℕ) → k < n + 1 → P (extent_at (list ++ new ∷ []) k) × ((extent_at (list ++ new ∷ []) k).number ≡ k)
each_more P list n new e h a m k l = elim (last_or k n l) [
  | inl o ↦ subst (λ x. P x × (x.number ≡ k)) (sym (get_or_append_left list (new ∷ []) _ k (omega (arith, o, e)))) (h k o)
  | inr o ↦ subst (λ x. P x × (x.number ≡ k)) (sym (get_or_push list new _ k (e ∙ sym o))) (a, m ∙ sym o)
]

-- neighbours before n are at different points
abbrev pub NeighboursDiffer : List Extent → ℕ → Type 0
NeighboursDiffer list n = (k : ℕ) → k + 1 < n → (extent_at list k).low ≡ (extent_at list (k + 1)).low → ⊥

pub differ_more : (list : List Extent) (n : ℕ) → 0 < n → NeighboursDiffer list n → ((extent_at list (n - 1)).low ≡ (extent_at list n).low → ⊥) → NeighboursDiffer list (n + 1)
differ_more list n some h d k l e = elim (last_or (k + 1) n l) [
  | inl m ↦ h k m e
  | inr q ↦ let r : k ≡ n - 1 = omega (arith, q) in d (ap (λ i. (extent_at list i).low) (sym r) ∙ e ∙ ap (λ i. (extent_at list i).low) q)
]

module _ (points : List Pt) (list : List Extent) (s : AreSpots points list) (d : NeighboursDiffer list (length list)) where
  -- those between two at one point are there too
  apart : (i j : ℕ) → i < j → j < length list → (extent_at list i).low ≡ (extent_at list j).low → ⊥
  apart i j l m e = elim (last_or (i + 1) j (omega (arith, l))) [
    | inl n ↦
        let x = ap (λ (p : Pt). p.x) e in
        let y = ap (λ (p : Pt). p.y) e in
        let a = s.in_order.rises i (i + 1) (omega arith) (omega (arith, n, m)) in
        let b = s.in_order.rises (i + 1) j n m in
        let f : (extent_at list i).low.x ≡ (extent_at list (i + 1)).low.x = omega (arith, linear, a, b, x) in
        let g = s.in_order.ties i (i + 1) (omega arith) (omega (arith, n, m)) f in
        let h = s.in_order.ties (i + 1) j n m (sym f ∙ x) in
        let k : (extent_at list i).low.y ≡ (extent_at list (i + 1)).low.y = omega (arith, linear, g, h, y) in
        d i (omega (arith, n, m)) (λ t. record { x = f t; y = k t })
    | inr q ↦ d i (omega (arith, q, m)) (e ∙ ap (λ n. (extent_at list n).low) (sym q))
  ]

  pub none_same : Never (SamePointAt points)
  none_same v h =
      let w = h.1.0 in
      let less = h.1.1 in
      let a = s.vertices.all w (let l = h.0 in omega (arith, l, less)) in
      let b = s.vertices.all v h.0 in
      let at_a = (s.vertices.each a.0 a.1).low_is ∙ ap (point_at points) a.2 in
      let at_b = (s.vertices.each b.0 b.1).low_is ∙ ap (point_at points) b.2 in
      let same = at_a ∙ h.1.2 ∙ sym at_b in
      elim (which a.0 b.0) [
        | inl l ↦ apart a.0 b.0 l b.1 same
        | inr (inl l) ↦ apart b.0 a.0 l a.1 (sym same)
        | inr (inr q) ↦ let r : w ≡ v = sym a.2 ∙ ap (λ i. (extent_at list i).number) q ∙ b.2 in omega (arith, less, r)
      ]

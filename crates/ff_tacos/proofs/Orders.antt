-- The order in which each list gives its constraints.
use Rattle.std.proofs.Common.{◌≡◌, ◌≢◌, ℕ, ◌<◌, ◌⊎◌, inl, inr, sym, ◌∙◌, ap, subst, arith, ◌&&◌, IsTrue, List, Some}
use Rattle.std.specs.List.{filter_map}
use Rattle.ff_types.specs.declared.cites.Cite.{Cite}
use Rattle.ff_types.specs.declared.cites.Cite.TheVariants.{TacoTaco, TacoFace, TacoEdge, FlatFace, FlatEdge}
use Rattle.ff_types.specs.Faces.{list_before}
use Rattle.ff_types.specs.Pairs.{is_before}
use Rattle.ff_types.specs.Sheets.{Sheet}
use Rattle.ff_types.specs.Cites.{is_folded_edge, is_flat_edge}
use Rattle.ff_types.specs.Cases.{key}
use Rattle.ff_types.proofs.SortedPairs.{before_is}
use Rattle.ff_edges.specs.declared.edge_face.EdgeFace.{EdgeFace}
use Rattle.ff_edges.specs.declared.edge_pair.EdgePair.{EdgePair}
use Rattle.ff_edges.specs.SharedSegments.{edges_of_pair, IsEdgePair, AreEdgePairs}
use Rattle.ff_edges.specs.EdgesInside.{edge_and_face, AreEdgeFaces}
use Rattle.ff_tacos.specs.Making.{taco_taco, taco_face, taco_edge, flat_face, flat_edge, mixed, AreMixed}
use Rattle.ff_tacos.proofs.Flags.{if_some}
use Rattle.ff_tacos.proofs.Keys.{numbers_before}
use Rattle.ff_tacos.proofs.Families.{mixed_is}
use Rattle.ff_tacos.proofs.Rising.{Rising, rising_from, rising_filter_map}
use Rattle.ff_tacos.proofs.Sorting.{rising_sorted}

-- the keys of two cites
abbrev pub AreRising : Cite → Cite → Type 0
AreRising a b = IsTrue (list_before (key a) (key b))

both : (a b c d : Cite) → a ≡ c → b ≡ d → AreRising a b → AreRising c d
both a b c d e f t = subst (λ x. AreRising x d) e (subst (AreRising a) f t)

abbrev pub PairBefore : EdgePair → EdgePair → Type 0
PairBefore x y = IsTrue (is_before (edges_of_pair x) (edges_of_pair y))

abbrev pub FaceBefore : EdgeFace → EdgeFace → Type 0
FaceBefore x y = IsTrue (is_before (edge_and_face x) (edge_and_face y))

abbrev pub EdgesBefore : ℕ × ℕ → ℕ × ℕ → Type 0
EdgesBefore p q = IsTrue (is_before p q)

module _ (g : Sheet) where
  -- ---- step by step

  pub taco_taco_rises : (x y : EdgePair) (a b : Cite) → PairBefore x y → taco_taco g x ≡ Some a
      → taco_taco g y ≡ Some b → AreRising a b
  taco_taco_rises x y a b t p q =
      let r = if_some (is_folded_edge g x.e && is_folded_edge g x.e2) (TacoTaco x.e x.e2) a p in
      let s = if_some (is_folded_edge g y.e && is_folded_edge g y.e2) (TacoTaco y.e y.e2) b q in
      both (TacoTaco x.e x.e2) (TacoTaco y.e y.e2) a b r.1 s.1 (numbers_before x.e x.e2 y.e y.e2 t)

  pub flat_edge_rises : (x y : EdgePair) (a b : Cite) → PairBefore x y → flat_edge g x ≡ Some a
      → flat_edge g y ≡ Some b → AreRising a b
  flat_edge_rises x y a b t p q =
      let r = if_some (is_flat_edge g x.e && is_flat_edge g x.e2) (FlatEdge x.e x.e2) a p in
      let s = if_some (is_flat_edge g y.e && is_flat_edge g y.e2) (FlatEdge y.e y.e2) b q in
      both (FlatEdge x.e x.e2) (FlatEdge y.e y.e2) a b r.1 s.1 (numbers_before x.e x.e2 y.e y.e2 t)

  pub taco_face_rises : (x y : EdgeFace) (a b : Cite) → FaceBefore x y → taco_face g x ≡ Some a
      → taco_face g y ≡ Some b → AreRising a b
  taco_face_rises x y a b t p q =
      let r = if_some (is_folded_edge g x.e) (TacoFace x.e x.face x.at) a p in
      let s = if_some (is_folded_edge g y.e) (TacoFace y.e y.face y.at) b q in
      both (TacoFace x.e x.face x.at) (TacoFace y.e y.face y.at) a b r.1 s.1
      (numbers_before x.e x.face y.e y.face t)

  pub flat_face_rises : (x y : EdgeFace) (a b : Cite) → FaceBefore x y → flat_face g x ≡ Some a
      → flat_face g y ≡ Some b → AreRising a b
  flat_face_rises x y a b t p q =
      let r = if_some (is_flat_edge g x.e) (FlatFace x.e x.face x.at) a p in
      let s = if_some (is_flat_edge g y.e) (FlatFace y.e y.face y.at) b q in
      both (FlatFace x.e x.face x.at) (FlatFace y.e y.face y.at) a b r.1 s.1
      (numbers_before x.e x.face y.e y.face t)

  some_of : (x y : Cite) → Some x ≡ Some y → x ≡ y
  some_of x y e = cc

  pub taco_edge_rises : (x y : ℕ × ℕ) (a b : Cite) → EdgesBefore x y → taco_edge x ≡ Some a
      → taco_edge y ≡ Some b → AreRising a b
  taco_edge_rises x y a b t p q =
      both (TacoEdge x.0 x.1) (TacoEdge y.0 y.1) a b (some_of (TacoEdge x.0 x.1) a p)
      (some_of (TacoEdge y.0 y.1) b q) (numbers_before x.0 x.1 y.0 y.1 t)

  -- ---- the lists

  pub pairs_rise : (list : List EdgePair) → AreEdgePairs g list → Rising PairBefore list
  pairs_rise list are = rising_from PairBefore list are.sorted

  pub faces_rise : (list : List EdgeFace) → AreEdgeFaces g list → Rising FaceBefore list
  faces_rise list are = rising_from FaceBefore list are.some.sorted

  abbrev first : ℕ × ℕ → ℕ
  first p = p.0

  abbrev second : ℕ × ℕ → ℕ
  second p = p.1

  record ArePair (x y : EdgePair) : Type 0 where
    pub first : IsEdgePair g x
    pub second : IsEdgePair g y
    pub before : PairBefore x y

  -- different pairs of edges give different ones
  apart : (x y : EdgePair) (a b : ℕ × ℕ) → ArePair x y → mixed g x ≡ Some a → mixed g y ≡ Some b → a ≢ b
  apart x y a b t p q e = by (mixed_is g x t.first a p).same (mixed_is g y t.second b q).same
      (before_is (edges_of_pair x) (edges_of_pair y) t.before) where
        low : x.e < x.e2
        low = t.first.order

        low_too : y.e < y.e2
        low_too = t.second.order

        one_before : x.e ≡ y.e → x.e2 ≡ y.e2 → (x.e < y.e) ⊎ ((x.e ≡ y.e) × (x.e2 < y.e2)) → ⊥
        one_before k l (inl m) = omega (arith, k, m)
        one_before k l (inr m) = let n = m.1 in omega (arith, l, n)

        crossed : x.e ≡ y.e2 → x.e2 ≡ y.e → ⊥
        crossed k l = omega (arith, k, l, low, low_too)

        by : (a ≡ (x.e, x.e2)) ⊎ (a ≡ (x.e2, x.e)) → (b ≡ (y.e, y.e2)) ⊎ (b ≡ (y.e2, y.e))
            → (x.e < y.e) ⊎ ((x.e ≡ y.e) × (x.e2 < y.e2)) → ⊥
        by (inl u) (inl v) w = one_before (sym (ap first u) ∙ ap first e ∙ ap first v)
            (sym (ap second u) ∙ ap second e ∙ ap second v) w
        by (inl u) (inr v) w = crossed (sym (ap first u) ∙ ap first e ∙ ap first v)
            (sym (ap second u) ∙ ap second e ∙ ap second v)
        by (inr u) (inl v) w = crossed (sym (ap second u) ∙ ap second e ∙ ap second v)
            (sym (ap first u) ∙ ap first e ∙ ap first v)
        by (inr u) (inr v) w = one_before (sym (ap second u) ∙ ap second e ∙ ap second v)
            (sym (ap first u) ∙ ap first e ∙ ap first v) w

  pub mixed_rise : (edge_pairs : List EdgePair) (list : List (ℕ × ℕ)) → AreEdgePairs g edge_pairs
      → AreMixed g edge_pairs list → Rising EdgesBefore list
  mixed_rise edge_pairs list are is = rising_sorted (filter_map (mixed g) edge_pairs) list
      (rising_filter_map ArePair (λ a b. a ≢ b) (mixed g) apart edge_pairs
      (rising_from ArePair edge_pairs
      (λ m n x y l a b. record {
        first = are.each m x a;
        second = are.each n y b;
        before = are.sorted m n x y l a b;
      })))
      is.members is.sorted

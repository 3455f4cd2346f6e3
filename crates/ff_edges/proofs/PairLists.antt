-- The list of edges that run along each other, as far as it is made, and what it comes to.
use Rattle.std.proofs.Common.{◌≡◌, ℕ, ◌+◌, ◌<◌, ◌≤◌, ◌⊎◌, inl, inr, refl, sym, ◌∙◌, arith, Bool, true, false, ◌||◌, IsTrue, List, [], ◌∷◌, ◌++◌, length}
use Rattle.std.proofs.lemmas.Bool.{cases_lt, ltb-true, false≢true}
use Rattle.ff_basics.proofs.Tests.{both_of}
use Rattle.ff_whole.specs.declared.points.Pt.{Pt}
use Rattle.ff_whole.specs.Points.{IsNear}
use Rattle.ff_whole.specs.Convex.{point_at}
use Rattle.ff_types.specs.declared.patterns.Pattern.{Pattern}
use Rattle.ff_types.specs.declared.faces.Faces.{Faces}
use Rattle.ff_types.specs.declared.faces.Folded.{Folded}
use Rattle.ff_types.specs.declared.refusals.No.{No}
use Rattle.ff_types.specs.declared.refusals.No.TheVariants.{Refused, NoMemory}
use Rattle.ff_types.specs.Sheets.{Sheet, sheet_of, tail, head, is_edge}
use Rattle.ff_types.specs.Cites.{is_folded_edge, is_flat_edge, on_one_side}
use Rattle.ff_types.specs.Segments.{ShareSegment}
use Rattle.ff_types.specs.FoldedPatterns.{IsFoldedPattern}
use Rattle.ff_types.proofs.FoldedEdges.{tail_below, head_below, ends_apart}
use Rattle.ff_edges.specs.declared.edge_pair.EdgePair.{EdgePair}
use Rattle.ff_edges.specs.Ways.{IsCommonWay, HaveNoWay}
use Rattle.ff_edges.specs.EdgesInside.{is_inner_edge}
use Rattle.ff_edges.specs.SharedSegments.{beside_both, constrain, edges_of_pair, IsEdgePair, AreEdgePairs, IsWanted, ArePairsTo, IsFull, WhyNoEdgePairs}
use Rattle.ff_edges.proofs.CommonWays.{way_or_not}
use Rattle.ff_edges.proofs.Segments.{constrain_by, segment_of, no_segment}
use Rattle.ff_edges.proofs.Rows as rows

-- a constraint rests on two edges that are there
second_flag : (a b s c d : Bool) → IsTrue (constrain_by a b s c d) → IsTrue b ⊎ IsTrue d
second_flag a true s c d t = inl refl
second_flag a false s c true t = inr refl
second_flag true false s true false t = absurd (false≢true t)
second_flag true false s false false t = absurd (false≢true t)
second_flag false false s true false t = absurd (false≢true t)
second_flag false false s false false t = absurd (false≢true t)

pub second_edge : (g : Sheet) (e k : ℕ) → IsTrue (constrain g e k) → k < length g.edges
second_edge g e k t = elim (second_flag (is_folded_edge g e) (is_folded_edge g k) (on_one_side g e (beside_both g e k)) (is_flat_edge g e) (is_flat_edge g k) t) [
  | inl u ↦ ltb-true k (length g.edges) (both_of (is_edge g k) _ u).0
  | inr u ↦ ltb-true k (length g.edges) (both_of (is_edge g k) _ u).0
]

first_flag : (a b s c d : Bool) → IsTrue (constrain_by a b s c d) → IsTrue (a || c)
first_flag true b s c d t = refl
first_flag false b s true d t = refl
first_flag false b s false d t = absurd (false≢true t)

either_flag : (b d : Bool) → IsTrue b ⊎ IsTrue d → IsTrue (b || d)
either_flag true d h = refl
either_flag false d (inl t) = absurd (false≢true t)
either_flag false d (inr t) = t

-- neither is a border edge
pub both_inner : (g : Sheet) (e k : ℕ) → IsTrue (constrain g e k) → IsTrue (is_inner_edge g e) × IsTrue (is_inner_edge g k)
both_inner g e k t =
    let side = on_one_side g e (beside_both g e k) in (
      first_flag (is_folded_edge g e) (is_folded_edge g k) side (is_flat_edge g e) (is_flat_edge g k) t,
      either_flag (is_folded_edge g k) (is_flat_edge g k) (second_flag (is_folded_edge g e) (is_folded_edge g k) side (is_flat_edge g e) (is_flat_edge g k) t),
    )

-- a border edge has none
pub pairs_border : (g : Sheet) (e : ℕ) (list : List EdgePair) → is_inner_edge g e ≡ false → ArePairsTo g e 0 list → ArePairsTo g (e + 1) 0 list
pairs_border g e list border s = rows.row_ends edges_of_pair (IsEdgePair g) (IsWanted g) e list 0 (λ b w. absurd (false≢true (sym border ∙ (both_inner g e b w.constrained).0))) s

pub pairs_end : (g : Sheet) (e k : ℕ) (list : List EdgePair) → length g.edges ≤ k → ArePairsTo g e k list → ArePairsTo g (e + 1) 0 list
pairs_end g e k list far s = rows.row_ends edges_of_pair (IsEdgePair g) (IsWanted g) e list k (λ b w. let l = w.edge in omega (arith, l, far)) s

pub pairs_skip : (g : Sheet) (e k : ℕ) (list : List EdgePair) → (IsTrue (constrain g e k) → ShareSegment g e k → ⊥) → ArePairsTo g e k list → ArePairsTo g e (k + 1) list
pairs_skip g e k list none s = rows.skip edges_of_pair (IsEdgePair g) (IsWanted g) e k list (λ w. none w.constrained w.shares) s

-- from one edge up to another there is none
pub pairs_skip_to : (g : Sheet) (e k h : ℕ) (list : List EdgePair) → k ≤ h → ((j : ℕ) → k ≤ j → j < h → e < j → j < length g.edges → IsTrue (constrain g e j) → ShareSegment g e j → ⊥)
    → ArePairsTo g e k list → ArePairsTo g e h list
pairs_skip_to g e k h list up none s = rows.skip_to edges_of_pair (IsEdgePair g) (IsWanted g) e k h list up (λ j l m w. none j l m w.order w.edge w.constrained w.shares) s

key_is : (x : EdgePair) (e k : ℕ) → x.e ≡ e → x.e2 ≡ k → edges_of_pair x ≡ (e, k)
key_is x e k p q = λ i. (p i, q i)

pub pairs_take : (g : Sheet) (e k : ℕ) (list : List EdgePair) (x : EdgePair) → (x.e ≡ e) × (x.e2 ≡ k) × IsEdgePair g x → ArePairsTo g e k list → ArePairsTo g e (k + 1) (list ++ x ∷ [])
pairs_take g e k list x h s = rows.take edges_of_pair (IsEdgePair g) (IsWanted g) e k list x (key_is x e k h.0 h.1) h.2 s

pub pairs_are : (g : Sheet) (n : ℕ) (list : List EdgePair) → length g.edges ≤ n → ArePairsTo g n 0 list → AreEdgePairs g list
pairs_are g n list far s = record {
  each = λ m c e. (s.only m c e).0;
  all = λ e k lt t h. let l = second_edge g e k t in s.all e k (record { order = lt; edge = l; constrained = t; shares = h }) (inl (omega (arith, lt, l, far)));
  sorted = s.sorted;
}

-- ---- the list can be finished

module _ {pattern : Pattern} {faces : Faces} {folded : Folded} (h : IsFoldedPattern pattern faces folded) where
  abbrev g : Sheet
  g = sheet_of pattern faces folded

  near : (v : ℕ) → v < length folded.points → IsNear (point_at folded.points v)
  near v l = h.near v l

  decided : (i j : ℕ) → ((x : EdgePair) × (edges_of_pair x ≡ (i, j)) × IsEdgePair g x) ⊎ (IsWanted g i j → ⊥)
  decided i j = elim (cases_lt i j) [
    | inr l ↦ inr (λ w. let o = w.order in omega (arith, l, o))
    | inl l ↦ elim (cases_lt j (length pattern.edges)) [
      | inr m ↦ inr (λ w. let o = w.edge in omega (arith, m, o))
      | inl m ↦ by (constrain g i j) refl l m
    ]
  ] where
    ways : i < j → j < length pattern.edges → ((p : Pt) × (q : Pt) × IsCommonWay (tail g i) (head g i) (tail g j) (head g j) p q) ⊎ HaveNoWay (tail g i) (head g i) (tail g j) (head g j)
    ways l m =
        let k : i < length pattern.edges = omega (arith, l, m) in
        way_or_not (tail g i) (head g i) (tail g j) (head g j) (near _ (tail_below h i k)) (near _ (head_below h i k)) (near _ (tail_below h j m)) (near _ (head_below h j m)) (ends_apart h i k) (ends_apart h j m)

    by : (b : Bool) → constrain g i j ≡ b → i < j → j < length pattern.edges → ((x : EdgePair) × (edges_of_pair x ≡ (i, j)) × IsEdgePair g x) ⊎ (IsWanted g i j → ⊥)
    by false e l m = inr (λ w. false≢true (sym e ∙ w.constrained))
    by true e l m = elim (ways l m) [
      | inl (p, q, way) ↦ inl (record { e = i; e2 = j; p = p; q = q }, refl, record { order = l; constrained = e; shares = segment_of g i j p q way; ends = way })
      | inr none ↦ inr (λ w. no_segment g i j none w.shares)
    ]

  pub too_many : (e k : ℕ) (list : List EdgePair) (x : EdgePair) → e < length pattern.edges → (x.e ≡ e) × (x.e2 ≡ k) × IsEdgePair g x → ArePairsTo g e k list
      → (no : No) → IsFull (length list) no → WhyNoEdgePairs g no
  too_many e k list x l good s NoMemory full = tt
  too_many e k list x l good s (Refused r) full =
      let more = rows.finish edges_of_pair (IsEdgePair g) (IsWanted g) (length pattern.edges) (length pattern.edges)
      (λ a b w. let o = w.order in let m = w.edge in (omega (arith, o, m), m)) decided e (k + 1) (list ++ x ∷ []) l (pairs_take g e k list x good s) in
      let longer = more.2 in
      let one = rows.one_longer list x in
      let many = full.1 in
      (full.0, (more.0, pairs_are g (length pattern.edges) more.0 (omega arith) more.1, omega (arith, longer, one, many)))

-- Edges whose extents lie apart don't cross, and extents in order.
use Rattle.std.proofs.Common.{◌≡◌, ◌⊎◌, inl, inr, ℕ, zero, suc, ◌+◌, ◌<◌, ◌≤◌, List, [], ◌∷◌, ◌++◌, length, slice_index_or, false, IsTrue, ◌↔◌, arith, sym, ap, ◌∙◌, subst, ℤ, ◌<ℤ◌, ◌≤ℤ◌, Ordering, Less, Equal, Greater}
use Rattle.std.proofs.lemmas.Int.{ints}
use borrow.Author.Differences.{true_is_lt}
use lib.Signed.{lt_z}
use Rattle.std.specs.Ordering.{int_cmp, ordering_then, is_lt, MatchOrdering}
use Rattle.std.specs.Cmp.{int_ranks}
use Rattle.std.specs.List.Sorted.{IsPermutation, IsSorted}
use Rattle.std.proofs.lemmas.Bool.{false≢true}
use Rattle.std.proofs.lemmas.List.{get_or_append_left, get_or_push, get_or_default}
use Rattle.std.proofs.lemmas.List.Elements.{Contains-get_or}
use Rattle.std.proofs.lemmas.List.Sorted.{Contains-permutation, IsPermutation-sym}
use Rattle.ff_basics.proofs.Numbers.{last_or, which}
use Rattle.ff_whole.specs.declared.points.Pt.{Pt}
use Rattle.ff_whole.proofs.Signs.{linear}
use Rattle.ff_types.specs.declared.patterns.EdgeEnds.{EdgeEnds}
use Rattle.ff_types.specs.FaceRefusals.{NoCrossing}
use Rattle.ff_drawn.specs.contracts.extents.ExtentOrd.TheImpl as order
use Rattle.ff_drawn.specs.declared.extents.Extent.{Extent}
use Rattle.ff_drawn.specs.Beside.{AreBelow}
use Rattle.ff_drawn.specs.Extents.{extent_at, IsAroundEdge, AreRound, AreEdgeExtents, AreInOrder, AreNotCrossing, CrossesNone, NoneCross}
use Rattle.ff_drawn.proofs.EdgeCrossings.{apart_no_cross}

-- ---- apart

pub turned : {points : List Pt} {edges : List EdgeEnds} {e k : ℕ} → AreNotCrossing points edges e k → AreNotCrossing points edges k e
turned n = record { first = n.second; second = n.first }

beside : (low high : ℤ) → low <ℤ high → (s t : ℤ) → s ≤ℤ low → high ≤ℤ t → s <ℤ t
beside low high l s t m n = omega (arith, linear, m, n, l)

pub apart_in_y : (points : List Pt) (edges : List EdgeEnds) (e k : Extent) → IsAroundEdge points edges e → IsAroundEdge points edges k → e.high.y <ℤ k.low.y → AreNotCrossing points edges e.number k.number
apart_in_y points edges e k a b l =
    let less = beside e.high.y k.low.y l in
    let af = a.first in let al = a.last in let bf = b.first in let bl = b.last in
    let below : AreBelow _ _ _ _ = (less _ _ af.north bf.south, less _ _ af.north bl.south, less _ _ al.north bf.south, less _ _ al.north bl.south) in
    record { first = λ h. apart_no_cross points _ _ (inl (inr (inl below))) h.2; second = λ h. apart_no_cross points _ _ (inl (inr (inr below))) h.2 }

pub apart_in_x : (points : List Pt) (edges : List EdgeEnds) (e k : Extent) → IsAroundEdge points edges e → IsAroundEdge points edges k → e.high.x <ℤ k.low.x → AreNotCrossing points edges e.number k.number
apart_in_x points edges e k a b l =
    let less = beside e.high.x k.low.x l in
    let af = a.first in let al = a.last in let bf = b.first in let bl = b.last in
    let below : AreBelow _ _ _ _ = (less _ _ af.east bf.west, less _ _ af.east bl.west, less _ _ al.east bf.west, less _ _ al.east bl.west) in
    record { first = λ h. apart_no_cross points _ _ (inl (inl (inl below))) h.2; second = λ h. apart_no_cross points _ _ (inl (inl (inr below))) h.2 }

-- what a comparison of two signed numbers tells
pub less_tells : (a b w x : ℤ) → w ≡ a → x ≡ b → IsTrue (lt_z w x) ↔ (a <ℤ b)
less_tells a b w x e f = (λ t. omega (arith, ints), λ l. sym (true_is_lt w x (omega (arith, ints))))

-- ---- order

abbrev extent_cmp : Extent → Extent → Ordering
extent_cmp = order.cmp-value.it

first_not_less : (a b : ℤ) (o m : Ordering) → is_lt (ordering_then (ordering_then (int_cmp a b) o) m) ≡ false → b ≤ℤ a
first_not_less a b o m = by (int_cmp a b) (int_ranks a b) where
  by : (r : Ordering) → MatchOrdering r (a <ℤ b) (a ≡ b) (b <ℤ a) → is_lt (ordering_then (ordering_then r o) m) ≡ false → b ≤ℤ a
  by Less l e = absurd (false≢true (sym e))
  by Equal l e = omega (arith, linear, l)
  by Greater l e = omega (arith, linear, l)

second_not_less : (a b c d : ℤ) (m : Ordering) → a ≡ b → is_lt (ordering_then (ordering_then (int_cmp a b) (int_cmp c d)) m) ≡ false → d ≤ℤ c
second_not_less a b c d m q = by (int_cmp a b) (int_ranks a b) (int_cmp c d) (int_ranks c d) where
  by : (r : Ordering) → MatchOrdering r (a <ℤ b) (a ≡ b) (b <ℤ a) → (o : Ordering) → MatchOrdering o (c <ℤ d) (c ≡ d) (d <ℤ c) → is_lt (ordering_then (ordering_then r o) m) ≡ false → d ≤ℤ c
  by Less l o k e = absurd (false≢true (sym e))
  by Equal l Less k e = absurd (false≢true (sym e))
  by Equal l Equal k e = omega (arith, linear, k)
  by Equal l Greater k e = omega (arith, linear, k)
  by Greater l o k e = omega (arith, linear, l, q)

abbrev from : List Extent → ℕ → ℤ
from list i = (extent_at list i).low.x

abbrev up_from : List Extent → ℕ → ℤ
up_from list i = (extent_at list i).low.y

pub in_order : (list : List Extent) → IsSorted extent_cmp list → AreInOrder list
in_order list s = record { rises = λ i j l m. up i j l m; ties = λ i j l m e. north i j l m e } where
  step : (k : ℕ) → suc k < length list → from list k ≤ℤ from list (suc k)
  step k l = subst (λ n. from list k ≤ℤ from list n) (let q : k + 1 ≡ suc k = omega arith in q) (first_not_less _ _ _ _ (s k _ (omega arith) (omega (arith, l))))

  up : (i j : ℕ) → i < j → j < length list → from list i ≤ℤ from list j
  up i zero l m = absurd (omega (arith, l))
  up i (suc j) l m = elim (last_or i j (omega (arith, l))) [
    | inl k ↦ let a = up i j k (omega (arith, m)) in let b = step j m in omega (arith, linear, a, b)
    | inr e ↦ subst (λ n. from list n ≤ℤ from list (suc j)) (sym e) (step j m)
  ]

  tie : (k : ℕ) → suc k < length list → from list k ≡ from list (suc k) → up_from list k ≤ℤ up_from list (suc k)
  tie k l e = let q : k + 1 ≡ suc k = omega arith in
      subst (λ n. up_from list k ≤ℤ up_from list n) q (second_not_less _ _ _ _ _ (ap (from list) q ∙ sym e) (s k _ (omega arith) (omega (arith, l))))

  north : (i j : ℕ) → i < j → j < length list → from list i ≡ from list j → up_from list i ≤ℤ up_from list j
  north i zero l m e = absurd (omega (arith, l))
  north i (suc j) l m e = elim (last_or i j (omega (arith, l))) [
    | inl k ↦
        let a = up i j k (omega (arith, m)) in
        let b = step j m in
        let c = north i j k (omega (arith, m)) (omega (arith, linear, a, b, e)) in
        let d = tie j m (omega (arith, linear, a, b, e)) in
        omega (arith, linear, c, d)
    | inr f ↦ subst (λ n. up_from list n ≤ℤ up_from list (suc j)) (sym f) (tie j m (ap (from list) (sym f) ∙ e))
  ]

-- another order of the same extents
pub same_extents : (points : List Pt) (edges : List EdgeEnds) (old new : List Extent) → AreRound points edges old → IsPermutation old new → AreRound points edges new
same_extents points edges old new a p i l =
    let c = Contains-permutation new old (extent_at new i) (IsPermutation-sym old new p) (Contains-get_or new i _ l) in
    subst (IsAroundEdge points edges) (get_or_default old c.0 _ (extent_at new i) c.1 ∙ c.2) (a c.0 c.1)

-- ---- one extent more

pub extents_more : (points : List Pt) (edges : List EdgeEnds) (list : List Extent) (e : ℕ) (new : Extent) → length list ≡ e → ((k : ℕ) → k < e → IsAroundEdge points edges (extent_at list k) × ((extent_at list k).number ≡ k))
    → IsAroundEdge points edges new → new.number ≡ e → (k : ℕ) → k < e + 1 → IsAroundEdge points edges (extent_at (list ++ new ∷ []) k) × ((extent_at (list ++ new ∷ []) k).number ≡ k)
extents_more points edges list e new n h a m k l = elim (last_or k e l) [
  | inl o ↦ subst (λ x. IsAroundEdge points edges x × (x.number ≡ k)) (sym (get_or_append_left list (new ∷ []) _ k (omega (arith, o, n)))) (h k o)
  | inr o ↦ subst (λ x. IsAroundEdge points edges x × (x.number ≡ k)) (sym (get_or_push list new _ k (n ∙ sym o))) (a, m ∙ sym o)
]

pub extents_all : (points : List Pt) (edges : List EdgeEnds) (list : List Extent) (e : ℕ) → length list ≡ e → ((k : ℕ) → k < e → IsAroundEdge points edges (extent_at list k) × ((extent_at list k).number ≡ k)) → length edges ≤ e → AreEdgeExtents points edges list
extents_all points edges list e n h l = record {
  each = λ i m. (h i (omega (arith, m, n))).0;
  all = λ k m. (k, omega (arith, m, n, l), (h k (omega (arith, m, l))).1);
}

-- ---- crossings

pub none_after : (points : List Pt) (edges : List EdgeEnds) (list : List Extent) (i j : ℕ) → AreRound points edges list → AreInOrder list → i < j → j < length list → (extent_at list i).high.x <ℤ (extent_at list j).low.x
    → CrossesNone points edges list i j → CrossesNone points edges list i (length list)
none_after points edges list i j a o l m east none k s t = elim (which k j) [
  | inl x ↦ none k s x
  | inr (inl x) ↦ later k t (let w = o.rises j k x t in omega (arith, linear, w, east))
  | inr (inr x) ↦ later k t (subst (λ n. (extent_at list i).high.x <ℤ (extent_at list n).low.x) (sym x) east)
]
  where
    later : (k : ℕ) → k < length list → (extent_at list i).high.x <ℤ (extent_at list k).low.x → AreNotCrossing points edges (extent_at list i).number (extent_at list k).number
    later k t w = apart_in_x points edges (extent_at list i) (extent_at list k) (a i (omega (arith, l, m))) (a k t) w

-- an edge doesn't cross itself
itself : (points : List Pt) (edges : List EdgeEnds) (e k : ℕ) → e ≡ k → AreNotCrossing points edges e k
itself points edges e k q = record { first = λ h. let l = h.0 in omega (arith, l, q); second = λ h. let l = h.0 in omega (arith, l, q) }

at_place : (list : List Extent) (k : ℕ) (x : Extent) → k < length list → slice_index_or list k x ≡ x → extent_at list k ≡ x
at_place list k x l e = get_or_default list k _ x l ∙ e

pub none_cross : (points : List Pt) (edges : List EdgeEnds) (list : List Extent) → ((i : ℕ) → i < length list → CrossesNone points edges list i (length list)) → NoneCross points edges list
none_cross points edges list none e k m n =
    let a = at_place list m.0 e m.1 m.2 in
    let b = at_place list n.0 k n.1 n.2 in
    let named : AreNotCrossing points edges (extent_at list m.0).number (extent_at list n.0).number = elim (which m.0 n.0) [
      | inl l ↦ none m.0 m.1 n.0 l n.1
      | inr (inl l) ↦ turned (none n.0 n.1 m.0 l m.1)
      | inr (inr q) ↦ itself points edges _ _ (ap (λ i. (extent_at list i).number) q)
    ] in
    subst (λ (x : Extent). AreNotCrossing points edges x.number k.number) a (subst (λ (y : Extent). AreNotCrossing points edges (extent_at list m.0).number y.number) b named)

-- the order doesn't matter
pub none_cross_before : (points : List Pt) (edges : List EdgeEnds) (old new : List Extent) → IsPermutation old new → NoneCross points edges new → NoneCross points edges old
none_cross_before points edges old new p h e k m n = h e k (Contains-permutation old new e p m) (Contains-permutation old new k p n)

pub no_crossing : (points : List Pt) (edges : List EdgeEnds) (list : List Extent) → AreEdgeExtents points edges list → NoneCross points edges list → NoCrossing points edges
no_crossing points edges list a none e k h =
    let x = a.all e (let l = h.0 in let m = h.1 in omega (arith, l, m)) in
    let y = a.all k h.1 in
    let n = none (extent_at list x.0) (extent_at list y.0) (Contains-get_or list x.0 _ x.1) (Contains-get_or list y.0 _ y.1) in
    (subst (λ i. AreNotCrossing points edges i k) x.2 (subst (λ i. AreNotCrossing points edges (extent_at list x.0).number i) y.2 n)).first h

pub none_more : (points : List Pt) (edges : List EdgeEnds) (list : List Extent) (i j : ℕ) → CrossesNone points edges list i j → AreNotCrossing points edges (extent_at list i).number (extent_at list j).number → CrossesNone points edges list i (j + 1)
none_more points edges list i j h n k l m = elim (last_or k j m) [ inl o ↦ h k l o | inr e ↦ subst (λ x. AreNotCrossing points edges (extent_at list i).number (extent_at list x).number) (sym e) n ]

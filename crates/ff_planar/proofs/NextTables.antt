-- The table of next dart, one entry after the other, and that no two of its entries are alike.
use Rattle.std.proofs.Common.{◌≡◌, ◌⊎◌, inl, inr, ℕ, ◌+◌, ◌<◌, List, [], ◌∷◌, ◌++◌, length, slice_index, arith, sym, ap, ◌∙◌, subst}
use Rattle.std.proofs.lemmas.List.{get_or_append_left, get_or_push}
use Rattle.ff_basics.proofs.Numbers.{last_or}
use Rattle.ff_whole.specs.declared.points.Pt.{Pt}
use Rattle.ff_types.specs.declared.patterns.EdgeEnds.{EdgeEnds}
use Rattle.ff_types.specs.Walks.{GoesOn}
use Rattle.ff_drawn.specs.declared.darts.Dart.{Dart}
use Rattle.ff_drawn.specs.Drawn.{IsDrawnBy}
use Rattle.ff_drawn.specs.Darts.{dart_at, ComesBefore, AreInOrder}
use Rattle.ff_planar.specs.Turns.{IsNext}
use Rattle.ff_planar.specs.Orbits.{AreNexts, IsOneToOne}
use Rattle.ff_drawn.proofs.Starts.{not_before_itself}
use Rattle.ff_planar.proofs.Neighbours.{in_once}

pub next_more : (points : List Pt) (edges : List EdgeEnds) (darts : List Dart) (nexts : List ℕ) (d c : ℕ) → length nexts ≡ d → ((k : ℕ) → k < d → IsNext points edges darts k (slice_index nexts k))
    → IsNext points edges darts d c → (k : ℕ) → k < d + 1 → IsNext points edges darts k (slice_index (nexts ++ c ∷ []) k)
next_more points edges darts nexts d c n h i k l = elim (last_or k d l) [
  | inl m ↦ rw (get_or_append_left nexts (c ∷ []) 0 k (omega (arith, m, n))) (h k m)
  | inr e ↦ rw (get_or_push nexts c 0 k (n ∙ sym e), e) i
]

-- darts stand at one place each
pub one_place : (darts : List Dart) → AreInOrder darts → (d c : ℕ) → d < length darts → c < length darts → dart_at darts d ≡ dart_at darts c → d ≡ c
one_place darts s d c l m e = equal (apart d c m e) (apart c d l (sym e)) where
  apart : (d c : ℕ) → c < length darts → dart_at darts d ≡ dart_at darts c → d < c → ⊥
  apart d c m e o = not_before_itself (dart_at darts c) (subst (λ (x : Dart). ComesBefore x (dart_at darts c)) e (s.rises d c o m))

  equal : (d < c → ⊥) → (c < d → ⊥) → d ≡ c
  equal x y = grind (arith, x, y)

-- a walk comes to a dart from one other only
pub one_to_one : (points : List Pt) (edges : List EdgeEnds) (darts : List Dart) (nexts : List ℕ) → IsDrawnBy points edges darts → AreNexts points edges darts nexts → IsOneToOne nexts
one_to_one points edges darts nexts dr n = record {
  closed = λ d l. let k = n.as_many in let w = (n.each d (omega (arith, l))).within in omega arith;
  apart = λ d c l m e. let k = n.as_many in same d c (omega (arith, l)) (omega (arith, m)) e;
}
  where
    same : (d c : ℕ) → d < length darts → c < length darts → slice_index nexts d ≡ slice_index nexts c → d ≡ c
    same d c l m e =
        let i = n.each d l in
        let j = n.each c m in
        let heads : (dart_at darts d).head ≡ (dart_at darts c).head = sym i.from ∙ ap (λ k. (dart_at darts k).tail) e ∙ j.from in
        let ends : (dart_at darts (slice_index nexts c)).head ≡ (dart_at darts (slice_index nexts d)).head = ap (λ k. (dart_at darts k).head) (sym e) in
        let back : GoesOn points edges (dart_at darts c).tail (dart_at darts d).head (dart_at darts (slice_index nexts d)).head =
        subst (λ (h : ℕ). GoesOn points edges (dart_at darts c).tail h (dart_at darts (slice_index nexts d)).head) (sym heads) (subst (λ (h : ℕ). GoesOn points edges (dart_at darts c).tail (dart_at darts c).head h) ends j.goes) in
        let tails = in_once points edges dr.drawing (dart_at darts d).tail (dart_at darts c).tail (dart_at darts d).head (dart_at darts (slice_index nexts d)).head i.goes back in
        one_place darts dr.darts_are.sorted d c l m (λ t. record { tail = tails t; head = heads t })

-- Walks that share a directed edge have all of them in common, and one area. Here a walk is any closed list of which each
-- next vertex is determined by the two before it.
use Rattle.std.proofs.Common.{◌≡◌, ◌⊎◌, inl, inr, ℕ, zero, suc, ◌+◌, ◌-◌, ◌<◌, ◌≤◌, List, length, arith, sym, ap, ◌∙◌, subst, ℤ, pos, ◌≤ℤ◌}
use Rattle.ff_whole.proofs.Signs.{linear}
use Rattle.ff_whole.proofs.Searches.{sum}
use Rattle.ff_whole.proofs.ClosedLists.{walk, walk-below, walk-full, walk-to, walk-back}
use Rattle.ff_whole.specs.declared.points.Pt.{Pt}
use Rattle.ff_whole.specs.Points.{cross}
use Rattle.ff_whole.specs.Convex.{next, point_at}
use Rattle.ff_types.specs.declared.patterns.EdgeEnds.{EdgeEnds}
use Rattle.ff_types.specs.Drawings.{IsDrawing}
use Rattle.ff_types.specs.Rings.{corner, after, Goes}
use Rattle.ff_types.specs.Areas.{area}
use Rattle.ff_types.specs.Walks.{GoesOn, IsWalk}
use Rattle.ff_planar.proofs.CyclicSums.{sum_same, sum_split, sum_round, walk_far, sweep_at, area_sum}
use Rattle.ff_planar.proofs.Neighbours.{on_once}

-- the vertex two places on
abbrev pub beyond : List ℕ → ℕ → ℕ
beyond list i = corner list (next (length list) (next (length list) i))

-- after two neighbours that stand in both lists, the same vertex stands in both
pub record GoAlike (V W : List ℕ) : Type 0 where
  pub on : (i j : ℕ) → i < length V → j < length W → corner V i ≡ corner W j → after V i ≡ after W j → beyond V i ≡ beyond W j

-- from two places on the lists have the same vertices, and the same after them
pub record AreAlong (V W : List ℕ) (p q : ℕ) : Type 0 where
  pub here : corner V p ≡ corner W q
  pub there : after V p ≡ after W q

pub along_walk : (V W : List ℕ) → GoAlike V W → (p q : ℕ) → p < length V → q < length W → AreAlong V W p q → (k : ℕ) → AreAlong V W (walk (length V) p k) (walk (length W) q k)
along_walk V W g p q l m h zero = h
along_walk V W g p q l m h (suc k) = let a = along_walk V W g p q l m h k in record {
  here = a.there;
  there = g.on (walk (length V) p k) (walk (length W) q k) (walk-below (length V) p k l) (walk-below (length W) q k m) a.here a.there;
}

-- no directed edge twice
pub record IsOnce (W : List ℕ) : Type 0 where
  pub once : (i j : ℕ) → i < length W → j < length W → corner W i ≡ corner W j → after W i ≡ after W j → i ≡ j

-- a list that takes none twice isn't longer
not_longer : (V W : List ℕ) → GoAlike V W → IsOnce W → (p q : ℕ) → p < length V → q < length W → AreAlong V W p q → length V < length W → ⊥
not_longer V W g o p q l m h s =
    let n = length V in
    let a = along_walk V W g p q l m h n in
    let e = walk-full n p l in
    let back = o.once (walk (length W) q n) q (walk-below (length W) q n m) m (sym a.here ∙ ap (corner V) e ∙ h.here) (sym a.there ∙ ap (after V) e ∙ h.there) in
    let z = walk-back (length W) q n m s back in
    omega (arith, l, z)

flip : (V W : List ℕ) → GoAlike V W → GoAlike W V
flip V W g = record { on = λ i j l m e f. sym (g.on j i m l (sym e) (sym f)) }

turned : (V W : List ℕ) (p q : ℕ) → AreAlong V W p q → AreAlong W V q p
turned V W p q h = record { here = sym h.here; there = sym h.there }

pub same_length : (V W : List ℕ) → GoAlike V W → IsOnce V → IsOnce W → (p q : ℕ) → p < length V → q < length W → AreAlong V W p q → length V ≡ length W
same_length V W g ov ow p q l m h = equal (not_longer V W g ow p q l m h) (not_longer W V (flip V W g) ov q p m l (turned V W p q h)) where
  equal : (length V < length W → ⊥) → (length W < length V → ⊥) → length V ≡ length W
  equal x y = grind (arith, x, y)

-- each directed edge of the one list is one of the other
pub same_edges : (V W : List ℕ) → GoAlike V W → (p q : ℕ) → p < length V → q < length W → AreAlong V W p q → (u v : ℕ) → Goes V u v → Goes W u v
same_edges V W g p q l m h u v r =
    let k = walk-to (length V) p r.place l r.inside in
    let a = along_walk V W g p q l m h k.0 in
    let e = k.2 in
    record {
      place = walk (length W) q k.0;
      inside = walk-below (length W) q k.0 m;
      from = sym a.here ∙ ap (corner V) e ∙ r.from;
      to = sym a.there ∙ ap (after V) e ∙ r.to;
    }

-- so the areas are the same
pub same_area : (points : List Pt) (V W : List ℕ) → GoAlike V W → IsOnce V → IsOnce W → (p q : ℕ) → p < length V → q < length W → AreAlong V W p q → area points V ≡ area points W
same_area points V W g ov ow p q l m h =
    let n = length V in
    let e = same_length V W g ov ow p q l m h in
    area_sum points V
    ∙ sym (sum_round n p (sweep_at points V) l)
    ∙ sum_same n _ _ (λ k s. swept k)
    ∙ ap (λ t. sum t (λ k. sweep_at points W (walk (length W) q k))) e
    ∙ sum_round (length W) q (sweep_at points W) m
    ∙ sym (area_sum points W)
  where
    swept : (k : ℕ) → sweep_at points V (walk (length V) p k) ≡ sweep_at points W (walk (length W) q k)
    swept k = let a = along_walk V W g p q l m h k in
        ap (λ t. cross (point_at points t) (point_at points (after V (walk (length V) p k)))) a.here ∙ ap (λ t. cross (point_at points (corner W (walk (length W) q k))) (point_at points t)) a.there

-- ---- a closed list that goes round another one, maybe several times

-- a multiple of the area: at most 0 where the area is
rounds : (n p l : ℕ) (f : ℕ → ℤ) → p < n → sum n f ≤ℤ pos 0 → (fuel : ℕ) → l ≤ fuel → walk n p l ≡ p → sum l (λ k. f (walk n p k)) ≤ℤ pos 0
rounds n p l f h a zero m e = let z : l ≡ 0 = omega (arith, m) in subst (λ t. sum t (λ k. f (walk n p k)) ≤ℤ pos 0) (sym z) (omega (arith, linear))
rounds n p l f h a (suc fuel) m e = elim (below_or l n) [
  | inl s ↦ let z = walk-back n p l h s e in subst (λ t. sum t (λ k. f (walk n p k)) ≤ℤ pos 0) (sym z) (omega (arith, linear))
  | inr s ↦
      let parts : n + (l - n) ≡ l = omega (arith, s) in
      let full = walk-full n p h in
      let back : walk n p (l - n) ≡ p = ap (λ t. walk n t (l - n)) (sym full) ∙ sym (walk_far n p n (l - n)) ∙ ap (walk n p) parts ∙ e in
      let rest = rounds n p (l - n) f h a fuel (omega (arith, m, s, h)) back in
      let once = sum_round n p f h in
      let split = sum_split n (l - n) (λ k. f (walk n p k)) in
      let far = sum_same (l - n) (λ i. f (walk n p (n + i))) (λ i. f (walk n p i)) (λ i o. ap f (walk_far n p n i ∙ ap (λ t. walk n t i) full)) in
      let whole = ap (λ t. sum t (λ k. f (walk n p k))) parts in
      omega (arith, linear)
]
  where
    below_or : (i n : ℕ) → (i < n) ⊎ (n ≤ i)
    below_or i n = grind arith

-- W goes along V: its area isn't positive where V's isn't
pub area_round : (points : List Pt) (V W : List ℕ) → GoAlike V W → IsOnce V → (p q : ℕ) → p < length V → q < length W → AreAlong V W p q → area points V ≤ℤ pos 0 → area points W ≤ℤ pos 0
area_round points V W g ov p q l m h a =
    let n = length V in
    let j = length W in
    let e = along_walk V W g p q l m h j in
    let full = walk-full j q m in
    let back = ov.once (walk n p j) p (walk-below n p j l) l (e.here ∙ ap (corner W) full ∙ sym h.here) (e.there ∙ ap (after W) full ∙ sym h.there) in
    let v = area_sum points V in
    let low = rounds n p j (sweep_at points V) l (omega (arith, linear)) j (omega arith) back in
    let w = area_sum points W in
    let r = sum_round j q (sweep_at points W) m in
    let same = sum_same j (λ k. sweep_at points V (walk n p k)) (λ k. sweep_at points W (walk j q k)) (λ k s. swept k) in
    omega (arith, linear)
  where
    swept : (k : ℕ) → sweep_at points V (walk (length V) p k) ≡ sweep_at points W (walk (length W) q k)
    swept k = let a = along_walk V W g p q l m h k in
        ap (λ t. cross (point_at points t) (point_at points (after V (walk (length V) p k)))) a.here ∙ ap (λ t. cross (point_at points (corner W (walk (length W) q k))) (point_at points t)) a.there

-- ---- walks of a drawing

module _ (points : List Pt) (edges : List EdgeEnds) (d : IsDrawing points edges) where
  pub walks_alike : (V W : List ℕ) → IsWalk points edges V → IsWalk points edges W → GoAlike V W
  walks_alike V W v w = record {
    on = λ i j l m e f. on_once points edges d (corner V i) (after V i) (beyond V i) (beyond W j) (v.goes i l)
        (subst (λ (t : ℕ). GoesOn points edges (corner V i) t (beyond W j)) (sym f) (subst (λ (t : ℕ). GoesOn points edges t (after W j) (beyond W j)) (sym e) (w.goes j m)));
  }

  pub walk_once : (V : List ℕ) → IsWalk points edges V → IsOnce V
  walk_once V v = record { once = v.once }

  pub both_go : (V W : List ℕ) (u v : ℕ) (a : Goes V u v) (b : Goes W u v) → AreAlong V W a.place b.place
  both_go V W u v a b = record { here = a.from ∙ sym b.from; there = a.to ∙ sym b.to }

  -- walks with one directed edge in common have one area, and the same directed edges
  pub one_area : (V W : List ℕ) → IsWalk points edges V → IsWalk points edges W → (u v : ℕ) → Goes V u v → Goes W u v → area points V ≡ area points W
  one_area V W v w s t a b = same_area points V W (walks_alike V W v w) (walk_once V v) (walk_once W w) a.place b.place a.inside b.inside (both_go V W s t a b)

  pub one_walk : (V W : List ℕ) → IsWalk points edges V → IsWalk points edges W → (u v : ℕ) → Goes V u v → Goes W u v → (s t : ℕ) → Goes V s t → Goes W s t
  one_walk V W v w x y a b = same_edges V W (walks_alike V W v w) a.place b.place a.inside b.inside (both_go V W x y a b)

-- A place inside a ring is strictly left of each line that no corner of the ring is right of.
use Rattle.std.proofs.Common.{◌≡◌, ◌≢◌, ◌⊎◌, inl, inr, ℕ, suc, ◌<◌, refl, arith, subst, ℤ, pos, ◌-ℤ◌, ◌*ℤ◌, ◌<ℤ◌, ◌≤ℤ◌, Bool, true, false, List, [], length}
use Rattle.std.proofs.lemmas.Int.{by_lt_z}
use Rattle.ff_whole.specs.declared.points.Pt.{Pt}
use Rattle.ff_whole.specs.declared.lines.Line.{Line}
use Rattle.ff_whole.specs.declared.places.Place.{Place}
use Rattle.ff_whole.specs.Points.{turn}
use Rattle.ff_whole.specs.Places.{IsPlace, place_of, through, height}
use Rattle.ff_whole.specs.Convex.{next, point_at}
use Rattle.ff_whole.proofs.Formulas.{point_e, point_env, line_e, line_env, place_of_e, height_e, turn_e}
use Rattle.ff_whole.proofs.Ring.{◌⊖◌, ◌⊗◌, solve}
use Rattle.ff_whole.proofs.Signs.{linear, pos-mul, nonneg-mul, pos_from_mul, zero-mul, zero_product}
use Rattle.ff_whole.proofs.ClosedLists.{next-below, walk, walk-below, walk-full}
use Rattle.ff_whole.proofs.Searches.{search}
use Rattle.ff_whole.proofs.Triangles.{height-triangle}
use Rattle.ff_whole.proofs.Fans.{IsInside, fan}
use Rattle.ff_whole.proofs.Slabs.{IsInsideRing, inside_fan}
use Rattle.ff_whole.proofs.Reversals.{back-below, backward, next-back}
use Rattle.ff_types.specs.Rings.{corner}
use Rattle.ff_edges.specs.Clips.{IsInnerTo}

-- a line has a direction
abbrev pub HasDirection : Line → Type 0
HasDirection l = (l.a ≢ pos 0) ⊎ (l.b ≢ pos 0)

-- how three points turn, by their heights over a line
turn-by_a : (l : Line) (p q r : Pt) → (height l (place_of q) -ℤ height l (place_of p)) *ℤ (r.y -ℤ p.y) -ℤ (height l (place_of r) -ℤ height l (place_of p)) *ℤ (q.y -ℤ p.y) ≡ l.a *ℤ turn p q r
turn-by_a l p q r =
    let l' = line_e 0 in let p' = point_e 3 in let q' = point_e 5 in let r' = point_e 7 in
    solve (line_env l (point_env p (point_env q (point_env r []))))
    ((height_e l' (place_of_e q') ⊖ height_e l' (place_of_e p')) ⊗ (r'.y ⊖ p'.y) ⊖ (height_e l' (place_of_e r') ⊖ height_e l' (place_of_e p')) ⊗ (q'.y ⊖ p'.y))
    (l'.a ⊗ turn_e p' q' r') refl

turn-by_b : (l : Line) (p q r : Pt) → (height l (place_of r) -ℤ height l (place_of p)) *ℤ (q.x -ℤ p.x) -ℤ (height l (place_of q) -ℤ height l (place_of p)) *ℤ (r.x -ℤ p.x) ≡ l.b *ℤ turn p q r
turn-by_b l p q r =
    let l' = line_e 0 in let p' = point_e 3 in let q' = point_e 5 in let r' = point_e 7 in
    solve (line_env l (point_env p (point_env q (point_env r []))))
    ((height_e l' (place_of_e r') ⊖ height_e l' (place_of_e p')) ⊗ (q'.x ⊖ p'.x) ⊖ (height_e l' (place_of_e q') ⊖ height_e l' (place_of_e p')) ⊗ (r'.x ⊖ p'.x))
    (l'.b ⊗ turn_e p' q' r') refl

-- three points on a line don't turn
flat : (l : Line) (p q r : Pt) → HasDirection l → height l (place_of p) ≡ pos 0 → height l (place_of q) ≡ pos 0 → height l (place_of r) ≡ pos 0 → turn p q r ≡ pos 0
flat l p q r d x y z = elim d [ inl n ↦ by l.a n by_a | inr n ↦ by l.b n by_b ] where
  by : (k : ℤ) → k ≢ pos 0 → k *ℤ turn p q r ≡ pos 0 → turn p q r ≡ pos 0
  by k n e = elim (zero_product k (turn p q r) e) [ inl z ↦ absurd (n z) | inr z ↦ z ]

  by_a : l.a *ℤ turn p q r ≡ pos 0
  by_a =
      let e = turn-by_a l p q r in
      let u = zero-mul (height l (place_of q) -ℤ height l (place_of p)) (r.y -ℤ p.y) (omega (arith, linear)) in
      let v = zero-mul (height l (place_of r) -ℤ height l (place_of p)) (q.y -ℤ p.y) (omega (arith, linear)) in
      omega (arith, linear)

  by_b : l.b *ℤ turn p q r ≡ pos 0
  by_b =
      let e = turn-by_b l p q r in
      let u = zero-mul (height l (place_of r) -ℤ height l (place_of p)) (q.x -ℤ p.x) (omega (arith, linear)) in
      let v = zero-mul (height l (place_of q) -ℤ height l (place_of p)) (r.x -ℤ p.x) (omega (arith, linear)) in
      omega (arith, linear)

module _ (k : ℕ) (v : ℕ → Pt) (m : Place) (positive : IsPlace m) (inside : IsInsideRing (suc (suc k)) v m) where
  -- the ring, read from another vertex on
  read_from : (s : ℕ) → s < suc (suc k) → IsInside (λ i. v (walk (suc (suc k)) s i)) k m
  read_from s l = record {
    positive = positive;
    edges = λ i b. inside (walk (suc (suc k)) s i) (walk-below (suc (suc k)) s i l);
    closing = subst (λ j. pos 0 <ℤ height (through (v (walk (suc (suc k)) s (suc k))) (v j)) m) (walk-full (suc (suc k)) s l) (inside (walk (suc (suc k)) s (suc k)) (walk-below (suc (suc k)) s (suc k) l));
  }

  module _ (l : Line) (direction : HasDirection l) (all : (i : ℕ) → i < suc (suc k) → pos 0 ≤ℤ height l (place_of (v i))) where
    -- one vertex strictly left
    left_by : (s : ℕ) → s < suc (suc k) → pos 0 <ℤ height l (place_of (v s)) → pos 0 <ℤ height l m
    left_by s b up =
        let w : ℕ → Pt = λ i. v (walk (suc (suc k)) s i) in
        let r = fan w k m (read_from s b) in
        let t = r.2 in
        let p = w 0 in let q = w (suc r.0) in let o = w (suc (suc r.0)) in
        let first = t.first in
        let e = height-triangle l p q o m in
        let x = pos-mul (height (through q o) m) (height l (place_of p)) t.second up in
        let y = nonneg-mul (height (through o p) m) (height l (place_of q)) t.third (all _ (walk-below (suc (suc k)) s (suc r.0) b)) in
        let z = nonneg-mul (height (through p q) m) (height l (place_of o)) (omega (arith, linear)) (all _ (walk-below (suc (suc k)) s (suc (suc r.0)) b)) in
        pos_from_mul (turn p q o) (height l m) t.left (omega (arith, linear))

    -- not all vertices are on the line
    not_flat : ((i : ℕ) → i < suc (suc k) → height l (place_of (v i)) ≤ℤ pos 0) → ⊥
    not_flat low =
        let w : ℕ → Pt = λ i. v (walk (suc (suc k)) 0 i) in
        let r = fan w k m (read_from 0 (omega arith)) in
        let t = r.2 in
        let left = t.left in
        let e = flat l (w 0) (w (suc r.0)) (w (suc (suc r.0))) direction (level 0 (omega arith)) (level _ (walk-below (suc (suc k)) 0 (suc r.0) (omega arith))) (level _ (walk-below (suc (suc k)) 0 (suc (suc r.0)) (omega arith))) in
        omega (arith, linear)
      where
        level : (i : ℕ) → i < suc (suc k) → height l (place_of (v i)) ≡ pos 0
        level i b = let x = all i b in let y = low i b in omega (arith, linear)

    left_inside : pos 0 <ℤ height l m
    left_inside = elim (search (suc (suc k)) (λ i. pos 0 <ℤ height l (place_of (v i))) (λ i. height l (place_of (v i)) ≤ℤ pos 0) (λ i b. by_lt_z (pos 0) (height l (place_of (v i))) inl inr)) [
      | inl (s, b, up) ↦ left_by s b up
      | inr low ↦ absurd (not_flat low)
    ]

left_of_all : (n : ℕ) (v : ℕ → Pt) (m : Place) → IsPlace m → 0 < n → IsInsideRing n v m → (l : Line) → HasDirection l
    → ((i : ℕ) → i < n → pos 0 ≤ℤ height l (place_of (v i))) → pos 0 <ℤ height l m
left_of_all n v m w some h l d all =
    let r = inside_fan n v m w some h in
    let e = r.1 in
    left_inside r.0 v m w (subst (λ j. IsInsideRing j v m) e h) l d (subst (λ j. (i : ℕ) → i < j → pos 0 ≤ℤ height l (place_of (v i))) e all)

-- the same of a face's image, up or down
pub strictly_left : (points : List Pt) (up : Bool) (ring : List ℕ) (m : Place) → IsPlace m → 0 < length ring → IsInnerTo points up ring (length ring) m
    → (l : Line) → HasDirection l → ((i : ℕ) → i < length ring → pos 0 ≤ℤ height l (place_of (point_at points (corner ring i)))) → pos 0 <ℤ height l m
strictly_left points true ring m w some h l d all = left_of_all (length ring) (λ i. point_at points (corner ring i)) m w some h l d all
strictly_left points false ring m w some h l d all =
    left_of_all n (backward n v) m w some turned l d (λ i b. all _ (back-below n i b))
  where
    n : ℕ
    n = length ring

    v : ℕ → Pt
    v i = point_at points (corner ring i)

    turned : IsInsideRing n (backward n v) m
    turned i b = subst (λ j. pos 0 <ℤ height (through (v j) (backward n v (next n i))) m) (next-back n i b) (h _ (back-below n (next n i) (next-below n i b)))

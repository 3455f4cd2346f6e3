-- A place that is right of no edge of a convex ring, and on the line of one of them, lies on one of its edges.
-- From the edge on whose line it is, the ring is walked towards the place. Until it is passed, each edge keeps to that
-- line, and each step comes closer to the place by one at least.
use Rattle.std.proofs.Common.{◌≡◌, ◌⊎◌, inl, inr, ℕ, zero, suc, ◌<◌, arith, ◌∙◌, sym, subst, ℤ, pos, negsuc, ◌<ℤ◌, ◌≤ℤ◌}
use lib.IntN.{neg_ℤ}
use Rattle.std.proofs.lemmas.Int.{ints}
use Rattle.ff_whole.proofs.Signs.{linear, by_sign, pos-mul, zero-mul}
use Rattle.ff_whole.proofs.ThreeTerms.{cross-own, cross-none, cross-step}
use Rattle.ff_whole.proofs.ClosedLists.{next-below, prev, prev-below, next-prev}
use Rattle.ff_whole.proofs.Searches.{search}
use Rattle.ff_whole.proofs.Offsets.{off, height-off, cross-off, dot-off}
use Rattle.ff_whole.proofs.OnEdges.{IsOn, long_from_left, on_start, on_between, keeps_on, keeps_on_back, same_direction}
use Rattle.ff_whole.specs.Points.{minus, dot, cross, turn}
use Rattle.ff_whole.specs.Convex.{next}
use Rattle.ff_whole.specs.Places.{through, height}
use Rattle.ff_whole.specs.declared.points.Pt.{Pt}
use Rattle.ff_whole.specs.declared.places.Place.{Place}

-- the vertices v 0, .., v (n - 1) go round a convex ring: each is on or left of each edge, and not all on one's line
pub record IsConvexRing (n : ℕ) (v : ℕ → Pt) : Type 0 where
  pub left : (i j : ℕ) → i < n → j < n → pos 0 ≤ℤ turn (v i) (v (next n i)) (v j)
  pub wide : (i : ℕ) → i < n → (j : ℕ) × (j < n) × (pos 0 <ℤ turn (v i) (v (next n i)) (v j))

-- the place is right of no edge of the ring
abbrev pub IsNotOutside : ℕ → (ℕ → Pt) → Place → Type 0
IsNotOutside n v m = (i : ℕ) → i < n → pos 0 ≤ℤ height (through (v i) (v (next n i))) m

-- the place is on an edge of the ring
abbrev pub IsOnRing : ℕ → (ℕ → Pt) → Place → Type 0
IsOnRing n v m = (k : ℕ) × (k < n) × IsOn (v k) (v (next n k)) m

reach : (z : ℤ) → (fuel : ℕ) × (z ≤ℤ pos fuel) × (neg_ℤ z ≤ℤ pos fuel)
reach (pos n) = (n, omega (arith, ints), omega (arith, ints))
reach (negsuc n) = (suc n, omega (arith, ints), omega (arith, ints))

module _ (n : ℕ) (v : ℕ → Pt) (ring : IsConvexRing n v) (m : Place) (w : pos 0 <ℤ m.w) (inner : IsNotOutside n v m) (j : ℕ) (hj : j < n) where
  abbrev edge : ℕ → Pt
  edge i = minus (v (next n i)) (v i)

  long : (i : ℕ) → i < n → pos 0 <ℤ dot (edge i) (edge i)
  long i h = let o = ring.wide i h in long_from_left (edge i) (minus (v o.0) (v i)) o.2

  -- the k-th vertex is on the line of the j-th edge, and so is the place as seen from it
  record IsLevel (k : ℕ) : Type 0 where
    on_line : cross (edge j) (minus (v k) (v j)) ≡ pos 0
    level : cross (edge j) (off m (v k)) ≡ pos 0

  -- an edge on the line has the direction of the j-th
  onward : (k : ℕ) → k < n → cross (edge j) (minus (v k) (v j)) ≡ pos 0 → cross (edge j) (edge k) ≡ pos 0
      → pos 0 <ℤ dot (edge j) (edge k)
  onward k h on par =
      let o = ring.wide j hj in
      let e = cross-step (edge j) (v k) (v o.0) (v j) in
      let left = o.2 in
      same_direction (edge j) (edge k) (minus (v o.0) (v k)) (long j hj) (long k h) par (omega (arith, linear)) (ring.left k o.0 h o.1)

  -- ---- forward

  forward_on : (k : ℕ) → k < n → IsLevel k → pos 0 <ℤ dot (edge j) (off m (v k)) → cross (edge j) (edge k) ≡ pos 0
  forward_on k h s ahead =
      let on = s.on_line in
      let e = cross-step (edge j) (v k) (v (next n k)) (v j) in
      let l = ring.left j (next n k) hj (next-below n k h) in
      let i = inner k h in
      let f = height-off (v k) (v (next n k)) m in
      keeps_on (edge j) (off m (v k)) (edge k) (long j hj) s.level ahead (omega (arith, linear)) (omega (arith, linear))

  forward_level : (k : ℕ) → IsLevel k → cross (edge j) (edge k) ≡ pos 0 → IsLevel (next n k)
  forward_level k s par =
      let on = s.on_line in
      let level = s.level in
      let e = cross-step (edge j) (v k) (v (next n k)) (v j) in
      let f = cross-off (edge j) (v k) (v (next n k)) m in
      let z = zero-mul (cross (edge j) (edge k)) m.w par in
      record { on_line = omega (arith, linear); level = omega (arith, linear) }

  forward : (fuel k : ℕ) → k < n → IsLevel k → pos 0 ≤ℤ dot (edge j) (off m (v k))
      → dot (edge j) (off m (v k)) ≤ℤ pos fuel → IsOnRing n v m
  forward zero k h s near bound =
      (k, h, on_start (edge j) (v k) (v (next n k)) m w (long j hj) s.level (omega (arith, ints)))
  forward (suc fuel) k h s near bound = by_sign (dot (edge j) (off m (v k)))
      (λ l. absurd (omega (arith, linear)))
      (λ here. (k, h, on_start (edge j) (v k) (v (next n k)) m w (long j hj) s.level here))
      (λ ahead.
      let par = forward_on k h s ahead in
      let t = forward_level k s par in
      let d = dot-off (edge j) (v k) (v (next n k)) m in
      let p = pos-mul (dot (edge j) (edge k)) m.w (onward k h s.on_line par) w in
      let closer : dot (edge j) (off m (v (next n k))) ≤ℤ pos fuel = omega (arith, ints) in
      by_sign (dot (edge j) (off m (v (next n k))))
      (λ back. (k, h, on_between (edge j) (v k) (v (next n k)) m w (long j hj) s.level t.level ahead back))
      (λ there. forward fuel (next n k) (next-below n k h) t (omega (arith, linear)) closer)
      (λ more. forward fuel (next n k) (next-below n k h) t (omega (arith, linear)) closer))

  -- ---- backward, from the end of the edge e to its start

  backward_on : (e : ℕ) → e < n → IsLevel (next n e) → dot (edge j) (off m (v (next n e))) <ℤ pos 0
      → cross (edge j) (edge e) ≡ pos 0
  backward_on e h s back =
      let on = s.on_line in
      let c = cross-step (edge j) (v e) (v (next n e)) (v j) in
      let l = ring.left j e hj h in
      let i = inner e h in
      let f = height-off (v e) (v (next n e)) m in
      let g = cross-off (edge e) (v e) (v (next n e)) m in
      let z = zero-mul (cross (edge e) (edge e)) m.w (cross-own (edge e)) in
      keeps_on_back (edge j) (off m (v (next n e))) (edge e) (long j hj) s.level back (omega (arith, linear)) (omega (arith, linear))

  backward_level : (e : ℕ) → IsLevel (next n e) → cross (edge j) (edge e) ≡ pos 0 → IsLevel e
  backward_level e s par =
      let on = s.on_line in
      let level = s.level in
      let c = cross-step (edge j) (v e) (v (next n e)) (v j) in
      let f = cross-off (edge j) (v e) (v (next n e)) m in
      let z = zero-mul (cross (edge j) (edge e)) m.w par in
      record { on_line = omega (arith, linear); level = omega (arith, linear) }

  -- the k-th vertex is on the line, and past the place by so much at most
  record IsPast (fuel k : ℕ) : Type 0 where
    level : IsLevel k
    past : dot (edge j) (off m (v k)) ≤ℤ pos 0
    bound : neg_ℤ (dot (edge j) (off m (v k))) ≤ℤ pos fuel

  backward : (fuel e : ℕ) → e < n → IsPast fuel (next n e) → IsOnRing n v m
  backward zero e h s =
      let past = s.past in
      let bound = s.bound in
      (next n e, next-below n e h, on_start (edge j) (v (next n e)) (v (next n (next n e))) m w (long j hj) s.level.level (omega (arith, ints)))
  backward (suc fuel) e h s = by_sign (dot (edge j) (off m (v (next n e))))
      (λ back.
      let bound = s.bound in
      let par = backward_on e h s.level back in
      let t = backward_level e s.level par in
      let d = dot-off (edge j) (v e) (v (next n e)) m in
      let p = pos-mul (dot (edge j) (edge e)) m.w (onward e h t.on_line par) w in
      by_sign (dot (edge j) (off m (v e)))
      (λ more. backward fuel (prev n e) (prev-below n e h) (subst (IsPast fuel) (sym (next-prev n e h)) (record { level = t; past = omega (arith, linear); bound = omega (arith, ints) })))
      (λ there. (e, h, on_start (edge j) (v e) (v (next n e)) m w (long j hj) t.level there))
      (λ ahead. (e, h, on_between (edge j) (v e) (v (next n e)) m w (long j hj) t.level s.level.level ahead back)))
      (λ here. (next n e, next-below n e h, on_start (edge j) (v (next n e)) (v (next n (next n e))) m w (long j hj) s.level.level here))
      (λ l. let past = s.past in absurd (omega (arith, linear)))

  -- ---- the law

  pub on_ring : height (through (v j) (v (next n j))) m ≡ pos 0 → IsOnRing n v m
  on_ring on =
      let start : IsLevel j = record { on_line = cross-none (edge j) (v j); level = sym (height-off (v j) (v (next n j)) m) ∙ on } in
      let r = reach (dot (edge j) (off m (v j))) in
      let up = r.1 in
      let down = r.2 in
      by_sign (dot (edge j) (off m (v j)))
      (λ l. backward r.0 (prev n j) (prev-below n j hj) (subst (IsPast r.0) (sym (next-prev n j hj)) (record { level = start; past = omega (arith, linear); bound = down })))
      (λ z. forward r.0 j hj start (omega (arith, linear)) up)
      (λ l. forward r.0 j hj start (omega (arith, linear)) up)

-- a place right of no edge is left of each, or on one
pub inside_or_on : (n : ℕ) (v : ℕ → Pt) → IsConvexRing n v → (m : Place) → pos 0 <ℤ m.w → IsNotOutside n v m
    → IsOnRing n v m ⊎ ((i : ℕ) → i < n → pos 0 <ℤ height (through (v i) (v (next n i))) m)
inside_or_on n v ring m w inner =
    elim (search n (λ i. height (through (v i) (v (next n i))) m ≡ pos 0) (λ i. pos 0 <ℤ height (through (v i) (v (next n i))) m) decide) [
      | inl r ↦ inl (on_ring n v ring m w inner r.0 r.1 r.2)
      | inr all ↦ inr all
    ]
  where
    decide : (i : ℕ) → i < n
        → (height (through (v i) (v (next n i))) m ≡ pos 0) ⊎ (pos 0 <ℤ height (through (v i) (v (next n i))) m)
    decide i l = let h = inner i l in
        by_sign (height (through (v i) (v (next n i))) m) (λ x. absurd (omega (arith, linear))) inl inr

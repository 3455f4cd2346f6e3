-- A place left of each edge of a ring has edges on both sides of it in x, one that passes it to the right and one to the
-- left. The ring's vertices are v 0, .., v (n - 1); it need not be convex.
use Rattle.std.proofs.Common.{◌≡◌, ◌≢◌, inl, inr, ℕ, zero, suc, ◌<◌, refl, arith, sym, subst, ℤ, pos, ◌<ℤ◌, ◌≤ℤ◌, []}
use lib.IntN.{neg_ℤ}
use Rattle.std.proofs.lemmas.Int.{by_lt_z}
use Rattle.std.proofs.lemmas.Bool.Decides.{nat_tests}
use Rattle.ff_whole.proofs.Formulas.{point_e, point_env, place_e, place_env, place_of_e, through_e, height_e}
use Rattle.ff_whole.proofs.Ring.{num, ◌⊖◌, ◌⊗◌, opp, solve}
use Rattle.ff_whole.proofs.Signs.{linear, by_sign}
use Rattle.ff_whole.proofs.ClosedLists.{next-below, walk, walk-below, walk-to}
use Rattle.ff_whole.proofs.Searches.{search}
use Rattle.ff_whole.proofs.Triangles.{sign_turns}
use Rattle.ff_whole.proofs.Fans.{IsInside, left-ring}
use Rattle.ff_whole.proofs.Between.{after}
use Rattle.ff_whole.specs.Convex.{next}
use Rattle.ff_whole.specs.Places.{place_of, through, height}
use Rattle.ff_whole.specs.declared.points.Pt.{Pt}
use Rattle.ff_whole.specs.declared.lines.Line.{Line}
use Rattle.ff_whole.specs.declared.places.Place.{Place}

-- strictly left of each edge
abbrev pub IsInsideRing : ℕ → (ℕ → Pt) → Place → Type 0
IsInsideRing n v m = (i : ℕ) → i < n → pos 0 <ℤ height (through (v i) (v (next n i))) m

next_suc : (n i : ℕ) → suc i < n → next n i ≡ suc i
next_suc n i h = grind (arith, nat_tests)

next_last : (n : ℕ) → next (suc n) n ≡ 0
next_last n = grind (arith, nat_tests)

height-same : (p : Pt) (m : Place) → height (through p p) m ≡ pos 0
height-same p m = let p' = point_e 0 in let m' = place_e 2 in
    solve (point_env p (place_env m [])) (height_e (through_e p' p') m') (num (pos 0)) refl

-- the same, as the law of fans has it
pub inside_fan : (n : ℕ) (v : ℕ → Pt) (m : Place) → pos 0 <ℤ m.w → 0 < n → IsInsideRing n v m
    → (k : ℕ) × (n ≡ suc (suc k)) × IsInside v k m
inside_fan zero v m w some h = absurd (omega arith)
inside_fan (suc zero) v m w some h = let a = h 0 (omega arith) in let z = height-same (v 0) m in
    absurd (omega (arith, linear))
inside_fan (suc (suc k)) v m w some h = (
  k,
  refl,
  record {
    positive = w;
    edges =
        λ i l. subst (λ j. pos 0 <ℤ height (through (v i) (v j)) m) (next_suc (suc (suc k)) i (omega arith)) (h i (omega arith));
    closing =
        subst (λ j. pos 0 <ℤ height (through (v (suc k)) (v j)) m) (next_last (suc k)) (h (suc k) (omega arith));
  },
)

-- the vertical lines through the place, with what is right of it on the left side, and with what is left of it there
abbrev rightwards : Place → Line
rightwards m = record { a = m.w; b = pos 0; c = m.x }

abbrev leftwards : Place → Line
leftwards m = record { a = neg_ℤ m.w; b = pos 0; c = neg_ℤ m.x }

over_rightwards : (p : Pt) (m : Place) → height (rightwards m) (place_of p) ≡ neg_ℤ (after p m)
over_rightwards p m = let p' = point_e 0 in let m' = place_e 2 in
    solve (point_env p (place_env m [])) (height_e (record { a = m'.w; b = num (pos 0); c = m'.x }) (place_of_e p')) (opp (m'.x ⊖ p'.x ⊗ m'.w)) refl

over_leftwards : (p : Pt) (m : Place) → height (leftwards m) (place_of p) ≡ after p m
over_leftwards p m = let p' = point_e 0 in let m' = place_e 2 in
    solve (point_env p (place_env m [])) (height_e (record { a = opp m'.w; b = num (pos 0); c = opp m'.x }) (place_of_e p')) (m'.x ⊖ p'.x ⊗ m'.w) refl

on_rightwards : (m : Place) → height (rightwards m) m ≡ pos 0
on_rightwards m = let m' = place_e 0 in
    solve (place_env m []) (height_e (record { a = m'.w; b = num (pos 0); c = m'.x }) m') (num (pos 0)) refl

on_leftwards : (m : Place) → height (leftwards m) m ≡ pos 0
on_leftwards m = let m' = place_e 0 in
    solve (place_env m []) (height_e (record { a = opp m'.w; b = num (pos 0); c = opp m'.x }) m') (num (pos 0)) refl

-- a place inside a ring is left of each line that all vertices are left of
pub left-closed : (n : ℕ) (v : ℕ → Pt) (m : Place) → pos 0 <ℤ m.w → 0 < n → IsInsideRing n v m → (l : Line)
    → ((i : ℕ) → i < n → pos 0 <ℤ height l (place_of (v i))) → pos 0 <ℤ height l m
left-closed n v m w some h l all =
    let r = inside_fan n v m w some h in
    let e = r.1 in
    left-ring v r.0 m r.2 l (λ i k. all i (omega arith))

-- not all vertices are right of a place inside, and not all are left of it
pub some_left : (n : ℕ) (v : ℕ → Pt) (m : Place) → pos 0 <ℤ m.w → 0 < n → IsInsideRing n v m
    → (i : ℕ) × (i < n) × (pos 0 ≤ℤ after (v i) m)
some_left n v m w some h =
    elim (search n (λ i. pos 0 ≤ℤ after (v i) m) (λ i. after (v i) m <ℤ pos 0) (λ i l. by_lt_z (after (v i) m) (pos 0) inr inl)) [
      | inl r ↦ r
      | inr all ↦ let z = on_rightwards m in
          let p = left-closed n v m w some h (rightwards m) (λ i l. let a = all i l in let e = over_rightwards (v i) m in omega (arith, linear)) in
          absurd (omega (arith, linear))
    ]

-- nor are all vertices left of it
pub some_right : (n : ℕ) (v : ℕ → Pt) (m : Place) → pos 0 <ℤ m.w → 0 < n → IsInsideRing n v m
    → (i : ℕ) × (i < n) × (after (v i) m ≤ℤ pos 0)
some_right n v m w some h =
    elim (search n (λ i. after (v i) m ≤ℤ pos 0) (λ i. pos 0 <ℤ after (v i) m) (λ i l. by_lt_z (pos 0) (after (v i) m) inr inl)) [
      | inl r ↦ r
      | inr all ↦ let z = on_leftwards m in
          let p = left-closed n v m w some h (leftwards m) (λ i l. let a = all i l in let e = over_leftwards (v i) m in omega (arith, linear)) in
          absurd (omega (arith, linear))
    ]

-- ---- going round from a number above 0 to one that isn't, some step goes down

-- going round from a number above 0 to one that is not, some step goes from above 0 to not above 0
pub goes_down : (n : ℕ) (f : ℕ → ℤ) (s r : ℕ) → s < n → r < n → pos 0 <ℤ f s → f r ≤ℤ pos 0
    → (i : ℕ) × (i < n) × (pos 0 <ℤ f i) × (f (next n i) ≤ℤ pos 0)
goes_down n f s r hs hr above low =
    let k = walk-to n s r hs hr in
    let t = sign_turns (λ i. f (walk n s i)) k.0 above (subst (λ i. f i ≤ℤ pos 0) (sym k.2) low) in
    (walk n s t.0, walk-below n s t.0 hs, t.2, t.3)

-- an edge that passes the place to the right, and one that passes it to the left
pub record HasBothWays (n : ℕ) (v : ℕ → Pt) (m : Place) : Type 0 where
  pub right : ℕ
  pub right_below : right < n
  pub right_from : pos 0 <ℤ after (v right) m
  pub right_to : after (v (next n right)) m <ℤ pos 0
  pub left : ℕ
  pub left_below : left < n
  pub left_from : after (v left) m <ℤ pos 0
  pub left_to : pos 0 <ℤ after (v (next n left)) m

-- a place inside, with no vertex above or below it, has such edges
pub both_ways : (n : ℕ) (v : ℕ → Pt) (m : Place) → pos 0 <ℤ m.w → 0 < n → IsInsideRing n v m
    → ((i : ℕ) → i < n → after (v i) m ≢ pos 0) → HasBothWays n v m
both_ways n v m w some h off =
    let s = some_left n v m w some h in
    let r = some_right n v m w some h in
    let left = above s.0 s.1 s.2 in
    let right = below r.0 r.1 r.2 in
    let a = goes_down n (λ i. after (v i) m) s.0 r.0 s.1 r.1 left r.2 in
    let b = goes_down n (λ i. neg_ℤ (after (v i) m)) r.0 s.0 r.1 s.1 (omega (arith, linear)) (let g = s.2 in omega (arith, linear)) in
    let b2 = b.2 in
    let b3 = b.3 in
    record {
      right = a.0;
      right_below = a.1;
      right_from = a.2;
      right_to = below (next n a.0) (next-below n a.0 a.1) a.3;
      left = b.0;
      left_below = b.1;
      left_from = omega (arith, linear);
      left_to = above (next n b.0) (next-below n b.0 b.1) (omega (arith, linear));
    }
  where
    above : (i : ℕ) → i < n → pos 0 ≤ℤ after (v i) m → pos 0 <ℤ after (v i) m
    above i l g = by_sign (after (v i) m) (λ x. absurd (omega (arith, linear))) (λ z. absurd (off i l z)) (λ x. x)

    below : (i : ℕ) → i < n → after (v i) m ≤ℤ pos 0 → after (v i) m <ℤ pos 0
    below i l g = by_sign (after (v i) m) (λ x. x) (λ z. absurd (off i l z)) (λ x. absurd (omega (arith, linear)))

-- A ring of points is convex exactly where it passes the test at each place, from its first point on.
use Rattle.std.proofs.Common.{◌≡◌, ◌≢◌, ◌<◌, ◌≤◌, suc, arith, ap, subst, sym, ◌∙◌, ◌-◌, ℕ, pos, ◌<ℤ◌, ◌≤ℤ◌, inl, inr, List, length}
use Rattle.std.specs.List.{All}
use Rattle.std.proofs.lemmas.Int.{by_lt_z}
use Rattle.std.proofs.lemmas.Bool.{cases_lt}
use Rattle.std.proofs.lemmas.Bool.Decides.{eqb_tells}
use Rattle.ff_whole.proofs.Signs.{linear, by_sign}
use Rattle.ff_whole.proofs.Directions.{rank-minus, turn-cross, turn-same, left_turn, no_left_turn, flat}
use Rattle.ff_whole.proofs.ClosedLists.{next-below, next-apart, next-alone, walk, walk-below, walk-full, walk-last, walk-back, walk-to}
use Rattle.ff_whole.proofs.Ranks.{rank-same}
use Rattle.ff_whole.proofs.Turning.{side, IsTurning, turning_left}
use Rattle.ff_whole.specs.declared.points.Pt.{Pt}
use Rattle.ff_whole.specs.Points.{minus, IsNear, turn, origin}
use Rattle.ff_whole.specs.Convex.{next, point_at, left_of, AreApart, IsConvex}
use Rattle.ff_whole.specs.Turning.{rank, AreCorners}

abbrev row : List Pt → ℕ → ℕ → Pt
row points s k = point_at points (walk (length points) s k)

module _ (points : List Pt) (near : All IsNear points) (apart : AreApart points) (s : ℕ) (lt : s < length points) where
  -- points of one rank have one place
  same_place : (i j : ℕ) → i < length points → j < length points → rank (point_at points i) ≡ rank (point_at points j) → i ≡ j
  same_place i j h k e = apart.differ i j h k (rank-same _ _ (near i origin h) (near j origin k) e)

  edge_apart : 2 ≤ length points → (i : ℕ) → i < length points → rank (minus (point_at points (next (length points) i)) (point_at points i)) ≢ pos 0
  edge_apart two i h e =
      let d = rank-minus (point_at points i) (point_at points (next (length points) i)) in
      next-apart (length points) i two h (same_place _ i (next-below (length points) i h) h (omega (arith, linear)))

  two_points : (i : ℕ) → i < length points → (p : Pt) → pos 0 <ℤ left_of points i p → 2 ≤ length points
  two_points i h p more = elim (cases_lt 1 (length points)) [
    | inl l ↦ l
    | inr l ↦
        let e = ap (λ k. turn (point_at points i) (point_at points k) p) (next-alone (length points) i l h) in
        let z = turn-same (point_at points i) p in
        absurd (omega (arith, linear))
  ]

  -- ---- a ring that passes is convex

  turning : 2 ≤ length points → AreCorners points s → IsTurning (row points s) (length points)
  turning two all = record {
    closed = ap (point_at points) (walk-full (length points) s lt);
    apart = λ k h. edge_apart two (walk (length points) s k) (walk-below (length points) s k lt);
    falls = λ k h f. by_sign (rank (side (row points s) (suc k)))
        (λ g. g)
        (λ z. absurd (edge_apart two (walk (length points) s (suc k)) (walk-below (length points) s (suc k) lt) z))
        (λ g.
        let a = rank-minus (row points s k) (row points s (suc k)) in
        let b = rank-minus (row points s (suc k)) (row points s (suc (suc k))) in
        let c = all.corner (walk (length points) s k) (walk-below (length points) s k lt) in
        let e = walk-back (length points) s (suc k) lt h (c.lone (omega (arith, linear)) (omega (arith, linear))) in
        absurd (omega arith));
    left = λ k h. subst (λ z. pos 0 ≤ℤ z) (turn-cross (row points s k) (row points s (suc k)) (row points s (suc (suc k)))) (all.corner (walk (length points) s k) (walk-below (length points) s k lt)).left;
  }

  passing_left : 2 ≤ length points → AreCorners points s → (i j : ℕ) → i < length points → j < length points → pos 0 ≤ℤ left_of points i (point_at points j)
  passing_left two all i j h k =
      let a = walk-to (length points) s i lt h in
      let b = walk-to (length points) s j lt k in
      let l = turning_left (row points s) (length points) (turning two all) a.0 b.0 a.1 b.1 in
      subst (λ z. pos 0 ≤ℤ left_of points i (point_at points z)) b.2 (subst (λ z. pos 0 ≤ℤ left_of points z (row points s b.0)) a.2 l)

  -- the three points at a left turn are not on one line
  passing_wide : (i : ℕ) → i < length points → pos 0 <ℤ left_of points i (point_at points (next (length points) (next (length points) i)))
      → ((i j : ℕ) → i < length points → j < length points → pos 0 ≤ℤ left_of points i (point_at points j)) → (e : ℕ) → e < length points → (j : ℕ) × (j < length points) × (pos 0 <ℤ left_of points e (point_at points j))
  passing_wide i h more left e g =
      let j = next (length points) i in
      let k = next (length points) j in
      let j-in = next-below (length points) i h in
      let k-in = next-below (length points) j j-in in
      by_lt_z (pos 0) (left_of points e (point_at points i)) (λ l. (i, h, l))
      (λ a. by_lt_z (pos 0) (left_of points e (point_at points j)) (λ l. (j, j-in, l))
      (λ b. by_lt_z (pos 0) (left_of points e (point_at points k)) (λ l. (k, k-in, l))
      (λ c.
      let a' = left e i g h in
      let b' = left e j g j-in in
      let c' = left e k g k-in in
      let z = flat (point_at points e) (point_at points (next (length points) e)) (point_at points i) (point_at points j) (point_at points k) (edge_apart (two_points i h _ more) e g) (omega (arith, linear)) (omega (arith, linear)) (omega (arith, linear)) in
      absurd (omega (arith, linear)))))

  pub convex_from_corners : AreCorners points s → IsConvex points
  convex_from_corners all =
      let i = walk (length points) s (length points - 1) in
      let h = walk-below (length points) s (length points - 1) lt in
      let more = (all.corner i h).sharp (walk-last (length points) s lt) in
      let left = passing_left (two_points i h _ more) all in
      record { some = omega (arith, lt); left = left; wide = passing_wide i h more left }

  -- ---- a convex ring passes, from its least point on

  pub corners_from_convex : ((k : ℕ) → k < length points → rank (point_at points s) ≤ℤ rank (point_at points k)) → IsConvex points → AreCorners points s
  corners_from_convex least v = record {
    corner = λ i h.
        let n = length points in
        let j = next n i in
        let k = next n j in
        let j-in = next-below n i h in
        let k-in = next-below n j j-in in
        let w = v.wide j j-in in
        let two = two_points j j-in _ w.2 in
        let straight = v.left i k h k-in in
        let turns = λ (f : rank (point_at points j) <ℤ rank (point_at points i)) (r : rank (point_at points j) <ℤ rank (point_at points k)).
        left_turn (point_at points i) (point_at points j) (point_at points k) (point_at points w.0) f r straight (v.left i w.0 h w.1) w.2 in record {
          left = straight;
          sharp = λ e. turns
              (subst (λ m. rank (point_at points m) <ℤ rank (point_at points i)) (sym e) (more i h (λ x. next-apart n i two h (e ∙ sym x))))
              (subst (λ m. rank (point_at points m) <ℤ rank (point_at points k)) (sym e) (more k k-in (λ x. next-apart n j two j-in (x ∙ sym e))));
          lone = λ f r. elim (eqb_tells j s) [
            | inl e ↦ e.1
            | inr e ↦
                let a = turns f r in
                let b = no_left_turn (point_at points i) (point_at points j) (point_at points k) (point_at points s) f r (more j j-in e.1) (v.left i s h lt) (v.left j s j-in lt) in
                absurd (omega (arith, linear))
          ];
        };
  }
    where
      more : (k : ℕ) → k < length points → k ≢ s → rank (point_at points s) <ℤ rank (point_at points k)
      more k h n = by_lt_z (rank (point_at points s)) (rank (point_at points k)) (λ l. l) (λ l. let m = least k h in absurd (n (same_place k s h lt (omega (arith, linear)))))

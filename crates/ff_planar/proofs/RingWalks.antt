-- A face's ring goes on at each corner as walks do: an edge between its two edges there would have points inside it.
use Rattle.std.proofs.Common.{◌≡◌, ◌≢◌, ◌⊎◌, inl, inr, ℕ, zero, suc, ◌+◌, ◌<◌, IsTrue, List, length, arith, sym, ap, ◌∙◌, subst, ℤ, pos, negsuc, ◌+ℤ◌, ◌*ℤ◌, ◌<ℤ◌, ◌≤ℤ◌}
use lib.IntN.{neg_ℤ, *ℤ-zero}
use Rattle.std.proofs.lemmas.Int.{ints}
use Rattle.ff_whole.proofs.Laws.{one-*ℤ}
use Rattle.ff_whole.proofs.Signs.{linear, by_sign, le-mul_left}
use Rattle.ff_whole.proofs.Turns.{turn-rotate}
use Rattle.ff_whole.proofs.ThreeTerms.{cross-flip, cross-step}
use Rattle.ff_whole.proofs.Corners.{left_in_corner, left_at_straight}
use Rattle.ff_whole.proofs.OnEdges.{long_from_left}
use Rattle.ff_whole.proofs.CyclicOrder.{IsTurned, either_way}
use Rattle.ff_whole.proofs.ClosedLists.{next-below}
use Rattle.ff_whole.specs.declared.points.Pt.{Pt}
use Rattle.ff_whole.specs.Points.{minus, cross, turn}
use Rattle.ff_whole.specs.Convex.{next, point_at, left_of}
use Rattle.ff_types.proofs.PlainSheets.{next_back, some_joins}
use Rattle.ff_types.proofs.ComputedFaces.{joins_is}
use Rattle.ff_types.proofs.SubRings.{corner_point}
use Rattle.ff_types.specs.declared.patterns.EdgeEnds.{EdgeEnds}
use Rattle.ff_types.specs.Patterns.{edge_at}
use Rattle.ff_types.specs.Drawings.{IsDrawing, joined, first_point, last_point}
use Rattle.ff_types.specs.Rings.{corner, after, corners, IsRing}
use Rattle.ff_types.specs.Walks.{direction, GoesOn, IsWalk}
use Rattle.ff_planar.proofs.SameWalks.{beyond}
use Rattle.ff_planar.proofs.RingTests.{corners_length, left_is}
use Rattle.ff_planar.proofs.Neighbours.{joined_back, direction_long, directions_differ, from_turned}

-- a number that is at least the size of each of the first n
bound : (f : ℕ → ℤ) (n : ℕ) → (m : ℕ) × ((i : ℕ) → i < n → neg_ℤ (pos m) ≤ℤ f i)
bound f zero = (0, λ i l. absurd (omega (arith, l)))
bound f (suc n) = let r = bound f n in let s = below (f n) in (
  r.0 + s.0,
  λ i l. elim (below_or_last n i l) [
    | inl k ↦ let h = r.1 i k in omega (arith, ints)
    | inr e ↦ subst (λ j. neg_ℤ (pos (r.0 + s.0)) ≤ℤ f j) (sym e) (let h = s.1 in omega (arith, ints))
  ],
)
  where
    below_or_last : (n i : ℕ) → i < suc n → (i < n) ⊎ (i ≡ n)
    below_or_last n i l = grind arith

    below : (z : ℤ) → (m : ℕ) × (neg_ℤ (pos m) ≤ℤ z)
    below (pos k) = (0, omega (arith, ints))
    below (negsuc k) = (suc k, omega (arith, ints))

module _ (points : List Pt) (edges : List EdgeEnds) (d : IsDrawing points edges) (ring : List ℕ) (r : IsRing points edges ring) where
  abbrev n : ℕ
  n = length ring

  abbrev at : ℕ → Pt
  at i = point_at points (corner ring i)

  abbrev left : ℕ → Pt → ℤ
  left i p = turn (at i) (at (next n i)) p

  in_points : (i : ℕ) → i < n → i < length (corners points ring)
  in_points i l = let e = corners_length points ring in omega (arith, l, e)

  from_points : (i : ℕ) → i < length (corners points ring) → i < n
  from_points i l = let e = corners_length points ring in omega (arith, l, e)

  pub not_right : (i j : ℕ) → i < n → j < n → pos 0 ≤ℤ left i (at j)
  not_right i j l m = subst (λ z. pos 0 ≤ℤ z) (left_is points ring i (corner ring j) l) (subst (λ p. pos 0 ≤ℤ left_of (corners points ring) i p) (corner_point points ring j m) (r.convex.left i j (in_points i l) (in_points j m)))

  pub is_wide : (i : ℕ) → i < n → (j : ℕ) × (j < n) × (pos 0 <ℤ left i (at j))
  is_wide i l = let w = r.convex.wide i (in_points i l) in let m = from_points w.0 w.1 in
      (w.0, m, subst (λ z. pos 0 <ℤ z) (left_is points ring i (corner ring w.0) l) (subst (λ p. pos 0 <ℤ left_of (corners points ring) i p) (corner_point points ring w.0 m) w.2))

  module _ (i : ℕ) (l : i < n) (z : ℕ) (to_z : IsTrue (joined edges (after ring i) z)) (not_a : z ≢ corner ring i) (not_c : z ≢ beyond ring i) where
    abbrev j : ℕ
    j = next n i

    lj : j < n
    lj = next-below n i l

    abbrev b : Pt
    b = at j

    abbrev wa : Pt
    wa = direction points (after ring i) (corner ring i)

    abbrev wc : Pt
    wc = direction points (after ring i) (beyond ring i)

    abbrev wz : Pt
    wz = direction points (after ring i) z

    -- an edge on whose line the corner is has z on its left
    left_there : pos 0 <ℤ cross wc wz → pos 0 <ℤ cross wz wa → (k : ℕ) → k < n → left k b ≡ pos 0 → pos 0 <ℤ left k (point_at points z)
    left_there cz za k m on =
        let u = minus (at (next n k)) (at k) in
        let c = next n j in
        let lc = next-below n j lj in
        let w = is_wide k m in
        let long = long_from_left u (minus (at w.0) (at k)) w.2 in
        let sa = cross-step u b (at i) (at k) in
        let sc = cross-step u b (at c) (at k) in
        let sz = cross-step u b (point_at points z) (at k) in
        let ha = not_right k i m l in
        let hc = not_right k c m lc in
        let ua : pos 0 ≤ℤ cross u wa = omega (arith, linear) in
        let uc : pos 0 ≤ℤ cross u wc = omega (arith, linear) in
        let rot = turn-rotate (at i) b (at c) in
        let corner_left = not_right i c l lc in
        let y = is_wide j lj in
        let sy = cross-step u b (at y.0) (at k) in
        let hy = not_right k y.0 m y.1 in
        let uy : pos 0 ≤ℤ cross u (minus (at y.0) b) = omega (arith, linear) in
        let got : pos 0 <ℤ cross u wz = by_sign (cross wc wa)
        (λ h. absurd (omega (arith, linear)))
        (λ h. left_at_straight u wa wc wz (minus (at y.0) b) long ua uc uy cz za h y.2)
        (λ h. left_in_corner u wa wc wz long ua uc cz za h) in
        omega (arith, linear)

    -- so some point of the edge to z is inside
    inside : pos 0 <ℤ cross wc wz → pos 0 <ℤ cross wz wa → (s : ℕ) × (0 < s) × ((k : ℕ) → k < n → pos 0 <ℤ (pos s *ℤ left k b +ℤ left k (point_at points z)))
    inside cz za = let m = bound (λ k. left k (point_at points z)) n in (
      m.0 + 1,
      omega arith,
      λ k h.
          let low = m.1 k h in
          let nb = not_right k j h lj in
          by_sign (left k b)
          (λ x. absurd (omega (arith, linear)))
          (λ x. let p = left_there cz za k h x in let e : pos (m.0 + 1) *ℤ left k b ≡ pos 0 = ap (λ v. pos (m.0 + 1) *ℤ v) x ∙ *ℤ-zero (pos (m.0 + 1)) in omega (arith, linear))
          (λ x. let g = le-mul_left (pos (m.0 + 1)) (pos 1) (left k b) (omega (arith, ints)) (omega (arith, ints)) in let e : pos (m.0 + 1) *ℤ pos 1 ≡ pos (m.0 + 1) = omega (arith, ints) in over (m.0) (pos (m.0 + 1) *ℤ left k b) (left k (point_at points z)) (omega (arith, linear)) low),
    )
      where
        over : (m : ℕ) (x y : ℤ) → pos (m + 1) ≤ℤ x → neg_ℤ (pos m) ≤ℤ y → pos 0 <ℤ (x +ℤ y)
        over m x y h k = omega (arith, ints)

    not_between : pos 0 <ℤ cross wc wz → pos 0 <ℤ cross wz wa → ⊥
    not_between cz za = let o = inside cz za in let e = some_joins edges (after ring i) z to_z in point e.0 e.1 (joins_is (edge_at edges e.0) (after ring i) z e.2) o.0 o.1 o.2
      where
        one : (x : ℤ) → pos 1 *ℤ x ≡ x
        one x = one-*ℤ x

        point : (e : ℕ) → e < length edges → (((edge_at edges e).a ≡ after ring i) × ((edge_at edges e).b ≡ z)) ⊎ (((edge_at edges e).a ≡ z) × ((edge_at edges e).b ≡ after ring i))
            → (s : ℕ) → 0 < s → ((k : ℕ) → k < n → pos 0 <ℤ (pos s *ℤ left k b +ℤ left k (point_at points z))) → ⊥
        point e h (inl x) s some f = r.no_point e s 1 h (omega arith) (λ k m.
            let p = left_is points ring k (edge_at edges e).a (from_points k m) in
            let q = left_is points ring k (edge_at edges e).b (from_points k m) in
            let pa = ap (λ v. left k (point_at points v)) x.0 in
            let qa = ap (λ v. left k (point_at points v)) x.1 in
            let g = f k (from_points k m) in
            let t = one (left_of (corners points ring) k (last_point points (edge_at edges e))) in
            let c : pos s *ℤ left_of (corners points ring) k (first_point points (edge_at edges e)) ≡ pos s *ℤ left k b = ap (λ v. pos s *ℤ v) (p ∙ pa) in
            omega (arith, linear))
        point e h (inr x) s some f = r.no_point e 1 s h (omega arith) (λ k m.
            let p = left_is points ring k (edge_at edges e).a (from_points k m) in
            let q = left_is points ring k (edge_at edges e).b (from_points k m) in
            let pa = ap (λ v. left k (point_at points v)) x.0 in
            let qa = ap (λ v. left k (point_at points v)) x.1 in
            let g = f k (from_points k m) in
            let t = one (left_of (corners points ring) k (first_point points (edge_at edges e))) in
            let c : pos s *ℤ left_of (corners points ring) k (last_point points (edge_at edges e)) ≡ pos s *ℤ left k b = ap (λ v. pos s *ℤ v) (q ∙ qa) in
            omega (arith, linear))

    to_a : IsTrue (joined edges (after ring i) (corner ring i))
    to_a = joined_back edges (corner ring i) (after ring i) (r.joins i l)

    to_c : IsTrue (joined edges (after ring i) (beyond ring i))
    to_c = r.joins j lj

    in_turn_there : IsTurned wa wz wc
    in_turn_there = elim (either_way wa wz wc (direction_long points edges d (after ring i) (corner ring i) to_a) (direction_long points edges d (after ring i) z to_z) (direction_long points edges d (after ring i) (beyond ring i) to_c)
        (directions_differ points edges d (after ring i) (corner ring i) z to_a to_z (λ e. not_a (sym e))) (directions_differ points edges d (after ring i) z (beyond ring i) to_z to_c not_c)
        (directions_differ points edges d (after ring i) (corner ring i) (beyond ring i) to_a to_c (λ e. next_back n i r.three l (sym (r.differ i (next n j) l (next-below n j lj) e))))) [
          | inl h ↦ h
          | inr h ↦ absurd (other h)
        ]
      where
        other : IsTurned wa wc wz → ⊥
        other h =
            let rot = turn-rotate (at i) b (at (next n j)) in
            let corner_left = not_right i (next n j) l (next-below n j lj) in
            let f = cross-flip wc wa in
            by h (omega (arith, linear))
          where
            by : IsTurned wa wc wz → cross wa wc ≤ℤ pos 0 → ⊥
            by (inl x) m = let y = x.0 in omega (arith, linear)
            by (inr (inl x)) m = not_between x.0 x.1
            by (inr (inr x)) m = let y = x.1 in omega (arith, linear)

  pub ring_goes : (i : ℕ) → i < n → GoesOn points edges (corner ring i) (after ring i) (beyond ring i)
  ring_goes i l = record {
    along = r.joins i l;
    on = r.joins (next n i) (next-below n i l);
    not_back = λ e. next_back n i r.three l (r.differ (next n (next n i)) i (next-below n (next n i) (next-below n i l)) l e);
    next = λ z j m o. from_turned (direction points (after ring i) (corner ring i)) (direction points (after ring i) z) (direction points (after ring i) (beyond ring i)) (in_turn_there i l z j m o);
  }

  -- so it is a walk
  pub ring_walk : IsWalk points edges ring
  ring_walk = record {
    some = (let t = r.three in omega arith);
    goes = ring_goes;
    once = λ i j l m e f. r.differ i j l m e;
  }

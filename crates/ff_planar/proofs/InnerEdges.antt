-- A walk whose vertices are a convex ring with no vertex inside has no point of an edge inside.
use Rattle.std.proofs.Common.{◌≡◌, ◌≢◌, ◌⊎◌, inl, inr, ℕ, zero, suc, ◌<◌, IsTrue, List, length, arith, refl, sym, ap, ◌∙◌, subst, ℤ, pos, negsuc, ◌+ℤ◌, ◌*ℤ◌, ◌<ℤ◌, ◌≤ℤ◌}
use lib.IntN.{*ℤ-zero}
use Rattle.std.proofs.lemmas.Int.{ints, by_lt_z}
use Rattle.ff_whole.proofs.Signs.{linear, pos_from_mul, zero-mul, cancel_left}
use Rattle.ff_whole.proofs.Searches.{search}
use Rattle.ff_whole.proofs.Turns.{turn-rotate}
use Rattle.ff_whole.proofs.ThreeTerms.{cross-flip, cross-none}
use Rattle.ff_whole.proofs.SharedPoints.{IsMixed}
use Rattle.ff_whole.proofs.ConvexBorders.{IsConvexRing}
use Rattle.ff_whole.proofs.ClosedLists.{next-below, prev, prev-below, next-prev}
use Rattle.ff_whole.proofs.CyclicOrder.{IsTurned}
use Rattle.ff_whole.specs.declared.points.Pt.{Pt}
use Rattle.ff_whole.specs.Points.{minus, cross, turn}
use Rattle.ff_whole.specs.Convex.{next, point_at}
use Rattle.ff_types.proofs.ConvexEdges.{turn-last}
use Rattle.ff_types.specs.declared.patterns.EdgeEnds.{EdgeEnds}
use Rattle.ff_types.specs.Drawings.{IsDrawing, joined}
use Rattle.ff_types.specs.Rings.{corner, after}
use Rattle.ff_types.specs.Walks.{direction, GoesOn, IsWalk}
use Rattle.ff_planar.proofs.Neighbours.{meet_joined, there, turned_from}
use Rattle.ff_planar.proofs.EdgePoints.{leaves}

turn-first : (p q : Pt) → turn p q p ≡ pos 0
turn-first p q = cross-none (minus q p) p

same_point : (p q : Pt) → p.x ≡ q.x → p.y ≡ q.y → p ≡ q
same_point p q e f = λ i. record { x = e i; y = f i }

-- points with one weight and nothing beside them are one
by_weights : (i n j m : ℕ) (p q r o : Pt) → 0 < i → j ≡ 0 → m ≡ 0 → i ≡ n
    → pos i *ℤ p.x +ℤ pos j *ℤ r.x ≡ pos n *ℤ q.x +ℤ pos m *ℤ o.x → pos i *ℤ p.y +ℤ pos j *ℤ r.y ≡ pos n *ℤ q.y +ℤ pos m *ℤ o.y → p ≡ q
by_weights i n j m p q r o h ej em e sx sy = same_point p q (one p.x q.x r.x o.x sx) (one p.y q.y r.y o.y sy) where
  one : (a b c f : ℤ) → pos i *ℤ a +ℤ pos j *ℤ c ≡ pos n *ℤ b +ℤ pos m *ℤ f → a ≡ b
  one a b c f g =
      let z : pos j *ℤ c ≡ pos 0 = zero-mul (pos j) c (ap pos ej) in
      let y : pos m *ℤ f ≡ pos 0 = zero-mul (pos m) f (ap pos em) in
      let x : pos n *ℤ b ≡ pos i *ℤ b = ap (λ k. pos k *ℤ b) (sym e) in
      cancel_left (pos i) a b (omega (arith, ints, h)) (omega (arith, linear))

module _ (points : List Pt) (edges : List EdgeEnds) (d : IsDrawing points edges) (ring : List ℕ) (w : IsWalk points edges ring) where
  abbrev at : ℕ → Pt
  at i = point_at points (corner ring i)

  abbrev sides : ℕ → Pt → ℤ
  sides i p = turn (at i) (at (next (length ring) i)) p

  module _ (convex : IsConvexRing (length ring) at) (no_vertex : (u : ℕ) → u < length points → ((i : ℕ) → i < length ring → pos 0 <ℤ sides i (point_at points u)) → ⊥)
      (a b : ℕ) (joins : IsTrue (joined edges a b)) (s t : ℕ)
      (inside : (i : ℕ) → i < length ring → pos 0 <ℤ (pos s *ℤ sides i (point_at points a) +ℤ pos t *ℤ sides i (point_at points b))) where
    not_both : (x y : ℤ) → x ≡ pos 0 → y ≡ pos 0 → pos 0 <ℤ (pos s *ℤ x +ℤ pos t *ℤ y) → ⊥
    not_both x y e f h = let a = ap (λ z. pos s *ℤ z) e ∙ *ℤ-zero (pos s) in let b = ap (λ z. pos t *ℤ z) f ∙ *ℤ-zero (pos t) in omega (arith, linear)

    -- where a is on the line of an edge, b is left of it
    ahead : (i : ℕ) → i < length ring → sides i (point_at points a) ≡ pos 0 → pos 0 <ℤ sides i (point_at points b)
    ahead i l z = let h = inside i l in let e = ap (λ x. pos s *ℤ x) z ∙ *ℤ-zero (pos s) in by t refl (omega (arith, linear)) where
      by : (k : ℕ) → t ≡ k → pos 0 <ℤ (pos t *ℤ sides i (point_at points b)) → pos 0 <ℤ sides i (point_at points b)
      by zero e h = let f = ap (λ k. pos k *ℤ sides i (point_at points b)) e in let g = zero-mul (pos 0) (sides i (point_at points b)) refl in absurd (omega (arith, linear))
      by (suc k) e h = pos_from_mul (pos t) (sides i (point_at points b)) (omega (arith, ints, e)) h

    -- a isn't a corner
    no_corner : (c : ℕ) → c < length ring → a ≡ corner ring c → ⊥
    no_corner c l e =
        let n = length ring in
        let p = prev n c in
        let lp = prev-below n c l in
        let np = next-prev n c l in
        let here : point_at points a ≡ at c = ap (point_at points) e in
        let za : sides p (point_at points a) ≡ pos 0 = ap (λ x. turn (at p) (at x) (point_at points a)) np ∙ ap (λ x. turn (at p) (at c) x) here ∙ turn-last (at p) (at c) in
        let zc : sides c (point_at points a) ≡ pos 0 = ap (λ x. turn (at c) (at (next n c)) x) here ∙ turn-first (at c) (at (next n c)) in
        let bp0 = ahead p lp za in
        let bp : pos 0 <ℤ turn (at p) (at c) (point_at points b) = subst (λ x. pos 0 <ℤ turn (at p) (at x) (point_at points b)) np bp0 in
        let bc : pos 0 <ℤ turn (at c) (at (next n c)) (point_at points b) = ahead c l zc in
        let go0 = w.goes p lp in
        let go : GoesOn points edges (corner ring p) (corner ring c) (after ring c) = subst (λ x. GoesOn points edges (corner ring p) (corner ring x) (corner ring (next n x))) np go0 in
        let to_b : IsTrue (joined edges (corner ring c) b) = subst (λ x. IsTrue (joined edges x b)) e joins in
        let not_p : b ≢ corner ring p = λ f. let z = ap (λ x. turn (at p) (at c) (point_at points x)) f ∙ turn-first (at p) (at c) in omega (arith, linear) in
        let not_n : b ≢ after ring c = λ f. let z = ap (λ x. turn (at c) (at (next n c)) (point_at points x)) f ∙ turn-last (at c) (at (next n c)) in omega (arith, linear) in
        let turned : IsTurned (direction points (corner ring c) (corner ring p)) (direction points (corner ring c) b) (direction points (corner ring c) (after ring c)) =
        turned_from (direction points (corner ring c) (corner ring p)) (direction points (corner ring c) b) (direction points (corner ring c) (after ring c)) (go.next b to_b not_p not_n) in
        let r = turn-rotate (at p) (at c) (point_at points b) in
        clash (direction points (corner ring c) (corner ring p)) (direction points (corner ring c) b) (direction points (corner ring c) (after ring c)) (omega (arith, linear)) bc turned
      where
        clash : (u z x : Pt) → pos 0 <ℤ cross z u → pos 0 <ℤ cross x z → IsTurned u z x → ⊥
        clash u z x f g (inl h) = let k = cross-flip u z in let i = h.0 in omega (arith, linear)
        clash u z x f g (inr (inl h)) = let k = cross-flip x z in let i = h.0 in omega (arith, linear)
        clash u z x f g (inr (inr h)) = let k = cross-flip u z in let i = h.1 in omega (arith, linear)

    -- the edge isn't one of the ring's
    not_side : (k : ℕ) → k < length ring → ((corner ring k ≡ a) × (after ring k ≡ b)) ⊎ ((corner ring k ≡ b) × (after ring k ≡ a)) → ⊥
    not_side k l (inl h) =
        let x = ap (λ u. turn (at k) (at (next (length ring) k)) (point_at points u)) (sym h.0) ∙ turn-first (at k) (at (next (length ring) k)) in
        let y = ap (λ u. turn (at k) (at (next (length ring) k)) (point_at points u)) (sym h.1) ∙ turn-last (at k) (at (next (length ring) k)) in
        not_both (sides k (point_at points a)) (sides k (point_at points b)) x y (inside k l)
    not_side k l (inr h) =
        let x = ap (λ u. turn (at k) (at (next (length ring) k)) (point_at points u)) (sym h.1) ∙ turn-last (at k) (at (next (length ring) k)) in
        let y = ap (λ u. turn (at k) (at (next (length ring) k)) (point_at points u)) (sym h.0) ∙ turn-first (at k) (at (next (length ring) k)) in
        not_both (sides k (point_at points a)) (sides k (point_at points b)) x y (inside k l)

    -- where the way leaves the ring, it is at a
    leaves_at : (k : ℕ) → k < length ring → (sigma tau x y : ℤ) → pos 0 <ℤ sigma → pos 0 ≤ℤ tau → pos 0 ≤ℤ x → pos 0 ≤ℤ y → sigma +ℤ tau ≡ x +ℤ y
        → sigma *ℤ (point_at points a).x +ℤ tau *ℤ (point_at points b).x ≡ x *ℤ (at k).x +ℤ y *ℤ (at (next (length ring) k)).x
        → sigma *ℤ (point_at points a).y +ℤ tau *ℤ (point_at points b).y ≡ x *ℤ (at k).y +ℤ y *ℤ (at (next (length ring) k)).y → ⊥
    leaves_at k l (pos i) (pos j) (pos m) (pos n) hi hj hm hn sums sx sy =
        let mixed : IsMixed (point_at points a) (point_at points b) (at k) (at (next (length ring) k)) i j m n = record { some = omega (arith, ints); sums = omega (arith, ints); same = λ o. record { x = sx o; y = sy o } } in
        let r = meet_joined points edges d a b (corner ring k) (after ring k) i j m n joins (w.goes k l).along (not_side k l) mixed in
        elim r.0 [
          | inl z ↦ omega (arith, ints, z)
          | inr z ↦ elim r.1 [
            | inl y ↦ no_corner (next (length ring) k) (next-below (length ring) k l) (same_vertex (after ring k) (there points edges d (corner ring k) (after ring k) (w.goes k l).along).1
                (by_weights i n j m (point_at points a) (at (next (length ring) k)) (point_at points b) (at k) (omega (arith, ints)) z y (omega (arith, ints, z, y)) (sx ∙ omega (arith, linear)) (sy ∙ omega (arith, linear))))
            | inr y ↦ no_corner k l (same_vertex (corner ring k) (there points edges d (corner ring k) (after ring k) (w.goes k l).along).0
                (by_weights i m j n (point_at points a) (at k) (point_at points b) (at (next (length ring) k)) (omega (arith, ints)) z y (omega (arith, ints, z, y)) sx sy))
          ]
        ]
      where
        same_vertex : (u : ℕ) → u < length points → point_at points a ≡ point_at points u → a ≡ u
        same_vertex u l e = d.apart.differ a u (there points edges d a b joins).0 l e
    leaves_at k l (negsuc i) tau x y hi hj hm hn sums sx sy = absurd (omega (arith, ints))
    leaves_at k l (pos i) (negsuc j) x y hi hj hm hn sums sx sy = absurd (omega (arith, ints))
    leaves_at k l (pos i) (pos j) (negsuc m) y hi hj hm hn sums sx sy = absurd (omega (arith, ints))
    leaves_at k l (pos i) (pos j) (pos m) (negsuc n) hi hj hm hn sums sx sy = absurd (omega (arith, ints))

    -- there is no such point
    pub none_inside : ⊥
    none_inside = elim (search (length ring) (λ i. sides i (point_at points a) ≤ℤ pos 0) (λ i. pos 0 <ℤ sides i (point_at points a)) (λ i l. by_lt_z (pos 0) (sides i (point_at points a)) (λ h. inr h) (λ h. inl h))) [
      | inr all ↦ no_vertex a (there points edges d a b joins).0 all
      | inl r ↦ let o = leaves (length ring) at w.some convex (point_at points a) (point_at points b) s t inside r.0 r.1 r.2 in
          leaves_at o.edge o.within o.sigma o.tau o.x o.y o.sigma_pos o.tau_nonneg o.x_nonneg o.y_nonneg o.sums o.same_x o.same_y
    ]

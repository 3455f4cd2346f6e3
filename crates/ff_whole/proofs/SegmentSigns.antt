-- The other way: from a point that two segments share, and that isn't an end of both, to the signs.
use Rattle.std.proofs.Common.{◌≡◌, ◌⊎◌, inl, inr, refl, arith, ap, ◌∙◌, ℤ, pos, ◌+ℤ◌, ◌-ℤ◌, ◌*ℤ◌, ◌<ℤ◌, ◌≤ℤ◌, [], ◌∷◌}
use lib.IntN.{neg_ℤ, *ℤ_comm}
use Rattle.std.proofs.lemmas.Int.{by_lt_z}
use Rattle.ff_whole.proofs.Formulas.{point_e, point_env, minus_e, dot_e, cross_e, turn_e}
use Rattle.ff_whole.proofs.Ring.{var, num, ◌⊕◌, ◌⊖◌, ◌⊗◌, opp, solve, solve_from}
use Rattle.ff_whole.proofs.Signs.{linear, by_sign, pos-mul, neg-mul_pos, nonneg-mul, nonneg-mul_nonpos, zero-mul, pos_from_mul, neg_from_mul, zero_from_mul}
use Rattle.ff_whole.proofs.Turns.{turn-swap}
use Rattle.ff_whole.proofs.ThreeTerms.{cross-none, cross-own, cross-step, dot-flip, dot-step, parallel-both, parallel-dot, nothing}
use Rattle.ff_whole.proofs.SegmentPoints.{IsWithin, AreCrossing, IsShared, swap_ends, swap_segments, turn-sums, turn-from}
use Rattle.ff_whole.specs.Points.{minus, dot, cross, turn}
use Rattle.ff_whole.specs.declared.points.Pt.{Pt}

-- ---- a point with both weights positive is strictly within its segment

-- s a + t b = 0, for directions a and b: they are parallel and opposite
opposed-cross : (s t : ℤ) (a b : Pt) → s *ℤ a.x +ℤ t *ℤ b.x ≡ pos 0 → s *ℤ a.y +ℤ t *ℤ b.y ≡ pos 0
    → s *ℤ cross a b ≡ pos 0
opposed-cross s t a b hx hy =
    let a' = point_e 2 in let b' = point_e 4 in
    solve_from (s ∷ t ∷ point_env a (point_env b [])) (record { by = b'.y; zero = var 0 ⊗ a'.x ⊕ var 1 ⊗ b'.x }
    ∷ record { by = opp b'.x; zero = var 0 ⊗ a'.y ⊕ var 1 ⊗ b'.y } ∷ [])
    (var 0 ⊗ cross_e a' b') (num (pos 0)) refl (hx, (hy, tt))

opposed-dot : (s t : ℤ) (a b : Pt) → s *ℤ a.x +ℤ t *ℤ b.x ≡ pos 0 → s *ℤ a.y +ℤ t *ℤ b.y ≡ pos 0
    → s *ℤ dot a b ≡ neg_ℤ (t *ℤ dot b b)
opposed-dot s t a b hx hy =
    let a' = point_e 2 in let b' = point_e 4 in
    solve_from (s ∷ t ∷ point_env a (point_env b [])) (record { by = b'.x; zero = var 0 ⊗ a'.x ⊕ var 1 ⊗ b'.x }
    ∷ record { by = b'.y; zero = var 0 ⊗ a'.y ⊕ var 1 ⊗ b'.y } ∷ [])
    (var 0 ⊗ dot_e a' b') (opp (var 1 ⊗ dot_e b' b')) refl (hx, (hy, tt))

-- and b isn't 0 where a and b differ
opposed-long : (s t : ℤ) (a b : Pt) → s *ℤ a.x +ℤ t *ℤ b.x ≡ pos 0 → s *ℤ a.y +ℤ t *ℤ b.y ≡ pos 0
    → (s *ℤ s) *ℤ dot (minus b a) (minus b a) ≡ ((s +ℤ t) *ℤ (s +ℤ t)) *ℤ dot b b
opposed-long s t a b hx hy =
    let a' = point_e 2 in let b' = point_e 4 in
    let ex = var 0 ⊗ a'.x ⊕ var 1 ⊗ b'.x in
    let ey = var 0 ⊗ a'.y ⊕ var 1 ⊗ b'.y in
    let more = num (pos 2) ⊗ (var 0 ⊕ var 1) in
    solve_from (s ∷ t ∷ point_env a (point_env b []))
    (record { by = ex ⊖ more ⊗ b'.x; zero = ex } ∷ record { by = ey ⊖ more ⊗ b'.y; zero = ey } ∷ [])
    ((var 0 ⊗ var 0) ⊗ dot_e (minus_e b' a') (minus_e b' a')) (((var 0 ⊕ var 1) ⊗ (var 0 ⊕ var 1)) ⊗ dot_e b' b') refl (hx, (hy, tt))

-- from p, s (a - p) + t (b - p) is 0
around : (s t a b p : ℤ) → s *ℤ a +ℤ t *ℤ b ≡ (s +ℤ t) *ℤ p → s *ℤ (a -ℤ p) +ℤ t *ℤ (b -ℤ p) ≡ pos 0
around s t a b p h =
    let z : s *ℤ a +ℤ t *ℤ b -ℤ (s +ℤ t) *ℤ p ≡ pos 0 = omega (arith, linear) in
    solve_from (s ∷ t ∷ a ∷ b ∷ p ∷ []) (record { by = num (pos 1); zero = var 0 ⊗ var 2 ⊕ var 1 ⊗ var 3 ⊖ (var 0 ⊕ var 1) ⊗ var 4 } ∷ [])
    (var 0 ⊗ (var 2 ⊖ var 4) ⊕ var 1 ⊗ (var 3 ⊖ var 4)) (num (pos 0)) refl (z, tt)

same-way : (a b p : Pt)
    → dot (minus (minus b p) (minus a p)) (minus (minus b p) (minus a p)) ≡ dot (minus b a) (minus b a)
same-way a b p =
    let a' = point_e 0 in let b' = point_e 2 in let p' = point_e 4 in
    let d' = minus_e (minus_e b' p') (minus_e a' p') in
    solve (point_env a (point_env b (point_env p []))) (dot_e d' d') (dot_e (minus_e b' a') (minus_e b' a')) refl

-- a point with positive weights of different ends is strictly within
pub within_from_weights : (a b p : Pt) (s t : ℤ) → pos 0 <ℤ s → pos 0 <ℤ t → s *ℤ a.x +ℤ t *ℤ b.x ≡ (s +ℤ t) *ℤ p.x
    → s *ℤ a.y +ℤ t *ℤ b.y ≡ (s +ℤ t) *ℤ p.y
    → pos 0 <ℤ dot (minus b a) (minus b a) → IsWithin a b p
within_from_weights a b p s t ps pt hx hy long =
    let u = minus a p in
    let v = minus b p in
    let ex = around s t a.x b.x p.x hx in
    let ey = around s t a.y b.y p.y hy in
    let e = opposed-long s t u v ex ey in
    let f = same-way a b p in
    let ss = pos-mul s s ps ps in
    let n = pos-mul (s *ℤ s) (dot (minus v u) (minus v u)) ss (omega (arith, linear)) in
    let ww = pos-mul (s +ℤ t) (s +ℤ t) (omega (arith, linear)) (omega (arith, linear)) in
    let vv = pos_from_mul ((s +ℤ t) *ℤ (s +ℤ t)) (dot v v) ww (omega (arith, linear)) in
    let tv = pos-mul t (dot v v) pt vv in
    let d = opposed-dot s t u v ex ey in
    record { on = turn-from a b p ∙ zero_from_mul s (cross u v) ps (opposed-cross s t u v ex ey); apart = neg_from_mul s (dot u v) ps (omega (arith, linear)) }

-- a weight of 0: the point is an end of its segment, and within the other
end_within : (a b c d : Pt) (m : IsShared a b c d) → pos 0 <ℤ dot (minus b a) (minus b a) → m.v ≡ pos 0
    → IsWithin a b c
end_within a b c d m long z = elim m.within [
  | inl y ↦ within_from_weights a b c m.s m.t y.0 y.1 (at m.s m.t m.u m.v _ c.x d.x m.sums z m.same_x) (at m.s m.t m.u m.v _ c.y d.y m.sums z m.same_y) long
  | inr y ↦ let v = y.1 in absurd (omega (arith, linear))
]
  where
    at : (s t u v e c d : ℤ) → s +ℤ t ≡ u +ℤ v → v ≡ pos 0 → e ≡ u *ℤ c +ℤ v *ℤ d → e ≡ (s +ℤ t) *ℤ c
    at s t u v e c d h z k =
        let w : u ≡ s +ℤ t = omega (arith, linear) in
        let f = ap (λ q. q *ℤ c) w in
        let g = zero-mul v d z in
        omega (arith, linear)

-- ---- all four weights positive

-- the turns of c and d over a b, weighed, are 0
turns-weighed : (a b c d : Pt) (m : IsShared a b c d) → turn a b c *ℤ m.u +ℤ turn a b d *ℤ m.v ≡ pos 0
turns-weighed a b c d m =
    let a' = point_e 0 in let b' = point_e 2 in let c' = point_e 4 in let d' = point_e 6 in
    let s' = var 8 in let t' = var 9 in let u' = var 10 in let v' = var 11 in
    let sums = m.sums in
    let sx = m.same_x in
    let sy = m.same_y in
    let x : m.s *ℤ a.x +ℤ m.t *ℤ b.x -ℤ (m.u *ℤ c.x +ℤ m.v *ℤ d.x) ≡ pos 0 = omega (arith, linear) in
    let y : m.s *ℤ a.y +ℤ m.t *ℤ b.y -ℤ (m.u *ℤ c.y +ℤ m.v *ℤ d.y) ≡ pos 0 = omega (arith, linear) in
    let w : m.s +ℤ m.t -ℤ (m.u +ℤ m.v) ≡ pos 0 = omega (arith, linear) in
    solve_from (point_env a (point_env b (point_env c (point_env d (m.s ∷ m.t ∷ m.u ∷ m.v ∷ [])))))
    (record { by = b'.y ⊖ a'.y; zero = s' ⊗ a'.x ⊕ t' ⊗ b'.x ⊖ (u' ⊗ c'.x ⊕ v' ⊗ d'.x) }
    ∷ record { by = opp (b'.x ⊖ a'.x); zero = s' ⊗ a'.y ⊕ t' ⊗ b'.y ⊖ (u' ⊗ c'.y ⊕ v' ⊗ d'.y) }
    ∷ record { by = (b'.x ⊖ a'.x) ⊗ a'.y ⊖ (b'.y ⊖ a'.y) ⊗ a'.x; zero = s' ⊕ t' ⊖ (u' ⊕ v') } ∷ [])
    (turn_e a' b' c' ⊗ u' ⊕ turn_e a' b' d' ⊗ v') (num (pos 0)) refl (x, (y, (w, tt)))

-- how far along a b the points c and d are, weighed
alongs-weighed : (a b c d : Pt) (m : IsShared a b c d)
    → dot (minus b a) (minus c a) *ℤ m.u +ℤ dot (minus b a) (minus d a) *ℤ m.v ≡ dot (minus b a) (minus b a) *ℤ m.t
alongs-weighed a b c d m =
    let a' = point_e 0 in let b' = point_e 2 in let c' = point_e 4 in let d' = point_e 6 in
    let s' = var 8 in let t' = var 9 in let u' = var 10 in let v' = var 11 in
    let sums = m.sums in
    let sx = m.same_x in
    let sy = m.same_y in
    let x : m.s *ℤ a.x +ℤ m.t *ℤ b.x -ℤ (m.u *ℤ c.x +ℤ m.v *ℤ d.x) ≡ pos 0 = omega (arith, linear) in
    let y : m.s *ℤ a.y +ℤ m.t *ℤ b.y -ℤ (m.u *ℤ c.y +ℤ m.v *ℤ d.y) ≡ pos 0 = omega (arith, linear) in
    let w : m.s +ℤ m.t -ℤ (m.u +ℤ m.v) ≡ pos 0 = omega (arith, linear) in
    let k' = minus_e b' a' in
    solve_from (point_env a (point_env b (point_env c (point_env d (m.s ∷ m.t ∷ m.u ∷ m.v ∷ [])))))
    (record { by = opp (b'.x ⊖ a'.x); zero = s' ⊗ a'.x ⊕ t' ⊗ b'.x ⊖ (u' ⊗ c'.x ⊕ v' ⊗ d'.x) }
    ∷ record { by = opp (b'.y ⊖ a'.y); zero = s' ⊗ a'.y ⊕ t' ⊗ b'.y ⊖ (u' ⊗ c'.y ⊕ v' ⊗ d'.y) }
    ∷ record { by = (b'.x ⊖ a'.x) ⊗ a'.x ⊕ (b'.y ⊖ a'.y) ⊗ a'.y; zero = s' ⊕ t' ⊖ (u' ⊕ v') } ∷ [])
    (dot_e k' (minus_e c' a') ⊗ u' ⊕ dot_e k' (minus_e d' a') ⊗ v') (dot_e k' k' ⊗ t') refl (x, (y, (w, tt)))

-- x u + y v is 0, and u and v are positive
below_from_above : (x y u v : ℤ) → x *ℤ u +ℤ y *ℤ v ≡ pos 0 → pos 0 <ℤ u → pos 0 <ℤ v → pos 0 <ℤ x → y <ℤ pos 0
below_from_above x y u v h pu pv px = let p = pos-mul x u px pu in let c = *ℤ_comm y v in
    neg_from_mul v y pv (omega (arith, linear))

above_from_below : (x y u v : ℤ) → x *ℤ u +ℤ y *ℤ v ≡ pos 0 → pos 0 <ℤ u → pos 0 <ℤ v → x <ℤ pos 0 → pos 0 <ℤ y
above_from_below x y u v h pu pv nx = let p = neg-mul_pos x u nx pu in let c = *ℤ_comm y v in
    pos_from_mul v y pv (omega (arith, linear))

zero_from_zero : (x y u v : ℤ) → x *ℤ u +ℤ y *ℤ v ≡ pos 0 → pos 0 <ℤ v → x ≡ pos 0 → y ≡ pos 0
zero_from_zero x y u v h pv z = let e = zero-mul x u z in let c = *ℤ_comm y v in
    zero_from_mul v y pv (omega (arith, linear))

-- ---- points on one line, by how far along they are

-- the points from a along k
module _ (k a : Pt) (long : pos 0 <ℤ dot k k) where
  abbrev pub at : Pt → ℤ
  at p = dot k (minus p a)

  abbrev pub OnLine : Pt → Type 0
  OnLine p = cross k (minus p a) ≡ pos 0

  -- p is within x and y where it is further than x and less far than y
  pub within_by : (p x y : Pt) → OnLine p → OnLine x → OnLine y → at x <ℤ at p → at p <ℤ at y → IsWithin x y p
  within_by p x y hp hx hy f g =
      let cx = cross-step k p x a in
      let cy = cross-step k p y a in
      let dx = dot-step k p x a in
      let dy = dot-step k p y a in
      let zx : cross k (minus x p) ≡ pos 0 = omega (arith, linear) in
      let zy : cross k (minus y p) ≡ pos 0 = omega (arith, linear) in
      let n = neg-mul_pos (dot k (minus x p)) (dot k (minus y p)) (omega (arith, linear)) (omega (arith, linear)) in
      let e = parallel-dot k (minus x p) (minus y p) zx in
      record { on = turn-from x y p ∙ parallel-both k (minus x p) (minus y p) long zx zy; apart = neg_from_mul (dot k k) (dot (minus x p) (minus y p)) long (omega (arith, linear)) }

  -- points that are as far are one
  pub one_point : (p q : Pt) → OnLine p → OnLine q → at p ≡ at q → p ≡ q
  one_point p q hp hq h =
      let c = cross-step k q p a in
      let d = dot-step k q p a in
      let z = nothing k (minus p q) long (omega (arith, linear)) (omega (arith, linear)) in
      let zx = z.0 in
      let zy = z.1 in
      let x : p.x ≡ q.x = omega (arith, linear) in
      let y : p.y ≡ q.y = omega (arith, linear) in
      λ i. record { x = x i; y = y i }

turned : (a b p : Pt) → IsWithin a b p → IsWithin b a p
turned a b p m =
    let on = m.on in
    let apart = m.apart in
    let e = turn-swap a b p in
    let f = dot-flip (minus a p) (minus b p) in
    record { on = omega (arith, linear); apart = omega (arith, linear) }

-- u c + v d = n t, where s + t = u + v
less_far : (c d n s t u v : ℤ) → s +ℤ t ≡ u +ℤ v → c *ℤ u +ℤ d *ℤ v ≡ n *ℤ t → pos 0 <ℤ n → pos 0 <ℤ s → pos 0 <ℤ u
    → pos 0 <ℤ v → n ≤ℤ c → d <ℤ n
less_far c d n s t u v w h hn hs hu hv k =
    let w0 : s +ℤ t -ℤ (u +ℤ v) ≡ pos 0 = omega (arith, linear) in
    let h0 : c *ℤ u +ℤ d *ℤ v -ℤ n *ℤ t ≡ pos 0 = omega (arith, linear) in
    let e : v *ℤ (n -ℤ d) ≡ n *ℤ s +ℤ (c -ℤ n) *ℤ u =
    solve_from (c ∷ d ∷ n ∷ s ∷ t ∷ u ∷ v ∷ []) (record { by = opp (var 2); zero = var 3 ⊕ var 4 ⊖ (var 5 ⊕ var 6) }
    ∷ record { by = opp (num (pos 1)); zero = var 0 ⊗ var 5 ⊕ var 1 ⊗ var 6 ⊖ var 2 ⊗ var 4 } ∷ [])
    (var 6 ⊗ (var 2 ⊖ var 1)) (var 2 ⊗ var 3 ⊕ (var 0 ⊖ var 2) ⊗ var 5) refl (w0, (h0, tt)) in
    let p = pos-mul n s hn hs in
    let q = nonneg-mul (c -ℤ n) u (omega (arith, linear)) (omega (arith, linear)) in
    let r = pos_from_mul v (n -ℤ d) hv (omega (arith, linear)) in
    omega (arith, linear)

further : (c d n t u v : ℤ) → c *ℤ u +ℤ d *ℤ v ≡ n *ℤ t → pos 0 <ℤ n → pos 0 <ℤ t → pos 0 <ℤ u → pos 0 <ℤ v
    → c ≤ℤ pos 0 → pos 0 <ℤ d
further c d n t u v h hn ht hu hv k =
    let p = pos-mul n t hn ht in
    let q = nonneg-mul_nonpos u c (omega (arith, linear)) k in
    let x = *ℤ_comm c u in
    let y = *ℤ_comm d v in
    pos_from_mul v d hv (omega (arith, linear))

-- the segments have the same two ends
abbrev pub HaveSameEnds : Pt → Pt → Pt → Pt → Type 0
HaveSameEnds a b c d = ((c ≡ a) × (d ≡ b)) ⊎ ((c ≡ b) × (d ≡ a))

on_one_line : (a b c d : Pt) (m : IsShared a b c d) → pos 0 <ℤ m.s → pos 0 <ℤ m.t → pos 0 <ℤ m.u → pos 0 <ℤ m.v
    → pos 0 <ℤ dot (minus b a) (minus b a)
    → cross (minus b a) (minus c a) ≡ pos 0 → cross (minus b a) (minus d a) ≡ pos 0 → (HaveSameEnds a b c d → ⊥)
    → IsWithin a b c ⊎ (IsWithin a b d ⊎ (IsWithin c d a ⊎ IsWithin c d b))
on_one_line a b c d m ps pt pu pv long hc hd differ =
    let k = minus b a in
    let n = dot k k in
    let fc = dot k (minus c a) in
    let fd = dot k (minus d a) in
    let ha = cross-none k a in
    let hb = cross-own k in
    let h = alongs-weighed a b c d m in
    let fa : dot k (minus a a) ≡ pos 0 = (let a' = point_e 0 in let b' = point_e 2 in solve (point_env a (point_env b [])) (dot_e (minus_e b' a') (minus_e a' a')) (num (pos 0)) refl) in
    by_lt_z (pos 0) fc
    (λ c_above. by_lt_z fc n
    (λ c_below. inl (within_by k a long c a b hc ha hb (omega (arith, linear)) c_below))
    (λ c_far.
    let d_below = less_far fc fd n m.s m.t m.u m.v m.sums h long ps pu pv c_far in
    by_lt_z (pos 0) fd
    (λ d_above. inr (inl (within_by k a long d a b hd ha hb (omega (arith, linear)) d_below)))
    (λ d_low. by_lt_z n fc
    (λ c_past. inr (inr (inr (turned d c b (within_by k a long b d c hb hd hc d_below c_past)))))
    (λ c_near. by_lt_z fd (pos 0)
    (λ d_before. inr (inr (inl (turned d c a (within_by k a long a d c ha hd hc (omega (arith, linear)) (omega (arith, linear)))))))
    (λ d_at. absurd (differ (inr (one_point k a long c b hc hb (omega (arith, linear)), one_point k a long d a hd ha (omega (arith, linear))))))))))
    (λ c_low.
    let d_above = further fc fd n m.t m.u m.v h long pt pu pv c_low in
    by_lt_z fd n
    (λ d_below. inr (inl (within_by k a long d a b hd ha hb (omega (arith, linear)) d_below)))
    (λ d_far. by_lt_z fc (pos 0)
    (λ c_before. inr (inr (inl (within_by k a long a c d ha hc hd (omega (arith, linear)) (omega (arith, linear))))))
    (λ c_at. by_lt_z n fd
    (λ d_past. inr (inr (inr (within_by k a long b c d hb hc hd (omega (arith, linear)) d_past))))
    (λ d_near. absurd (differ (inl (one_point k a long c a hc ha (omega (arith, linear)), one_point k a long d b hd hb (omega (arith, linear)))))))))

-- all four weights positive
inner : (a b c d : Pt) (m : IsShared a b c d) → pos 0 <ℤ m.s → pos 0 <ℤ m.t → pos 0 <ℤ m.u → pos 0 <ℤ m.v
    → pos 0 <ℤ dot (minus b a) (minus b a) → (HaveSameEnds a b c d → ⊥) → AreCrossing a b c d
inner a b c d m ps pt pu pv long differ =
    let e = turns-weighed a b c d m in
    let f = turns-weighed c d a b (swap_segments a b c d m) in
    let s = turn-sums a b c d in
    by_sign (turn a b c)
    (λ low.
    let high = above_from_below (turn a b c) (turn a b d) m.u m.v e pu pv low in
    by_sign (turn c d a)
    (λ l. inl (inl (low, high), inl (l, above_from_below (turn c d a) (turn c d b) m.s m.t f ps pt l)))
    (λ z. let y = zero_from_zero (turn c d a) (turn c d b) m.s m.t f pt z in absurd (omega (arith, linear)))
    (λ l. inl (inl (low, high), inr (l, below_from_above (turn c d a) (turn c d b) m.s m.t f ps pt l))))
    (λ zero. inr (on_one_line a b c d m ps pt pu pv long zero (zero_from_zero (turn a b c) (turn a b d) m.u m.v e pv zero) differ))
    (λ high.
    let low = below_from_above (turn a b c) (turn a b d) m.u m.v e pu pv high in
    by_sign (turn c d a)
    (λ l. inl (inr (high, low), inl (l, above_from_below (turn c d a) (turn c d b) m.s m.t f ps pt l)))
    (λ z. let y = zero_from_zero (turn c d a) (turn c d b) m.s m.t f pt z in absurd (omega (arith, linear)))
    (λ l. inl (inr (high, low), inr (l, below_from_above (turn c d a) (turn c d b) m.s m.t f ps pt l))))

-- ---- segments that share a point that isn't an end of both, and that haven't the same ends, have crossing signs

-- the law, from weights to signs
pub crossing_from_shared : (a b c d : Pt) → pos 0 <ℤ dot (minus b a) (minus b a)
    → pos 0 <ℤ dot (minus d c) (minus d c) → (HaveSameEnds a b c d → ⊥) → IsShared a b c d → AreCrossing a b c d
crossing_from_shared a b c d ab cd differ m = split m.v m.v_nonneg
    (λ z. inr (inl (end_within a b c d m ab z)))
    (λ pv. split m.u m.u_nonneg
    (λ z. inr (inr (inl (end_within a b d c (swap_ends a b c d m) ab z))))
    (λ pu. split m.t m.t_nonneg
    (λ z. inr (inr (inr (inl (end_within c d a b (swap_segments a b c d m) cd z)))))
    (λ pt. split m.s m.s_nonneg
    (λ z. inr (inr (inr (inr (end_within c d b a (swap_ends c d a b (swap_segments a b c d m)) cd z)))))
    (λ ps. inner a b c d m ps pt pu pv ab differ))))
  where
    split : {P : Type 0} (z : ℤ) → pos 0 ≤ℤ z → (z ≡ pos 0 → P) → (pos 0 <ℤ z → P) → P
    split z h f g = by_sign z (λ l. absurd (omega (arith, linear))) f g

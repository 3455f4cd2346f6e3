-- A point of two segments that isn't an end of both, and the signs that tell of one. The forward way: from signs to weights.
use Rattle.std.proofs.Common.{◌≡◌, ◌⊎◌, inl, inr, refl, arith, ◌∙◌, sym, ℤ, pos, ◌+ℤ◌, ◌-ℤ◌, ◌*ℤ◌, ◌<ℤ◌, ◌≤ℤ◌, [], ◌∷◌}
use lib.IntN.{neg_ℤ}
use Rattle.ff_whole.proofs.Formulas.{point_e, point_env, minus_e, dot_e, cross_e, turn_e}
use Rattle.ff_whole.proofs.Ring.{var, num, ◌⊕◌, ◌⊖◌, ◌⊗◌, opp, solve, solve_from}
use Rattle.ff_whole.proofs.Signs.{linear, zero-mul}
use Rattle.ff_whole.proofs.Turns.{turn-swap}
use Rattle.ff_whole.proofs.OnEdges.{dot_nonneg}
use Rattle.ff_whole.specs.Points.{minus, dot, cross, turn}
use Rattle.ff_whole.specs.declared.points.Pt.{Pt}

-- p is strictly between a and b
pub record IsWithin (a b p : Pt) : Type 0 where
  pub on : turn a b p ≡ pos 0
  pub apart : dot (minus a p) (minus b p) <ℤ pos 0

-- one number is negative and the other positive
abbrev pub AreOpposite : ℤ → ℤ → Type 0
AreOpposite x y = (x <ℤ pos 0) × (pos 0 <ℤ y) ⊎ (pos 0 <ℤ x) × (y <ℤ pos 0)

-- the signs: each segment's ends are on different sides of the other, or an end of one is strictly within the other
abbrev pub AreCrossing : Pt → Pt → Pt → Pt → Type 0
AreCrossing a b c d =
    (AreOpposite (turn a b c) (turn a b d) × AreOpposite (turn c d a) (turn c d b))
    ⊎ (IsWithin a b c ⊎ (IsWithin a b d ⊎ (IsWithin c d a ⊎ IsWithin c d b)))

-- the weights of a point of the segments a b and c d that isn't an end of both
pub record IsShared (a b c d : Pt) : Type 0 where
  pub s : ℤ
  pub t : ℤ
  pub u : ℤ
  pub v : ℤ
  pub s_nonneg : pos 0 ≤ℤ s
  pub t_nonneg : pos 0 ≤ℤ t
  pub u_nonneg : pos 0 ≤ℤ u
  pub v_nonneg : pos 0 ≤ℤ v
  pub some : pos 0 <ℤ (s +ℤ t)
  pub sums : s +ℤ t ≡ u +ℤ v
  pub same_x : s *ℤ a.x +ℤ t *ℤ b.x ≡ u *ℤ c.x +ℤ v *ℤ d.x
  pub same_y : s *ℤ a.y +ℤ t *ℤ b.y ≡ u *ℤ c.y +ℤ v *ℤ d.y
  pub within : (pos 0 <ℤ s) × (pos 0 <ℤ t) ⊎ (pos 0 <ℤ u) × (pos 0 <ℤ v)

-- ---- the ends, and the segments, change places

-- the ends of the second segment change places
abbrev pub swap_ends : (a b c d : Pt) → IsShared a b c d → IsShared a b d c
swap_ends a b c d m = record {
  s = m.s;
  t = m.t;
  u = m.v;
  v = m.u;
  s_nonneg = m.s_nonneg;
  t_nonneg = m.t_nonneg;
  u_nonneg = m.v_nonneg;
  v_nonneg = m.u_nonneg;
  some = m.some;
  sums = (let e = m.sums in omega (arith, linear));
  same_x = (let e = m.same_x in omega (arith, linear));
  same_y = (let e = m.same_y in omega (arith, linear));
  within = elim m.within [ inl y ↦ inl y | inr z ↦ inr (z.1, z.0) ];
}

-- the segments change places
abbrev pub swap_segments : (a b c d : Pt) → IsShared a b c d → IsShared c d a b
swap_segments a b c d m = record {
  s = m.u;
  t = m.v;
  u = m.s;
  v = m.t;
  s_nonneg = m.u_nonneg;
  t_nonneg = m.v_nonneg;
  u_nonneg = m.s_nonneg;
  v_nonneg = m.t_nonneg;
  some = (let e = m.sums in let h = m.some in omega (arith, linear));
  sums = sym m.sums;
  same_x = sym m.same_x;
  same_y = sym m.same_y;
  within = elim m.within [ inl y ↦ inr y | inr z ↦ inl z ];
}

-- ---- different sides

-- the turns of the ends of one segment differ by as much as those of the other
pub turn-sums : (a b c d : Pt) → turn c d a -ℤ turn c d b ≡ turn a b d -ℤ turn a b c
turn-sums a b c d =
    let a' = point_e 0 in let b' = point_e 2 in let c' = point_e 4 in let d' = point_e 6 in
    solve (point_env a (point_env b (point_env c (point_env d [])))) (turn_e c' d' a' ⊖ turn_e c' d' b') (turn_e a' b' d' ⊖ turn_e a' b' c') refl

-- c right of a b, and d left of it
proper : (a b c d : Pt) → turn a b c <ℤ pos 0 → pos 0 <ℤ turn a b d → pos 0 <ℤ turn c d a → turn c d b <ℤ pos 0
    → IsShared a b c d
proper a b c d h1 h2 h3 h4 =
    let a' = point_e 0 in let b' = point_e 2 in let c' = point_e 4 in let d' = point_e 6 in
    let env = point_env a (point_env b (point_env c (point_env d []))) in
    let e = turn-sums a b c d in
    record {
      s = neg_ℤ (turn c d b);
      t = turn c d a;
      u = turn a b d;
      v = neg_ℤ (turn a b c);
      s_nonneg = omega (arith, linear);
      t_nonneg = omega (arith, linear);
      u_nonneg = omega (arith, linear);
      v_nonneg = omega (arith, linear);
      some = omega (arith, linear);
      sums = omega (arith, linear);
      same_x =
          solve env (opp (turn_e c' d' b') ⊗ a'.x ⊕ turn_e c' d' a' ⊗ b'.x) (turn_e a' b' d' ⊗ c'.x ⊕ opp (turn_e a' b' c') ⊗ d'.x) refl;
      same_y =
          solve env (opp (turn_e c' d' b') ⊗ a'.y ⊕ turn_e c' d' a' ⊗ b'.y) (turn_e a' b' d' ⊗ c'.y ⊕ opp (turn_e a' b' c') ⊗ d'.y) refl;
      within = inl (omega (arith, linear), omega (arith, linear));
    }

-- ---- an end strictly within

-- s a + t b is (s + t) p where s (a - p) + t (b - p) is 0
gathered : (s t a b p q e : ℤ) → s *ℤ (a -ℤ p) +ℤ t *ℤ (b -ℤ p) ≡ e → e ≡ pos 0
    → s *ℤ a +ℤ t *ℤ b ≡ (s +ℤ t) *ℤ p +ℤ pos 0 *ℤ q
gathered s t a b p q e h k =
    let z : s *ℤ (a -ℤ p) +ℤ t *ℤ (b -ℤ p) ≡ pos 0 = h ∙ k in
    solve_from (s ∷ t ∷ a ∷ b ∷ p ∷ q ∷ []) (record { by = num (pos 1); zero = var 0 ⊗ (var 2 ⊖ var 4) ⊕ var 1 ⊗ (var 3 ⊖ var 4) } ∷ [])
    (var 0 ⊗ var 2 ⊕ var 1 ⊗ var 3) ((var 0 ⊕ var 1) ⊗ var 4 ⊕ num (pos 0) ⊗ var 5) refl (z, tt)

-- the turn as it is seen from p
pub turn-from : (a b p : Pt) → turn a b p ≡ cross (minus a p) (minus b p)
turn-from a b p =
    let a' = point_e 0 in let b' = point_e 2 in let p' = point_e 4 in
    solve (point_env a (point_env b (point_env p []))) (turn_e a' b' p') (cross_e (minus_e a' p') (minus_e b' p')) refl

within_shared : (a b c d : Pt) → IsWithin a b c → IsShared a b c d
within_shared a b c d m =
    let p = minus a c in
    let q = minus b c in
    let s = dot q q -ℤ dot p q in
    let t = dot p p -ℤ dot p q in
    let apart = m.apart in
    let pp = dot_nonneg p in
    let qq = dot_nonneg q in
    let z : cross p q ≡ pos 0 = sym (turn-from a b c) ∙ m.on in
    let p' = point_e 0 in let q' = point_e 2 in
    let env = point_env p (point_env q []) in
    let ex = solve env ((dot_e q' q' ⊖ dot_e p' q') ⊗ p'.x ⊕ (dot_e p' p' ⊖ dot_e p' q') ⊗ q'.x) (cross_e p' q' ⊗ (q'.y ⊖ p'.y)) refl in
    let ey = solve env ((dot_e q' q' ⊖ dot_e p' q') ⊗ p'.y ⊕ (dot_e p' p' ⊖ dot_e p' q') ⊗ q'.y) (cross_e p' q' ⊗ (p'.x ⊖ q'.x)) refl in
    record {
      s = s;
      t = t;
      u = s +ℤ t;
      v = pos 0;
      s_nonneg = omega (arith, linear);
      t_nonneg = omega (arith, linear);
      u_nonneg = omega (arith, linear);
      v_nonneg = omega (arith, linear);
      some = omega (arith, linear);
      sums = omega (arith, linear);
      same_x = gathered s t a.x b.x c.x d.x (cross p q *ℤ (q.y -ℤ p.y)) ex (zero-mul (cross p q) (q.y -ℤ p.y) z);
      same_y = gathered s t a.y b.y c.y d.y (cross p q *ℤ (p.x -ℤ q.x)) ey (zero-mul (cross p q) (p.x -ℤ q.x) z);
      within = inl (omega (arith, linear), omega (arith, linear));
    }

-- ---- segments with crossing signs share a point that isn't an end of both

-- the law, from signs to weights
pub shared_from_crossing : (a b c d : Pt) → AreCrossing a b c d → IsShared a b c d
shared_from_crossing a b c d (inl (inl y, inl z)) = let e = turn-sums a b c d in let y0 = y.0 in let y1 = y.1 in
    let z0 = z.0 in let z1 = z.1 in absurd (omega (arith, linear))
shared_from_crossing a b c d (inl (inl y, inr z)) = proper a b c d y.0 y.1 z.0 z.1
shared_from_crossing a b c d (inl (inr y, inl z)) =
    let e = turn-swap c d a in let f = turn-swap c d b in let z0 = z.0 in let z1 = z.1 in
    swap_ends a b d c (proper a b d c y.1 y.0 (omega (arith, linear)) (omega (arith, linear)))
shared_from_crossing a b c d (inl (inr y, inr z)) = let e = turn-sums a b c d in let y0 = y.0 in let y1 = y.1 in
    let z0 = z.0 in let z1 = z.1 in absurd (omega (arith, linear))
shared_from_crossing a b c d (inr (inl m)) = within_shared a b c d m
shared_from_crossing a b c d (inr (inr (inl m))) = swap_ends a b d c (within_shared a b d c m)
shared_from_crossing a b c d (inr (inr (inr (inl m)))) = swap_segments c d a b (within_shared c d a b m)
shared_from_crossing a b c d (inr (inr (inr (inr m)))) =
    swap_segments c d a b (swap_ends c d b a (within_shared c d b a m))

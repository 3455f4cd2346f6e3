-- The crossing test with whole weights: a point (s a + t b) / (s + t) of one segment that is (u c + v d) / (u + v) of the other.
use Rattle.std.proofs.Common.{◌≡◌, ◌⊎◌, inl, inr, ℕ, ◌+◌, ◌<◌, arith, ap, ℤ, pos, negsuc, ◌+ℤ◌, ◌*ℤ◌, ◌<ℤ◌, ◌≤ℤ◌}
use Rattle.std.proofs.lemmas.Int.{ints, by_lt_z}
use Rattle.ff_whole.proofs.Signs.{linear, by_sign, zero-mul}
use Rattle.ff_whole.proofs.ThreeTerms.{cross-none, cross-own, dot-step, length_positive}
use Rattle.ff_whole.proofs.Images.{distance_positive}
use Rattle.ff_whole.proofs.SegmentPoints.{AreCrossing, IsWithin, shared_from_crossing}
use Rattle.ff_whole.proofs.SegmentSigns.{HaveSameEnds, within_by, one_point, crossing_from_shared}
use Rattle.ff_whole.specs.Points.{minus, dot, cross, mix}
use Rattle.ff_whole.specs.declared.points.Pt.{Pt}

-- one point of both segments, with weights of one sum
pub record IsMixed (a b c d : Pt) (s t u v : ℕ) : Type 0 where
  pub some : 0 < s + t
  pub sums : s + t ≡ u + v
  pub same : mix s a t b ≡ mix u c v d

-- which isn't an end of both
abbrev pub IsNoEnd : ℕ → ℕ → ℕ → ℕ → Type 0
IsNoEnd s t u v = (0 < s) × (0 < t) ⊎ (0 < u) × (0 < v)

-- segments with different ends share such a point only where their signs cross
pub crossing_from_mixed : (a b c d : Pt) (s t u v : ℕ) → (a ≡ b → ⊥) → (c ≡ d → ⊥) → (HaveSameEnds a b c d → ⊥)
    → IsMixed a b c d s t u v → IsNoEnd s t u v → AreCrossing a b c d
crossing_from_mixed a b c d s t u v ab cd differ m no_end =
    let some = m.some in
    let sums = m.sums in
    crossing_from_shared a b c d (distance_positive a b ab) (distance_positive c d cd) differ (record {
      s = pos s;
      t = pos t;
      u = pos u;
      v = pos v;
      s_nonneg = omega (arith, ints);
      t_nonneg = omega (arith, ints);
      u_nonneg = omega (arith, ints);
      v_nonneg = omega (arith, ints);
      some = omega (arith, ints);
      sums = omega (arith, ints);
      same_x = ap (λ p. p.x) m.same;
      same_y = ap (λ p. p.y) m.same;
      within =
          elim no_end [
            | inl h ↦ let x =
                h.0 in let y = h.1 in inl (omega (arith, ints), omega (arith, ints))
            | inr h ↦ let x = h.0 in
                let y = h.1 in inr (omega (arith, ints), omega (arith, ints))
          ];
    })

-- segments have such a point
pub record HaveMixed (a b c d : Pt) : Type 0 where
  pub s : ℕ
  pub t : ℕ
  pub u : ℕ
  pub v : ℕ
  pub point : IsMixed a b c d s t u v
  pub no_end : IsNoEnd s t u v

in_whole : (a b c d : Pt) (s t u v : ℤ) → pos 0 ≤ℤ s → pos 0 ≤ℤ t → pos 0 ≤ℤ u → pos 0 ≤ℤ v → pos 0 <ℤ (s +ℤ t)
    → s +ℤ t ≡ u +ℤ v
    → s *ℤ a.x +ℤ t *ℤ b.x ≡ u *ℤ c.x +ℤ v *ℤ d.x → s *ℤ a.y +ℤ t *ℤ b.y ≡ u *ℤ c.y +ℤ v *ℤ d.y
    → (pos 0 <ℤ s) × (pos 0 <ℤ t) ⊎ (pos 0 <ℤ u) × (pos 0 <ℤ v) → HaveMixed a b c d
in_whole a b c d (pos s) (pos t) (pos u) (pos v) hs ht hu hv some sums x y within = record {
  s = s;
  t = t;
  u = u;
  v = v;
  point = record { some = omega (arith, ints); sums = omega (arith, ints); same = λ i. record { x = x i; y = y i } };
  no_end =
      elim within [
        | inl h ↦ let f =
            h.0 in let g = h.1 in inl (omega (arith, ints), omega (arith, ints))
        | inr h ↦ let f = h.0 in let g = h.1 in
            inr (omega (arith, ints), omega (arith, ints))
      ];
}
in_whole a b c d (negsuc s) t u v hs ht hu hv some sums x y within = absurd (omega (arith, ints))
in_whole a b c d (pos s) (negsuc t) u v hs ht hu hv some sums x y within = absurd (omega (arith, ints))
in_whole a b c d (pos s) (pos t) (negsuc u) v hs ht hu hv some sums x y within = absurd (omega (arith, ints))
in_whole a b c d (pos s) (pos t) (pos u) (negsuc v) hs ht hu hv some sums x y within = absurd (omega (arith, ints))

-- and where their signs cross they do
pub mixed_from_crossing : (a b c d : Pt) → AreCrossing a b c d → HaveMixed a b c d
mixed_from_crossing a b c d h =
    let m = shared_from_crossing a b c d h in
    in_whole a b c d m.s m.t m.u m.v m.s_nonneg m.t_nonneg m.u_nonneg m.v_nonneg m.some m.sums m.same_x m.same_y m.within

-- of two ways from p in one direction, one end is within the other way
pub one_direction : (p q r : Pt) → (q ≡ r → ⊥) → cross (minus q p) (minus r p) ≡ pos 0
    → pos 0 <ℤ dot (minus q p) (minus r p) → IsWithin p q r ⊎ IsWithin p r q
one_direction p q r differ par ahead =
    let k = minus q p in
    let long = long_from_ahead k (minus r p) ahead in
    let hp = cross-none k p in
    let hq = cross-own k in
    let zero = dot-none k p in
    by_lt_z (dot k (minus r p)) (dot k k)
    (λ near. inl (within_by k p long r p q par hp hq (omega (arith, linear)) near))
    (λ far. by_lt_z (dot k k) (dot k (minus r p))
    (λ past. inr (within_by k p long q p r hq hp par (omega (arith, linear)) past))
    (λ same. absurd (differ (one_point k p long q r hq par (omega (arith, linear))))))
  where
    dot-none : (u o : Pt) → dot u (minus o o) ≡ pos 0
    dot-none u o = let e = dot-step u o o o in omega (arith, linear)

    long_from_ahead : (u b : Pt) → pos 0 <ℤ dot u b → pos 0 <ℤ dot u u
    long_from_ahead u b h = by_sign u.x
        (λ l. length_positive u (inl (λ e. absurd (omega (arith, linear)))))
        (λ x. length_positive u (inr (λ y. let a = zero-mul u.x b.x x in let c = zero-mul u.y b.y y in omega (arith, linear))))
        (λ l. length_positive u (inl (λ e. absurd (omega (arith, linear)))))

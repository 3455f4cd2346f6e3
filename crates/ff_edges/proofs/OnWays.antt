-- A place on the line through two points is on the way from one to the other where its rank is between theirs.
use Rattle.std.proofs.Common.{◌≡◌, refl, ap, ◌∙◌, arith, ◌+◌, ℤ, pos, ◌+ℤ◌, ◌-ℤ◌, ◌*ℤ◌, ◌<ℤ◌, ◌≤ℤ◌, Bool, true, false, ◌&&◌, IsTrue, [], ◌∷◌}
use lib.IntN.{neg_ℤ, *ℤ-zero, *ℤ_comm}
use Rattle.std.specs.Prelude.{int_le}
use Rattle.std.specs.Ordering.{int_eq}
use Rattle.std.proofs.lemmas.Int.{ints, by_lt_z}
use Rattle.std.proofs.lemmas.Bool.{false≢true}
use Rattle.std.proofs.lemmas.Bool.Decides.{Decides-int_eq}
use Rattle.ff_basics.proofs.Tests.{both_of, eq_from, le_from, of_both, to_eq, to_le}
use Rattle.ff_whole.specs.declared.points.Pt.{Pt}
use Rattle.ff_whole.specs.declared.lines.Line.{Line}
use Rattle.ff_whole.specs.declared.places.Place.{Place}
use Rattle.ff_whole.specs.declared.sizes.TheConstants.{POINT_SIZE}
use Rattle.ff_whole.specs.Points.{minus, dot, turn}
use Rattle.ff_whole.specs.Places.{place_of, through, height, past}
use Rattle.ff_whole.specs.Turning.{rank}
use Rattle.ff_whole.proofs.Formulas.{point_e, point_env, line_e, line_env, place_e, place_env, place_of_e, minus_e, dot_e, through_e, height_e, past_e}
use Rattle.ff_whole.proofs.Ring.{var, ◌⊕◌, ◌⊖◌, ◌⊗◌, opp, solve, solve_from}
use Rattle.ff_whole.proofs.Signs.{linear, zero-mul, zero_from_mul, pos-mul, nonneg-mul, nonneg-mul_nonpos, nonneg_from_mul}
use Rattle.ff_whole.proofs.ThreeTerms.{parallel-both}
use Rattle.ff_whole.proofs.Turns.{height-through, height-back, turn-rotate}
use Rattle.ff_whole.proofs.Offsets.{height-past, height-ends}
use Rattle.ff_whole.proofs.OnEdges.{IsOn}
use Rattle.ff_edges.specs.Ways.{is_on_way}

-- ---- the test

pub on_from : (p q : Pt) (s : Place) → IsTrue (is_on_way p q s) → IsOn p q s
on_from p q s t =
    let a = both_of (int_eq (height (through p q) s) (pos 0) && int_le (pos 0) (past p q s)) _ t in
    let b = both_of (int_eq (height (through p q) s) (pos 0)) _ a.0 in
    record { on = eq_from (height (through p q) s) b.0; after = le_from (past p q s) b.1; before = le_from (past q p s) a.1 }

pub to_on : (p q : Pt) (s : Place) → IsOn p q s → IsTrue (is_on_way p q s)
to_on p q s h = of_both _ _ (of_both _ _ (to_eq (height (through p q) s) h.on) (to_le (past p q s) h.after)) (to_le (past q p s) h.before)

pub turned : (p q : Pt) (s : Place) → IsOn p q s → IsOn q p s
turned p q s h = let e = height-back p q s in let on = h.on in record { on = omega (arith, linear); after = h.before; before = h.after }

-- ---- ranks

-- the rank of a place, times its denominator
abbrev pub rank_at : Place → ℤ
rank_at s = pos (POINT_SIZE + POINT_SIZE) *ℤ s.x +ℤ s.y

-- on the line, the rank tells how far past p a place is
past-rank : (n : ℤ) (p q : Pt) (s : Place) → height (through p q) s ≡ pos 0
    → past p q s *ℤ ((n *ℤ q.x +ℤ q.y) -ℤ (n *ℤ p.x +ℤ p.y)) ≡ dot (minus q p) (minus q p) *ℤ ((n *ℤ s.x +ℤ s.y) -ℤ s.w *ℤ (n *ℤ p.x +ℤ p.y))
past-rank n p q s on =
    let p' = point_e 0 in let q' = point_e 2 in let s' = place_e 4 in let n' = var 7 in
    solve_from (point_env p (point_env q (place_env s (n ∷ []))))
    (record { by = n' ⊗ (q'.y ⊖ p'.y) ⊖ (q'.x ⊖ p'.x); zero = height_e (through_e p' q') s' } ∷ [])
    (past_e p' q' s' ⊗ ((n' ⊗ q'.x ⊕ q'.y) ⊖ (n' ⊗ p'.x ⊕ p'.y)))
    (dot_e (minus_e q' p') (minus_e q' p') ⊗ ((n' ⊗ s'.x ⊕ s'.y) ⊖ s'.w ⊗ (n' ⊗ p'.x ⊕ p'.y))) refl (on, tt)

-- on the line, and its rank between those of p and q
pub record IsRanked (p q : Pt) (s : Place) : Type 0 where
  pub on : height (through p q) s ≡ pos 0
  pub low : (s.w *ℤ rank p) ≤ℤ rank_at s
  pub high : rank_at s ≤ℤ (s.w *ℤ rank q)

swap : (z u v : ℤ) → z *ℤ (u -ℤ v) ≡ neg_ℤ (z *ℤ (v -ℤ u))
swap z u v = solve (z ∷ u ∷ v ∷ []) (var 0 ⊗ (var 1 ⊖ var 2)) (opp (var 0 ⊗ (var 2 ⊖ var 1))) refl

module _ (p q : Pt) (s : Place) (long : pos 0 <ℤ dot (minus q p) (minus q p)) (goes : rank p <ℤ rank q) where
  wide : pos 0 <ℤ (rank q -ℤ rank p)
  wide = omega (arith, linear)

  at_p : height (through p q) s ≡ pos 0 → past p q s *ℤ (rank q -ℤ rank p) ≡ dot (minus q p) (minus q p) *ℤ (rank_at s -ℤ s.w *ℤ rank p)
  at_p on = past-rank (pos (POINT_SIZE + POINT_SIZE)) p q s on

  back : height (through p q) s ≡ pos 0 → height (through q p) s ≡ pos 0
  back on = let e = height-back p q s in omega (arith, linear)

  length-back : dot (minus p q) (minus p q) ≡ dot (minus q p) (minus q p)
  length-back =
      let p' = point_e 0 in let q' = point_e 2 in
      solve (point_env p (point_env q [])) (dot_e (minus_e p' q') (minus_e p' q')) (dot_e (minus_e q' p') (minus_e q' p')) refl

  at_q : height (through p q) s ≡ pos 0 → past q p s *ℤ (rank p -ℤ rank q) ≡ dot (minus q p) (minus q p) *ℤ (rank_at s -ℤ s.w *ℤ rank q)
  at_q on = past-rank (pos (POINT_SIZE + POINT_SIZE)) q p s (back on) ∙ ap (λ z. z *ℤ (rank_at s -ℤ s.w *ℤ rank q)) length-back

  pub ranked_from_on : IsOn p q s → IsRanked p q s
  ranked_from_on h =
      let w = wide in
      let e = at_p h.on in
      let f = at_q h.on in
      let a = nonneg-mul (past p q s) (rank q -ℤ rank p) h.after (omega (arith, linear)) in
      let b = nonneg-mul (past q p s) (rank q -ℤ rank p) h.before (omega (arith, linear)) in
      let c : past q p s *ℤ (rank p -ℤ rank q) ≡ neg_ℤ (past q p s *ℤ (rank q -ℤ rank p)) = swap (past q p s) (rank p) (rank q) in
      let d = swap (dot (minus q p) (minus q p)) (rank_at s) (s.w *ℤ rank q) in
      let low = nonneg_from_mul (dot (minus q p) (minus q p)) (rank_at s -ℤ s.w *ℤ rank p) long (omega (arith, linear)) in
      let high = nonneg_from_mul (dot (minus q p) (minus q p)) (s.w *ℤ rank q -ℤ rank_at s) long (omega (arith, linear)) in
      record { on = h.on; low = omega (arith, linear); high = omega (arith, linear) }

  pub on_from_ranked : IsRanked p q s → IsOn p q s
  on_from_ranked h =
      let w = wide in
      let low = h.low in
      let high = h.high in
      let e = at_p h.on in
      let f = at_q h.on in
      let a = nonneg-mul (dot (minus q p) (minus q p)) (rank_at s -ℤ s.w *ℤ rank p) (omega (arith, linear)) (omega (arith, linear)) in
      let b = nonneg-mul (dot (minus q p) (minus q p)) (s.w *ℤ rank q -ℤ rank_at s) (omega (arith, linear)) (omega (arith, linear)) in
      let c = swap (past q p s) (rank p) (rank q) in
      let d = swap (dot (minus q p) (minus q p)) (rank_at s) (s.w *ℤ rank q) in
      let x = *ℤ_comm (past p q s) (rank q -ℤ rank p) in
      let y = *ℤ_comm (past q p s) (rank q -ℤ rank p) in
      record {
        on = h.on;
        after = nonneg_from_mul (rank q -ℤ rank p) (past p q s) w (omega (arith, linear));
        before = nonneg_from_mul (rank q -ℤ rank p) (past q p s) w (omega (arith, linear));
      }

-- ---- points on one line

-- two points on the line through p and q: p and q are on the line through these
pub on_line : (p q a b : Pt) → pos 0 <ℤ dot (minus q p) (minus q p) → turn p q a ≡ pos 0 → turn p q b ≡ pos 0 → turn a b p ≡ pos 0
on_line p q a b long h k = turn-rotate p a b ∙ parallel-both (minus q p) (minus a p) (minus b p) long h k

rise-ends : (l : Line) (p q : Pt) → l.a *ℤ (q.x -ℤ p.x) +ℤ l.b *ℤ (q.y -ℤ p.y) ≡ height l (place_of q) -ℤ height l (place_of p)
rise-ends l p q =
    let l' = line_e 0 in let p' = point_e 3 in let q' = point_e 5 in
    solve (line_env l (point_env p (point_env q []))) (l'.a ⊗ (q'.x ⊖ p'.x) ⊕ l'.b ⊗ (q'.y ⊖ p'.y)) (height_e l' (place_of_e q') ⊖ height_e l' (place_of_e p')) refl

-- and their line holds what the first one holds
pub same_line : (p q a b : Pt) (s : Place) → pos 0 <ℤ dot (minus q p) (minus q p) → turn a b p ≡ pos 0 → turn a b q ≡ pos 0
    → height (through p q) s ≡ pos 0 → height (through a b) s ≡ pos 0
same_line p q a b s long h k on =
    let l = through a b in
    let dd = dot (minus q p) (minus q p) in
    let e = height-past l p q s in
    let f = height-through a b p in
    let g = height-through a b q in
    let m = rise-ends l p q in
    let z = zero-mul (l.a *ℤ (q.x -ℤ p.x) +ℤ l.b *ℤ (q.y -ℤ p.y)) (past p q s) (omega (arith, linear)) in
    let y : (l.b *ℤ (q.x -ℤ p.x) -ℤ l.a *ℤ (q.y -ℤ p.y)) *ℤ height (through p q) s ≡ pos 0 = ap (λ r. (l.b *ℤ (q.x -ℤ p.x) -ℤ l.a *ℤ (q.y -ℤ p.y)) *ℤ r) on ∙ *ℤ-zero (l.b *ℤ (q.x -ℤ p.x) -ℤ l.a *ℤ (q.y -ℤ p.y)) in
    let x : dd *ℤ s.w *ℤ height l (place_of p) ≡ pos 0 = ap (λ r. dd *ℤ s.w *ℤ r) (f ∙ h) ∙ *ℤ-zero (dd *ℤ s.w) in
    zero_from_mul dd (height l s) long (omega (arith, linear))

-- ---- sides

-- a place of a way isn't left of a line that neither end is left of
pub not_left_on : (l : Line) (p q : Pt) (m : Place) → pos 0 <ℤ dot (minus q p) (minus q p) → IsOn p q m
    → height l (place_of p) ≤ℤ pos 0 → height l (place_of q) ≤ℤ pos 0 → height l m ≤ℤ pos 0
not_left_on l p q m long h low high =
    let e = height-ends l p q m in
    let k = l.b *ℤ (q.x -ℤ p.x) -ℤ l.a *ℤ (q.y -ℤ p.y) in
    let z = ap (λ z. k *ℤ z) h.on ∙ *ℤ-zero k in
    let a = nonneg-mul_nonpos (past p q m) (height l (place_of q)) h.after high in
    let b = nonneg-mul_nonpos (past q p m) (height l (place_of p)) h.before low in
    by_lt_z (pos 0) (height l m) (λ up. let x = pos-mul (dot (minus q p) (minus q p)) (height l m) long up in absurd (omega (arith, linear))) (λ l. l)

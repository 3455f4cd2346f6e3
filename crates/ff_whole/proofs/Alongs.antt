-- A place of an edge can be moved along it: to strictly between its ends, across no lines, and off each line that isn't
-- parallel to it. And it can be moved to the side.
use Rattle.std.proofs.Common.{◌≡◌, ◌≢◌, inr, ℕ, suc, ◌+◌, ◌<◌, refl, arith, sym, ap, ◌∙◌, subst, ℤ, pos, ◌+ℤ◌, ◌-ℤ◌, ◌*ℤ◌, ◌<ℤ◌, ◌≤ℤ◌, List, [], ◌∷◌}
use lib.IntN.{neg_ℤ, *ℤ-zero, *ℤ_comm}
use Rattle.std.specs.List.{All}
use Rattle.std.proofs.lemmas.Int.{ints, by_lt_z}
use Rattle.std.proofs.lemmas.List.Elements.{All-head, All-tail, All-weaker}
use Rattle.ff_whole.proofs.Formulas.{point_e, point_env, minus_e, dot_e, line_e, line_env, place_of_e, through_e, height_e}
use Rattle.ff_whole.proofs.Ring.{var, num, ◌⊕◌, ◌⊖◌, ◌⊗◌, opp, solve}
use Rattle.ff_whole.proofs.Signs.{linear, by_sign, pos-mul, nonneg-mul, nonneg-mul_nonpos, zero-mul, pos_from_mul, zero_from_mul, sum_zero}
use Rattle.ff_whole.proofs.Offsets.{past-sum, height-past, height-ends, line_across, height-across}
use Rattle.ff_whole.proofs.OnEdges.{IsOn}
use Rattle.ff_whole.proofs.Turns.{height-back}
use Rattle.ff_whole.proofs.Shifts.{moved, IsDecided, shift, NotAlong, off_lines}
use Rattle.ff_whole.proofs.Moves.{KeepsSide}
use Rattle.ff_whole.specs.Points.{minus, dot}
use Rattle.ff_whole.specs.Places.{place_of, through, height, past}
use Rattle.ff_whole.specs.declared.points.Pt.{Pt}
use Rattle.ff_whole.specs.declared.lines.Line.{Line}
use Rattle.ff_whole.specs.declared.places.Place.{Place}

-- ---- directions as places with no denominator

abbrev pub way : Pt → Place
way d = record { x = d.x; y = d.y; w = pos 0 }

-- how far left of a line a direction leads
abbrev pub leads : Line → Pt → ℤ
leads l d = l.a *ℤ d.x +ℤ l.b *ℤ d.y

height-way : (l : Line) (d : Pt) → height l (way d) ≡ leads l d
height-way l d = let l' = line_e 0 in let d' = point_e 3 in
    solve (line_env l (point_env d [])) (height_e l' (record { x = d'.x; y = d'.y; w = num (pos 0) })) (l'.a ⊗ d'.x ⊕ l'.b ⊗ d'.y) refl

leads-along : (p q : Pt) → leads (through p q) (minus q p) ≡ pos 0
leads-along p q = let p' = point_e 0 in let q' = point_e 2 in let d' = minus_e q' p' in let l' = through_e p' q' in
    solve (point_env p (point_env q [])) (l'.a ⊗ d'.x ⊕ l'.b ⊗ d'.y) (num (pos 0)) refl

leads-back : (l : Line) (p q : Pt) → leads l (minus p q) ≡ neg_ℤ (leads l (minus q p))
leads-back l p q = let l' = line_e 0 in let p' = point_e 3 in let q' = point_e 5 in let d' = minus_e p' q' in
    let e' = minus_e q' p' in
    solve (line_env l (point_env p (point_env q []))) (l'.a ⊗ d'.x ⊕ l'.b ⊗ d'.y) (opp (l'.a ⊗ e'.x ⊕ l'.b ⊗ e'.y)) refl

leads-across : (p q : Pt) → leads (line_across p q) (minus q p) ≡ dot (minus q p) (minus q p)
leads-across p q = let p' = point_e 0 in let q' = point_e 2 in let d' = minus_e q' p' in
    solve (point_env p (point_env q [])) (d'.x ⊗ d'.x ⊕ d'.y ⊗ d'.y) (dot_e d' d') refl

-- ---- along the edge

-- the place is on the line of p q and strictly between them
pub record IsBetween (p q : Pt) (m : Place) : Type 0 where
  pub on : height (through p q) m ≡ pos 0
  pub after : pos 0 <ℤ past p q m
  pub before : pos 0 <ℤ past q p m

-- where the place m may be moved
pub record IsMovedAlong (p q : Pt) (m : Place) (ls ms : List Line) (s : Place) : Type 0 where
  pub positive : pos 0 <ℤ s.w
  pub between : IsBetween p q s
  pub keeps : All (KeepsSide m s) ls
  pub off : All (λ l. height l s ≢ pos 0) ms

-- the line isn't parallel to the edge
abbrev pub NotParallel : Pt → Pt → Line → Type 0
NotParallel p q l = leads l (minus q p) ≢ pos 0

-- a place that is moved so has a denominator
moved_place : (n : ℕ) (m : Place) (d : Pt) → pos 0 <ℤ m.w → 0 < n → pos 0 <ℤ (moved n m (way d)).w
moved_place n m d w some =
    let e = solve (pos n ∷ m.w ∷ []) (var 0 ⊗ var 1 ⊕ num (pos 1) ⊗ num (pos 0)) (var 0 ⊗ var 1) refl in
    let p = pos-mul (pos n) m.w (omega (arith, ints)) w in
    subst (λ z. pos 0 <ℤ z) (sym e) p

-- a place on the edge from p to q that isn't q, moved ahead
ahead : (p q : Pt) (m : Place) → pos 0 <ℤ m.w → pos 0 <ℤ dot (minus q p) (minus q p)
    → height (through p q) m ≡ pos 0
    → pos 0 ≤ℤ past p q m → pos 0 <ℤ past q p m
    → (ls ms : List Line) → All (NotParallel p q) ms → (s : Place) × IsMovedAlong p q m ls ms s
ahead p q m w long on after before ls ms apart =
    let d = way (minus q p) in
    let rest = line_across p q ∷ line_across q p ∷ ls in
    let near = shift (through p q ∷ rest) m d in
    let off = off_lines ms m d (All-weaker (NotParallel p q) (NotAlong m d) (λ l g. inr (λ z. g (sym (height-way l (minus q p)) ∙ z))) ms apart) in
    let n = suc (near.0 + off.0) in
    let all = near.1 n (omega arith) in
    let others = All-tail (IsDecided m d n) (through p q) rest all in
    let last = All-tail (IsDecided m d n) (line_across p q) (line_across q p ∷ ls) others in
    let at_line = All-head (IsDecided m d n) (through p q) rest all in
    let at_start = All-head (IsDecided m d n) (line_across p q) (line_across q p ∷ ls) others in
    let at_end = All-head (IsDecided m d n) (line_across q p) ls last in
    let s = moved n m d in
    let e = height-across p q m in
    let f = height-across q p m in
    let g = height-across p q s in
    let h = height-across q p s in
    let goes = height-way (line_across p q) (minus q p) in
    let far = leads-across p q in (
      s,
      record {
        positive = moved_place n m (minus q p) w (omega arith);
        between = record {
          on = at_line.decides on ∙ height-way (through p q) (minus q p) ∙ leads-along p q;
          after = by_sign (past p q m)
              (λ l. absurd (omega (arith, linear)))
              (λ z. let k = at_start.decides (omega (arith, linear)) in omega (arith, linear))
              (λ l. let k = at_start.keeps_left (omega (arith, linear)) in omega (arith, linear));
          before = (let k = at_end.keeps_left (omega (arith, linear)) in omega (arith, linear));
        };
        keeps =
            All-weaker (IsDecided m d n) (KeepsSide m s) (λ l k. record { left = k.keeps_left; right = k.keeps_right }) ls
            (All-tail (IsDecided m d n) (line_across q p) ls last);
        off = off.1 n (omega arith);
      },
    )

turned : (p q : Pt) (s : Place) → IsBetween q p s → IsBetween p q s
turned p q s b = let on = b.on in let e = height-back q p s in
    record { on = omega (arith, linear); after = b.before; before = b.after }

-- a place on an edge can be moved to strictly between its ends, across none of the lines ls, and off the lines ms
pub moved_along : (p q : Pt) (m : Place) → pos 0 <ℤ m.w → pos 0 <ℤ dot (minus q p) (minus q p) → IsOn p q m
    → (ls ms : List Line) → All (NotParallel p q) ms → (s : Place) × IsMovedAlong p q m ls ms s
moved_along p q m w long h ls ms apart =
    let sum = past-sum p q m in
    let whole = pos-mul (dot (minus q p) (minus q p)) m.w long w in
    let after = h.after in
    let before = h.before in
    by_sign (past q p m)
    (λ l. absurd (omega (arith, linear)))
    (λ z.
    let on = h.on in
    let e = height-back p q m in
    let f = past-sum q p m in
    let back = pos_from_mul m.w (dot (minus p q) (minus p q)) w (let c = *ℤ_comm (dot (minus p q) (minus p q)) m.w in omega (arith, linear)) in
    let r = ahead q p m w back (omega (arith, linear)) (omega (arith, linear)) (omega (arith, linear)) ls ms
    (All-weaker (NotParallel p q) (NotParallel q p) (λ l g k. let o = leads-back l p q in g (omega (arith, linear))) ms apart) in
    let b = r.1 in
    (r.0, record { positive = b.positive; between = turned p q r.0 b.between; keeps = b.keeps; off = b.off }))
    (λ l. ahead p q m w long h.on after l ls ms apart)

-- ---- to the side of the edge

-- a quarter turn to the left
abbrev pub aside : Pt → Pt
aside d = record { x = neg_ℤ d.y; y = d.x }

leads-aside : (l : Line) (p q : Pt) → l.b *ℤ (q.x -ℤ p.x) -ℤ l.a *ℤ (q.y -ℤ p.y) ≡ leads l (aside (minus q p))
leads-aside l p q = let l' = line_e 0 in let p' = point_e 3 in let q' = point_e 5 in
    solve (line_env l (point_env p (point_env q []))) (l'.b ⊗ (q'.x ⊖ p'.x) ⊖ l'.a ⊗ (q'.y ⊖ p'.y)) (l'.a ⊗ opp (q'.y ⊖ p'.y) ⊕ l'.b ⊗ (q'.x ⊖ p'.x)) refl

leads-ends : (l : Line) (p q : Pt) → leads l (minus q p) ≡ height l (place_of q) -ℤ height l (place_of p)
leads-ends l p q = let l' = line_e 0 in let p' = point_e 3 in let q' = point_e 5 in let d' = minus_e q' p' in
    solve (line_env l (point_env p (point_env q []))) (l'.a ⊗ d'.x ⊕ l'.b ⊗ d'.y) (height_e l' (place_of_e q') ⊖ height_e l' (place_of_e p')) refl

-- a line parallel to the edge that holds a place of its line: each height over it is that over the edge, but for a factor
pub parallel-height : (l : Line) (p q : Pt) (m : Place) → pos 0 <ℤ m.w → pos 0 <ℤ dot (minus q p) (minus q p)
    → leads l (minus q p) ≡ pos 0 → height (through p q) m ≡ pos 0 → height l m ≡ pos 0
    → (s : Place) → dot (minus q p) (minus q p) *ℤ height l s ≡ leads l (aside (minus q p)) *ℤ height (through p q) s
parallel-height l p q m w long par on at s =
    let dd = dot (minus q p) (minus q p) in
    let k = l.b *ℤ (q.x -ℤ p.x) -ℤ l.a *ℤ (q.y -ℤ p.y) in
    let e = height-past l p q m in
    let f = height-past l p q s in
    let z = zero-mul (leads l (minus q p)) (past p q m) par in
    let y = zero-mul (leads l (minus q p)) (past p q s) par in
    let x : k *ℤ height (through p q) m ≡ pos 0 = ap (λ r. k *ℤ r) on ∙ *ℤ-zero k in
    let u : dd *ℤ height l m ≡ pos 0 = ap (λ r. dd *ℤ r) at ∙ *ℤ-zero dd in
    let v : height l (place_of p) ≡ pos 0 = zero_from_mul (dd *ℤ m.w) (height l (place_of p)) (pos-mul dd m.w long w) (omega (arith, linear)) in
    let t : dd *ℤ s.w *ℤ height l (place_of p) ≡ pos 0 = ap (λ r. dd *ℤ s.w *ℤ r) v ∙ *ℤ-zero (dd *ℤ s.w) in
    let g : dd *ℤ height l s ≡ k *ℤ height (through p q) s = omega (arith, linear) in
    g ∙ ap (λ r. r *ℤ height (through p q) s) (leads-aside l p q)

-- a line that holds a place strictly between the ends of an edge, and has neither end on its right, is parallel to the edge
pub parallel_from_ends : (l : Line) (p q : Pt) (m : Place) → IsBetween p q m → height l m ≡ pos 0
    → pos 0 ≤ℤ height l (place_of p) → pos 0 ≤ℤ height l (place_of q) → leads l (minus q p) ≡ pos 0
parallel_from_ends l p q m b at lp lq =
    let dd = dot (minus q p) (minus q p) in
    let k = l.b *ℤ (q.x -ℤ p.x) -ℤ l.a *ℤ (q.y -ℤ p.y) in
    let after = b.after in
    let before = b.before in
    let e = height-ends l p q m in
    let x : k *ℤ height (through p q) m ≡ pos 0 = ap (λ r. k *ℤ r) b.on ∙ *ℤ-zero k in
    let u : dd *ℤ height l m ≡ pos 0 = ap (λ r. dd *ℤ r) at ∙ *ℤ-zero dd in
    let first = nonneg-mul (past p q m) (height l (place_of q)) (omega (arith, linear)) lq in
    let second = nonneg-mul (past q p m) (height l (place_of p)) (omega (arith, linear)) lp in
    let zeros = sum_zero (past p q m *ℤ height l (place_of q)) (past q p m *ℤ height l (place_of p)) first second (omega (arith, linear)) in
    let q0 = zero_from_mul (past p q m) (height l (place_of q)) after zeros.0 in
    let p0 = zero_from_mul (past q p m) (height l (place_of p)) before zeros.1 in
    let f = leads-ends l p q in
    omega (arith, linear)

-- and the side of the edge is its left where some point is left of it and not right of the edge
pub left_aside : (l : Line) (p q v : Pt) (m : Place) → pos 0 <ℤ m.w → pos 0 <ℤ dot (minus q p) (minus q p)
    → leads l (minus q p) ≡ pos 0 → height (through p q) m ≡ pos 0 → height l m ≡ pos 0
    → pos 0 <ℤ height l (place_of v) → pos 0 ≤ℤ height (through p q) (place_of v) → pos 0 <ℤ leads l (aside (minus q p))
left_aside l p q v m w long par on at left side =
    let e = parallel-height l p q m w long par on at (place_of v) in
    let p1 = pos-mul (dot (minus q p) (minus q p)) (height l (place_of v)) long left in
    by_lt_z (pos 0) (leads l (aside (minus q p)))
    (λ g. g)
    (λ g.
    let n = nonneg-mul_nonpos (height (through p q) (place_of v)) (leads l (aside (minus q p))) side g in
    let c = *ℤ_comm (leads l (aside (minus q p))) (height (through p q) (place_of v)) in
    absurd (omega (arith, linear)))

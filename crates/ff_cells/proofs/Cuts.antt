-- The faces over a cut of a slab are those that its lower bars have opened and not closed.
use Rattle.std.proofs.Common.{ℕ, ◌≡◌, ◌≢◌, ◌⊎◌, inl, inr, arith, refl, sym, ap, subst, ◌∙◌, pos, ◌+ℤ◌, ◌*ℤ◌, ◌<ℤ◌, ◌≤ℤ◌, [], ◌∷◌, true, false, if◌then◌else◌}
use lib.IntN.{neg_ℤ, ◌-ℤ◌}
use Rattle.std.proofs.lemmas.Int.{ints}
use Rattle.ff_whole.proofs.Ring.{var, num, ◌⊕◌, ◌⊖◌, ◌⊗◌, opp, solve}
use Rattle.ff_whole.proofs.Signs.{linear, pos-mul, nonneg-mul, pos_from_mul}
use Rattle.ff_whole.specs.Places.{height, through as line_through}
use Rattle.ff_whole.specs.declared.lines.Line.{Line}
use Rattle.ff_whole.specs.declared.places.Place.{Place}
use Rattle.ff_whole.proofs.Formulas.{line_e, place_e, line_env, place_env, height_e}
use Rattle.ff_cells.specs.declared.bars.Bar.{Bar}
use Rattle.ff_cells.specs.Gap.{run, spot, opposite}
use Rattle.ff_cells.specs.Sheet.{face_line, IsOver, Spans, IsInside, AreFaceBars, IsSlab, IsCut, IsOpen}
use Rattle.ff_cells.proofs.Gaps.{run_e}
use Rattle.ff_cells.proofs.Between.{Spanned, between_open}

pub run-sum : (p q r : Place) → q.w *ℤ run p r ≡ r.w *ℤ run p q +ℤ p.w *ℤ run q r
run-sum p q r =
    let p' = place_e 0 in let q' = place_e 3 in let r' = place_e 6 in
    solve (place_env p (place_env q (place_env r []))) (q'.w ⊗ run_e p' r')
    (r'.w ⊗ run_e p' q' ⊕ p'.w ⊗ run_e q' r') refl

pub run-opposite : (p q : Place) → run q p ≡ neg_ℤ (run p q)
run-opposite p q =
    let p' = place_e 0 in let q' = place_e 3 in
    solve (place_env p (place_env q [])) (run_e q' p') (opp (run_e p' q')) refl

pub run-trans_last : (p q r : Place) → pos 0 <ℤ p.w → pos 0 <ℤ q.w → pos 0 <ℤ r.w → pos 0 ≤ℤ run p q
    → pos 0 <ℤ run q r → pos 0 <ℤ run p r
run-trans_last p q r hp hq hr f g =
    let e = run-sum p q r in
    let u = nonneg-mul r.w (run p q) (omega (arith, linear)) f in
    let v = pos-mul p.w (run q r) hp g in
    pos_from_mul q.w (run p r) hq (omega (arith, linear))

pub run-trans_first : (p q r : Place) → pos 0 <ℤ p.w → pos 0 <ℤ q.w → pos 0 <ℤ r.w → pos 0 <ℤ run p q
    → pos 0 ≤ℤ run q r → pos 0 <ℤ run p r
run-trans_first p q r hp hq hr f g =
    let e = run-sum p q r in
    let u = pos-mul r.w (run p q) hr f in
    let v = nonneg-mul p.w (run q r) (omega (arith, linear)) g in
    pos_from_mul q.w (run p r) hq (omega (arith, linear))

one_positive : pos 0 <ℤ pos 1
one_positive = omega (arith, ints)

pub height-opposite : (l : Line) (p : Place) → height (opposite l) p ≡ neg_ℤ (height l p)
height-opposite l p =
    let l' = line_e 0 in let p' = place_e 3 in
    solve (line_env l (place_env p [])) (opp l'.a ⊗ p'.x ⊕ opp l'.b ⊗ p'.y ⊖ opp l'.c ⊗ p'.w)
    (opp (height_e l' p')) refl

module _ {Has : Bar → Type 0} {left right : Place} (slab : IsSlab Has left right) (p : Place)
    (positive : pos 0 <ℤ p.w) (after : pos 0 <ℤ run left p) (before : pos 0 <ℤ run p right) where
  -- a bar that spans the slab goes over the place
  pub over_at : (b : Bar) → Spans left right b → IsOver b p
  over_at b s = record {
    after = run-trans_last (spot b.lo) left p one_positive slab.left_positive positive s.after after;
    before = run-trans_first p right (spot b.hi) positive slab.right_positive one_positive before s.before;
  }

  -- SPAN
  pub spans_at : (b : Bar) → Has b → IsOver b p → Spans left right b
  spans_at b h o = by_cases (slab.quiet b h)
    where
      by_cases : Spans left right b ⊎ ((pos 0 ≤ℤ run (spot b.hi) left) ⊎ (pos 0 ≤ℤ run right (spot b.lo)))
          → Spans left right b
      by_cases (inl s) = s
      by_cases (inr (inl e)) =
          let far = run-trans_last (spot b.hi) left p one_positive slab.left_positive positive e after in
          let back = run-opposite p (spot b.hi) in let far_before = o.before in
          absurd (omega (arith, linear))
      by_cases (inr (inr e)) =
          let far = run-trans_first p right (spot b.lo) positive slab.right_positive one_positive before e in
          let back = run-opposite (spot b.lo) p in let far_after = o.after in
          absurd (omega (arith, linear))

  -- no end of a bar is over or under the place
  pub off_answers_at : (b : Bar) → Has b → (run (spot b.lo) p ≢ pos 0) × (run p (spot b.hi) ≢ pos 0)
  off_answers_at b h = by_cases (slab.quiet b h)
    where
      -- the right end is further right
      wider : pos 0 <ℤ run (spot b.lo) (spot b.hi)
      wider = let goes = b.ok.goes in let e : run (spot b.lo) (spot b.hi) ≡ b.hi.x -ℤ b.lo.x = solve
          (b.lo.x ∷ b.hi.x ∷ []) (var 1 ⊗ num (pos 1) ⊖ var 0 ⊗ num (pos 1)) (var 1 ⊖ var 0) refl in
          omega (arith, linear)

      by_cases : Spans left right b ⊎ ((pos 0 ≤ℤ run (spot b.hi) left) ⊎ (pos 0 ≤ℤ run right (spot b.lo)))
          → (run (spot b.lo) p ≢ pos 0) × (run p (spot b.hi) ≢ pos 0)
      by_cases (inl s) =
          let o = over_at b s in let u = o.after in let v = o.before in
          (λ z. omega (arith, linear), λ z. omega (arith, linear))
      by_cases (inr (inl e)) =
          let far = run-trans_last (spot b.hi) left p one_positive slab.left_positive positive e after in
          let back = run-opposite p (spot b.hi) in
          let w = wider in
          let further = run-trans_first (spot b.lo) (spot b.hi) p one_positive one_positive positive wider
          (omega (arith, linear)) in
          (λ z. omega (arith, linear), λ z. omega (arith, linear))
      by_cases (inr (inr e)) =
          let far = run-trans_first p right (spot b.lo) positive slab.right_positive one_positive before e in
          let back = run-opposite (spot b.lo) p in
          let w = wider in
          let further = run-trans_first p (spot b.lo) (spot b.hi) positive one_positive one_positive far
          (omega (arith, linear)) in
          (λ z. omega (arith, linear), λ z. omega (arith, linear))

module _ {Has Low High : Bar → Type 0} {Step : ℕ → Line → Type 0} {left right p : Place}
    (sheet : AreFaceBars Has Step) (slab : IsSlab Has left right)
    (cut : IsCut Has Low High left right p) where
  pub over_of_spans : (b : Bar) → Spans left right b → IsOver b p
  over_of_spans b s = over_at slab p cut.positive cut.after cut.before b s

  pub spans_of_over : (b : Bar) → Has b → IsOver b p → Spans left right b
  spans_of_over b h o = spans_at slab p cut.positive cut.after cut.before b h o

  off_answers : (b : Bar) → Has b → (run (spot b.lo) p ≢ pos 0) × (run p (spot b.hi) ≢ pos 0)
  off_answers b h = off_answers_at slab p cut.positive cut.after cut.before b h

  over_line : (b : Bar) → Low b → pos 0 <ℤ height (line_through b.lo b.hi) p
  over_line b l = subst (λ k. pos 0 <ℤ height k p) b.ok.through (cut.low b l)

  under_line : (b : Bar) → High b → height (line_through b.lo b.hi) p <ℤ pos 0
  under_line b h = subst (λ k. height k p <ℤ pos 0) b.ok.through (cut.high b h)

  lower_line : (b : Bar) → b.lower ≡ true → face_line b ≡ b.line
  lower_line b e = ap (λ t. if t then b.line else opposite b.line) e

  upper_line : (b : Bar) → b.lower ≡ false → face_line b ≡ opposite b.line
  upper_line b e = ap (λ t. if t then b.line else opposite b.line) e

  spanned : (b : Bar) (n : ℕ) (f : Line) → Has b → Spans left right b → b.face ≡ n → Step n f
      → Spanned b.lo b.hi f p
  spanned b n f h s e st =
      let c = sheet.convex b f h (subst (λ m. Step m f) (sym e) st) in
      let o = over_of_spans b s in
      let u = o.after in let v = o.before in
      record {
        goes = b.ok.goes;
        first = c.0;
        last = c.1;
        after = omega (arith, linear);
        before = omega (arith, linear);
      }

  -- GAP-SET: what is open is over the place
  pub inside_of_open : (n : ℕ) → IsOpen Low n → IsInside Step n p
  inside_of_open n o = (
    (
      face_line o.by,
      subst (λ m. Step m (face_line o.by)) o.by_face
          (sheet.step o.by (cut.low_has o.by o.by_low)),
    ),
    λ f st. closed f st
        (sheet.closes o.by p cut.positive (λ b h e. off_answers b h) (cut.low_has o.by o.by_low) o.by_lower
        (over_of_spans o.by (cut.low_spans o.by o.by_low))),
  )
    where
      closed : (f : Line) → Step n f → (u : Bar) × Has u × (u.lower ≡ false) × (u.face ≡ o.by.face)
          × IsOver u p → pos 0 <ℤ height f p
      closed f st (u, h, upper, same, over) = side (cut.each u h (spans_of_over u h over))
        where
          side : Low u ⊎ High u → pos 0 <ℤ height f p
          side (inl l) = absurd (o.none u l upper (same ∙ o.by_face))
          side (inr g) =
              let at = over_of_spans o.by (cut.low_spans o.by o.by_low) in
              between_open o.by.lo o.by.hi u.lo u.hi f p
              (spanned o.by n f (cut.low_has o.by o.by_low) (cut.low_spans o.by o.by_low) o.by_face st)
              (spanned u n f h (cut.high_spans u g) (same ∙ o.by_face) st)
              at.after at.before (over_line o.by o.by_low) (under_line u g) (sheet.way n f st)

  -- and what is over it is open
  pub open_of_inside : (n : ℕ) → IsInside Step n p → IsOpen Low n
  open_of_inside n inside = found (sheet.around n p cut.positive inside (λ b h e. off_answers b h))
    where
      none : (u : Bar) → Low u → u.lower ≡ false → u.face ≡ n → ⊥
      none u l upper e =
          let st : Step n (opposite u.line) = subst (λ m. Step m (opposite u.line)) e
          (subst (λ k. Step u.face k) (upper_line u upper) (sheet.step u (cut.low_has u l))) in
          let above = inside.1 (opposite u.line) st in
          let low = cut.low u l in
          let flip = height-opposite u.line p in
          omega (arith, linear)

      found : (i : Bar) × Has i × (i.lower ≡ true) × (i.face ≡ n) × IsOver i p → IsOpen Low n
      found (i, h, lower, e, over) = side (cut.each i h (spans_of_over i h over))
        where
          side : Low i ⊎ High i → IsOpen Low n
          side (inl l) = record { by = i; by_low = l; by_lower = lower; by_face = e; none = none }
          side (inr g) =
              let st : Step n i.line = subst (λ m. Step m i.line) e
              (subst (λ k. Step i.face k) (lower_line i lower) (sheet.step i h)) in
              let above = inside.1 i.line st in
              let high = cut.high i g in
              absurd (omega (arith, linear))

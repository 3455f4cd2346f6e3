-- Laws of two lines that rise in x, and of a slab between two places.
use Rattle.std.proofs.Common.{◌≡◌, ◌≢◌, ◌⊎◌, inl, inr, subst, arith, refl, sym, ap, ◌∙◌, pos, ◌+ℤ◌, ◌*ℤ◌, ◌<ℤ◌, ◌≤ℤ◌, [], ◌∷◌}
use lib.IntN.{neg_ℤ, ◌-ℤ◌, *ℤ-zero, zero-*ℤ}
use Rattle.ff_whole.proofs.Ring.{Expr, var, num, ◌⊕◌, ◌⊖◌, ◌⊗◌, opp, solve, solve_from}
use Rattle.ff_whole.proofs.Signs.{linear, by_sign, pos-mul, nonneg-mul, pos-mul_neg, neg-mul_pos, pos_from_mul, neg_from_mul, nonneg_from_mul, zero_from_mul, nonneg-mul_nonpos}
use Rattle.ff_whole.specs.Places.{height, slant}
use Rattle.ff_whole.specs.declared.lines.Line.{Line}
use Rattle.ff_whole.specs.declared.places.Place.{Place}
use Rattle.ff_whole.proofs.Formulas.{LineE, PlaceE, line_e, place_e, line_env, place_env, height_e, slant_e}
use Rattle.ff_cells.specs.Gap.{gap, run}

abbrev pub rise_e : LineE → PlaceE → Expr
rise_e l p = l.c ⊗ p.w ⊖ l.a ⊗ p.x

abbrev pub gap_e : LineE → LineE → PlaceE → Expr
gap_e k l p = rise_e l p ⊗ k.b ⊖ rise_e k p ⊗ l.b

abbrev pub run_e : PlaceE → PlaceE → Expr
run_e p q = q.x ⊗ p.w ⊖ p.x ⊗ q.w

-- a gap is the difference of the heights
pub gap-height : (k l : Line) (p : Place) → l.b *ℤ height k p ≡ k.b *ℤ height l p +ℤ gap k l p
gap-height k l p =
    let k' = line_e 0 in let l' = line_e 3 in let p' = place_e 6 in
    solve (line_env k (line_env l (place_env p []))) (l'.b ⊗ height_e k' p')
    (k'.b ⊗ height_e l' p' ⊕ gap_e k' l' p') refl

pub gap-opposite : (k l : Line) (p : Place) → gap l k p ≡ neg_ℤ (gap k l p)
gap-opposite k l p =
    let k' = line_e 0 in let l' = line_e 3 in let p' = place_e 6 in
    solve (line_env k (line_env l (place_env p []))) (gap_e l' k' p') (opp (gap_e k' l' p')) refl

-- gaps add up
pub gap-sum : (k l m : Line) (p : Place) → l.b *ℤ gap k m p ≡ m.b *ℤ gap k l p +ℤ k.b *ℤ gap l m p
gap-sum k l m p =
    let k' = line_e 0 in let l' = line_e 3 in let m' = line_e 6 in let p' = place_e 9 in
    solve (line_env k (line_env l (line_env m (place_env p [])))) (l'.b ⊗ gap_e k' m' p')
    (m'.b ⊗ gap_e k' l' p' ⊕ k'.b ⊗ gap_e l' m' p') refl

pub gap-trans : (k l m : Line) (p : Place) → pos 0 <ℤ k.b → pos 0 <ℤ l.b → pos 0 <ℤ m.b → pos 0 ≤ℤ gap k l p
    → pos 0 ≤ℤ gap l m p → pos 0 ≤ℤ gap k m p
gap-trans k l m p hk hl hm f g =
    let e = gap-sum k l m p in
    let u = nonneg-mul m.b (gap k l p) (omega (arith, linear)) f in
    let v = nonneg-mul k.b (gap l m p) (omega (arith, linear)) g in
    nonneg_from_mul l.b (gap k m p) hl (omega (arith, linear))

-- a gap is linear in x
pub gap-run : (k l : Line) (left right p : Place) → run left right *ℤ gap k l p ≡ run p right *ℤ gap k l left
    +ℤ run left p *ℤ gap k l right
gap-run k l left right p =
    let k' = line_e 0 in let l' = line_e 3 in let q' = place_e 6 in let r' = place_e 9 in
    let p' = place_e 12 in
    solve (line_env k (line_env l (place_env left (place_env right (place_env p [])))))
    (run_e q' r' ⊗ gap_e k' l' p') (run_e p' r' ⊗ gap_e k' l' q' ⊕ run_e q' p' ⊗ gap_e k' l' r') refl

-- a gap that closes at neither border is open between them
pub gap-inside : (k l : Line) (left right p : Place) → pos 0 <ℤ run left right → pos 0 ≤ℤ run left p
    → pos 0 ≤ℤ run p right → pos 0 ≤ℤ gap k l left → pos 0 ≤ℤ gap k l right → pos 0 ≤ℤ gap k l p
gap-inside k l left right p h i j f g =
    let e = gap-run k l left right p in
    let u = nonneg-mul (run p right) (gap k l left) j f in
    let v = nonneg-mul (run left p) (gap k l right) i g in
    nonneg_from_mul (run left right) (gap k l p) h (omega (arith, linear))

-- over a line means over each line below it
pub over_lower : (k l : Line) (p : Place) → pos 0 <ℤ k.b → pos 0 <ℤ l.b → pos 0 ≤ℤ gap k l p
    → pos 0 <ℤ height l p → pos 0 <ℤ height k p
over_lower k l p hk hl g h =
    let e = gap-height k l p in
    let u = pos-mul k.b (height l p) hk h in
    pos_from_mul l.b (height k p) hl (omega (arith, linear))

pub not_under_lower : (k l : Line) (p : Place) → pos 0 <ℤ k.b → pos 0 <ℤ l.b → pos 0 ≤ℤ gap k l p
    → pos 0 ≤ℤ height l p → pos 0 ≤ℤ height k p
not_under_lower k l p hk hl g h =
    let e = gap-height k l p in
    let u = nonneg-mul k.b (height l p) (omega (arith, linear)) h in
    nonneg_from_mul l.b (height k p) hl (omega (arith, linear))

pub under_upper : (k l : Line) (p : Place) → pos 0 <ℤ k.b → pos 0 <ℤ l.b → pos 0 ≤ℤ gap k l p
    → height k p <ℤ pos 0 → height l p <ℤ pos 0
under_upper k l p hk hl g h =
    let e = gap-height k l p in
    let u = pos-mul_neg l.b (height k p) hl h in
    neg_from_mul k.b (height l p) hk (omega (arith, linear))

pub not_over_upper : (k l : Line) (p : Place) → pos 0 <ℤ k.b → pos 0 <ℤ l.b → pos 0 ≤ℤ gap k l p
    → height k p ≤ℤ pos 0 → height l p ≤ℤ pos 0
not_over_upper k l p hk hl g h =
    let e = gap-height k l p in
    let u = nonneg-mul_nonpos l.b (height k p) (omega (arith, linear)) h in
    by_sign (height l p) (λ n. omega (arith, linear)) (λ z. omega (arith, linear))
    (λ n. let v = pos-mul k.b (height l p) hk n in absurd (omega (arith, linear)))

-- a place on both lines has no gap
pub gap-on_both : (k l : Line) (p : Place) → height k p ≡ pos 0 → height l p ≡ pos 0 → gap k l p ≡ pos 0
gap-on_both k l p f g =
    let k' = line_e 0 in let l' = line_e 3 in let p' = place_e 6 in
    solve_from (line_env k (line_env l (place_env p []))) (record { by = l'.b; zero = height_e k' p' } ∷
    record { by = opp k'.b; zero = height_e l' p' } ∷ []) (gap_e k' l' p') (num (pos 0)) refl (f, (g, tt))

-- the slant turns two gaps into each other
pub gap-slant : (k l : Line) (p q : Place) → p.w *ℤ gap k l q -ℤ q.w *ℤ gap k l p ≡ run p q *ℤ slant k l
gap-slant k l p q =
    let k' = line_e 0 in let l' = line_e 3 in let p' = place_e 6 in let q' = place_e 9 in
    solve (line_env k (line_env l (place_env p (place_env q []))))
    (p'.w ⊗ gap_e k' l' q' ⊖ q'.w ⊗ gap_e k' l' p') (run_e p' q' ⊗ slant_e k' l') refl

-- ---- what happens between two borders

-- NC: where the gap closes between the borders, there is a place on both lines
pub record Crosses (k l : Line) (left right m : Place) : Type 0 where
  pub positive : pos 0 <ℤ m.w
  pub on_k : height k m ≡ pos 0
  pub on_l : height l m ≡ pos 0
  pub after : pos 0 <ℤ run left m
  pub before : pos 0 <ℤ run m right
  pub apart : slant k l ≢ pos 0

abbrev pub crossing_of : Line → Line → Place → Place → Place
crossing_of k l left right =
    let g = gap k l left in let h = gap k l right in
    record {
      x = k.b *ℤ (g *ℤ right.x -ℤ h *ℤ left.x);
      y = k.c *ℤ (g *ℤ right.w -ℤ h *ℤ left.w) -ℤ k.a *ℤ
          (g *ℤ right.x -ℤ h *ℤ left.x);
      w = k.b *ℤ (g *ℤ right.w -ℤ h *ℤ left.w);
    }

pub crossed : (k l : Line) (left right : Place) → pos 0 <ℤ k.b → pos 0 <ℤ left.w → pos 0 <ℤ right.w
    → pos 0 <ℤ run left right → pos 0 <ℤ gap k l left → gap k l right <ℤ pos 0
    → Crosses k l left right (crossing_of k l left right)
crossed k l left right hk hl hr wide f g = record {
  positive = weight;
  on_k = on_k;
  on_l = on_l;
  after = after;
  before = before;
  apart = apart;
}
  where
    weight : pos 0 <ℤ (k.b *ℤ (gap k l left *ℤ right.w -ℤ gap k l right *ℤ left.w))
    weight =
        let u = pos-mul (gap k l left) right.w f hr in
        let v = neg-mul_pos (gap k l right) left.w g hl in
        pos-mul k.b (gap k l left *ℤ right.w -ℤ gap k l right *ℤ left.w) hk (omega (arith, linear))

    on_k : height k (crossing_of k l left right) ≡ pos 0
    on_k =
        let g = gap k l left in let h = gap k l right in
        solve (line_env k (place_env left (place_env right (g ∷ h ∷ []))))
        (var 0 ⊗ (var 1 ⊗ (var 9 ⊗ var 6 ⊖ var 10 ⊗ var 3)) ⊕ var 1 ⊗
        (var 2 ⊗ (var 9 ⊗ var 8 ⊖ var 10 ⊗ var 5) ⊖ var 0 ⊗ (var 9 ⊗ var 6 ⊖ var 10 ⊗ var 3)) ⊖ var 2 ⊗
        (var 1 ⊗ (var 9 ⊗ var 8 ⊖ var 10 ⊗ var 5)))
        (num (pos 0)) refl

    on_l : height l (crossing_of k l left right) ≡ pos 0
    on_l =
        let k' = line_e 0 in let l' = line_e 3 in let q' = place_e 6 in let r' = place_e 9 in
        let g' = gap_e k' l' q' in let h' = gap_e k' l' r' in
        let x' = g' ⊗ r'.x ⊖ h' ⊗ q'.x in let w' = g' ⊗ r'.w ⊖ h' ⊗ q'.w in
        solve (line_env k (line_env l (place_env left (place_env right []))))
        (l'.a ⊗ (k'.b ⊗ x') ⊕ l'.b ⊗ (k'.c ⊗ w' ⊖ k'.a ⊗ x') ⊖ l'.c ⊗ (k'.b ⊗ w')) (num (pos 0)) refl

    after : pos 0 <ℤ run left (crossing_of k l left right)
    after =
        let g1 = gap k l left in let h1 = gap k l right in
        let e : run left (crossing_of k l left right) ≡ k.b *ℤ (g1 *ℤ run left right) =
        solve (k.b ∷ g1 ∷ h1 ∷ place_env left (place_env right []))
        ((var 0 ⊗ (var 1 ⊗ var 6 ⊖ var 2 ⊗ var 3)) ⊗ var 5 ⊖ var 3 ⊗
        (var 0 ⊗ (var 1 ⊗ var 8 ⊖ var 2 ⊗ var 5)))
        (var 0 ⊗ (var 1 ⊗ (var 6 ⊗ var 5 ⊖ var 3 ⊗ var 8))) refl in
        subst (λ z. pos 0 <ℤ z) (sym e) (pos-mul k.b (g1 *ℤ run left right) hk
        (pos-mul g1 (run left right) f wide))

    before : pos 0 <ℤ run (crossing_of k l left right) right
    before =
        let g1 = gap k l left in let h1 = gap k l right in
        let e : run (crossing_of k l left right) right ≡ k.b *ℤ (neg_ℤ h1 *ℤ run left right) =
        solve (k.b ∷ g1 ∷ h1 ∷ place_env left (place_env right []))
        (var 6 ⊗ (var 0 ⊗ (var 1 ⊗ var 8 ⊖ var 2 ⊗ var 5)) ⊖ (var 0 ⊗ (var 1 ⊗ var 6 ⊖ var 2 ⊗ var 3)) ⊗ var
        8)
        (var 0 ⊗ (opp (var 2) ⊗ (var 6 ⊗ var 5 ⊖ var 3 ⊗ var 8))) refl in
        let n : pos 0 <ℤ neg_ℤ h1 = omega (arith, linear) in
        subst (λ z. pos 0 <ℤ z) (sym e) (pos-mul k.b (neg_ℤ h1 *ℤ run left right) hk
        (pos-mul (neg_ℤ h1) (run left right) n wide))

    apart : slant k l ≢ pos 0
    apart z =
        let e = gap-slant k l left right in
        let u = pos-mul_neg left.w (gap k l right) hl g in
        let v = pos-mul right.w (gap k l left) hr f in
        let m : run left right *ℤ slant k l ≡ pos 0 = ap (λ t. run left right *ℤ t) z
        ∙ *ℤ-zero (run left right) in
        omega (arith, linear)

-- a gap that is open at a border is open at each place between
pub gap-open : (k l : Line) (left right p : Place) → pos 0 <ℤ run left right → pos 0 <ℤ run left p
    → pos 0 <ℤ run p right → pos 0 ≤ℤ gap k l left → pos 0 ≤ℤ gap k l right → (pos 0 <ℤ gap k l left)
    ⊎ (pos 0 <ℤ gap k l right) → pos 0 <ℤ gap k l p
gap-open k l left right p h i j f g o =
    let e = gap-run k l left right p in
    let i' : pos 0 ≤ℤ run left p = omega (arith, linear) in
    let j' : pos 0 ≤ℤ run p right = omega (arith, linear) in
    let u = nonneg-mul (run p right) (gap k l left) j' f in
    let v = nonneg-mul (run left p) (gap k l right) i' g in
    pos_from_mul (run left right) (gap k l p) h (elim o [
      | inl s ↦ let t = pos-mul (run p right) (gap k l left) j s in omega (arith, linear)
      | inr s ↦ let t = pos-mul (run left p) (gap k l right) i s in omega (arith, linear)
    ])

-- lines that don't cross between the borders, and have a place there on both, are parallel
pub no_crossing : (k l : Line) (left right m : Place) → pos 0 <ℤ run left right → pos 0 <ℤ run left m
    → pos 0 <ℤ run m right → pos 0 ≤ℤ gap k l left → pos 0 ≤ℤ gap k l right → height k m ≡ pos 0
    → height l m ≡ pos 0 → slant k l ≡ pos 0
no_crossing k l left right m h i j f g on_k on_l =
    let none = gap-on_both k l m on_k on_l in
    let at_left : gap k l left ≡ pos 0 = by_sign (gap k l left) (λ n. absurd (omega (arith, linear))) (λ z. z)
    (λ n. let o = gap-open k l left right m h i j f g (inl n) in absurd (omega (arith, linear))) in
    let at_right : gap k l right ≡ pos 0 = by_sign (gap k l right) (λ n. absurd (omega (arith, linear)))
    (λ z. z) (λ n. let o = gap-open k l left right m h i j f g (inr n) in
    absurd (omega (arith, linear))) in
    let e = gap-slant k l left right in
    let u : left.w *ℤ gap k l right ≡ pos 0 = ap (λ t. left.w *ℤ t) at_right ∙ *ℤ-zero left.w in
    let v : right.w *ℤ gap k l left ≡ pos 0 = ap (λ t. right.w *ℤ t) at_left ∙ *ℤ-zero right.w in
    zero_from_mul (run left right) (slant k l) h (omega (arith, linear))

-- the gap at a place with the same x
pub gap-same_x : (k l : Line) (p q : Place) → run p q ≡ pos 0 → p.w *ℤ gap k l q ≡ q.w *ℤ gap k l p
gap-same_x k l p q h =
    let e = gap-slant k l p q in
    let z : run p q *ℤ slant k l ≡ pos 0 = ap (λ t. t *ℤ slant k l) h ∙ zero-*ℤ (slant k l) in
    omega (arith, linear)

-- The middle of two places: on an edge and inside a face where both are, and strictly between the ends where
-- they differ.
use Rattle.std.proofs.Common.{◌≡◌, ◌≢◌, ℕ, ◌<◌, refl, sym, ◌∙◌, subst, arith, pos, ◌+ℤ◌, ◌-ℤ◌, ◌*ℤ◌, ◌<ℤ◌, false, IsTrue, [], ◌∷◌, length}
use lib.IntN.{neg_ℤ}
use Rattle.std.specs.Ordering.{int_eq}
use Rattle.std.specs.Prelude.{int_lt}
use Rattle.std.specs.List.{list_all}
use Rattle.std.proofs.lemmas.Int.{ints}
use Rattle.std.proofs.lemmas.Bool.{false≢true}
use Rattle.std.proofs.lemmas.Bool.Decides.{Decides-int_eq}
use Rattle.ff_basics.proofs.Lists.{all_from}
use Rattle.ff_basics.proofs.Tests.{both_of, not_true, of_both, to_lt}
use Rattle.ff_whole.specs.declared.points.Pt.{Pt}
use Rattle.ff_whole.specs.declared.lines.Line.{Line}
use Rattle.ff_whole.specs.declared.places.Place.{Place}
use Rattle.ff_whole.specs.Points.{minus, dot}
use Rattle.ff_whole.specs.Places.{IsPlace, same_place, blend, through, height, past, slant}
use Rattle.ff_whole.proofs.Formulas.{LineE, point_e, point_env, place_e, place_env, minus_e, dot_e, through_e, height_e, slant_e}
use Rattle.ff_whole.proofs.Ring.{num, ◌⊕◌, ◌⊖◌, ◌⊗◌, opp, solve, solve_from}
use Rattle.ff_whole.proofs.Laws.{one-*ℤ}
use Rattle.ff_whole.proofs.Signs.{linear, by_sign, pos-mul, sum_zero}
use Rattle.ff_whole.proofs.Turns.{height-back}
use Rattle.ff_whole.proofs.Offsets.{line_across, height-across}
use Rattle.ff_whole.proofs.OnEdges.{IsOn}
use Rattle.ff_whole.proofs.Combinations.{height-combine, left-combine}
use Rattle.ff_whole.proofs.SharedPlaces.{SamePlace, one_place}
use Rattle.ff_whole.proofs.Alongs.{leads, IsBetween, NotParallel}
use Rattle.ff_types.specs.Faces.{ring_at}
use Rattle.ff_types.specs.Rings.{Goes}
use Rattle.ff_types.specs.Sheets.{Sheet, is_face}
use Rattle.ff_types.specs.Inside.{steps, depth, is_inside}
use Rattle.ff_types.proofs.FewFaces.{inside_face}
use Rattle.ff_types.proofs.FoldedOverlap.{step_goes, inside_step}
use Rattle.ff_borders.proofs.Tests.{is_below}
use Rattle.ff_borders.proofs.Steps.{step_line, depth-line}

-- ---- one place or two

pub same_from : (s t : Place) → SamePlace s t → IsTrue (same_place s t)
same_from s t e = of_both _ _ ((Decides-int_eq (s.x *ℤ t.w) (t.x *ℤ s.w)).1 e.0)
    ((Decides-int_eq (s.y *ℤ t.w) (t.y *ℤ s.w)).1 e.1)

pub to_same : (s t : Place) → IsTrue (same_place s t) → SamePlace s t
to_same s t u =
    let b = both_of (int_eq (s.x *ℤ t.w) (t.x *ℤ s.w)) (int_eq (s.y *ℤ t.w) (t.y *ℤ s.w)) u in
    ((Decides-int_eq (s.x *ℤ t.w) (t.x *ℤ s.w)).0 b.0, (Decides-int_eq (s.y *ℤ t.w) (t.y *ℤ s.w)).0 b.1)

-- two lines that hold two different places are parallel
pub parallel_of_two : (k l : Line) (s t : Place) → same_place s t ≡ false → height k s ≡ pos 0
    → height l s ≡ pos 0 → height k t ≡ pos 0 → height l t ≡ pos 0 → slant k l ≡ pos 0
parallel_of_two k l s t differ ks ls kt lt = by_sign (slant k l)
    (λ m. absurd (false≢true (sym differ
    ∙ same_from s t (one_place k l s t (λ z. omega (arith, linear)) ks ls kt lt))))
    (λ z. z)
    (λ m. absurd (false≢true (sym differ
    ∙ same_from s t (one_place k l s t (λ z. omega (arith, linear)) ks ls kt lt))))

-- the line across the way from p to q through a place
abbrev pub across_place : Pt → Pt → Place → Line
across_place p q s = record {
  a = (q.x -ℤ p.x) *ℤ s.w;
  b = (q.y -ℤ p.y) *ℤ s.w;
  c = (q.x -ℤ p.x) *ℤ s.x
      +ℤ (q.y -ℤ p.y) *ℤ s.y;
}

pub across_place_apart : (p q : Pt) (s : Place) → IsPlace s → pos 0 <ℤ dot (minus q p) (minus q p)
    → NotParallel p q (across_place p q s)
across_place_apart p q s positive long z =
    let p' = point_e 0 in let q' = point_e 2 in let s' = place_e 4 in
    let e : leads (across_place p q s) (minus q p) ≡ s.w *ℤ dot (minus q p) (minus q p) =
    solve (point_env p (point_env q (place_env s [])))
    (((q'.x ⊖ p'.x) ⊗ s'.w) ⊗ (q'.x ⊖ p'.x) ⊕ ((q'.y ⊖ p'.y) ⊗ s'.w) ⊗ (q'.y ⊖ p'.y))
    (s'.w ⊗ dot_e (minus_e q' p') (minus_e q' p')) refl in
    let m = pos-mul s.w (dot (minus q p) (minus q p)) positive long in
    omega (arith, linear)

-- a place off it is another one
pub other_place : (p q : Pt) (s t : Place) → height (across_place p q s) t ≢ pos 0 → same_place s t ≡ false
other_place p q s t off = not_true (same_place s t) (λ u. off (held (to_same s t u))) where
  held : SamePlace s t → height (across_place p q s) t ≡ pos 0
  held e =
      let p' = point_e 0 in let q' = point_e 2 in let s' = place_e 4 in let t' = place_e 7 in
      let e0 = e.0 in
      let e1 = e.1 in
      let x : s.x *ℤ t.w -ℤ t.x *ℤ s.w ≡ pos 0 = omega (arith, linear) in
      let y : s.y *ℤ t.w -ℤ t.y *ℤ s.w ≡ pos 0 = omega (arith, linear) in
      let l' : LineE = record {
        a = (q'.x ⊖ p'.x) ⊗ s'.w;
        b = (q'.y ⊖ p'.y) ⊗ s'.w;
        c = (q'.x ⊖ p'.x) ⊗ s'.x
            ⊕ (q'.y ⊖ p'.y) ⊗ s'.y;
      } in
      solve_from (point_env p (point_env q (place_env s (place_env t []))))
      (record { by = opp (q'.x ⊖ p'.x); zero = s'.x ⊗ t'.w ⊖ t'.x ⊗ s'.w } ∷
      record { by = opp (q'.y ⊖ p'.y); zero = s'.y ⊗ t'.w ⊖ t'.y ⊗ s'.w } ∷ [])
      (height_e l' t') (num (pos 0)) refl (x, (y, tt))

-- ---- the middle

abbrev pub middle : Place → Place → Place
middle s t = blend 1 s 1 t

pub middle_place : (s t : Place) → IsPlace s → IsPlace t → IsPlace (middle s t)
middle_place s t p q = let a = one-*ℤ s.w in let b = one-*ℤ t.w in omega (arith, linear)

pub height-middle : (l : Line) (s t : Place) → height l (middle s t) ≡ height l s +ℤ height l t
height-middle l s t = let a = one-*ℤ (height l s) in let b = one-*ℤ (height l t) in let e =
    height-combine l (pos 1) s (pos 1) t in omega (arith, linear)

past-middle : (p q : Pt) (s t : Place) → past p q (middle s t) ≡ past p q s +ℤ past p q t
past-middle p q s t =
    let a = height-across p q s in let b = height-across p q t in let c = height-across p q (middle s t) in
    let e = height-middle (line_across p q) s t in omega (arith, linear)

pub on_middle : (p q : Pt) (s t : Place) → IsOn p q s → IsOn p q t → IsOn p q (middle s t)
on_middle p q s t x y =
    let a = height-middle (through p q) s t in let b = past-middle p q s t in let c = past-middle q p s t in
    let x0 = x.on in let y0 = y.on in let x1 = x.after in let y1 = y.after in let x2 = x.before in let y2 =
    y.before in
    record { on = omega (arith, linear); after = omega (arith, linear); before = omega (arith, linear) }

slant-across : (p q : Pt) → slant (through p q) (line_across p q) ≡ neg_ℤ (dot (minus q p) (minus q p))
slant-across p q =
    let p' = point_e 0 in let q' = point_e 2 in
    let a' : LineE = record {
      a = q'.x ⊖ p'.x;
      b = q'.y ⊖ p'.y;
      c = (q'.x ⊖ p'.x) ⊗ p'.x ⊕ (q'.y ⊖ p'.y)
          ⊗ p'.y;
    } in
    solve (point_env p (point_env q [])) (slant_e (through_e p' q') a')
    (opp (dot_e (minus_e q' p') (minus_e q' p'))) refl

-- of two different places of an edge, one isn't its first end
past_middle : (p q : Pt) (s t : Place) → pos 0 <ℤ dot (minus q p) (minus q p) → IsOn p q s → IsOn p q t
    → same_place s t ≡ false → pos 0 <ℤ past p q (middle s t)
past_middle p q s t long x y differ =
    let e = past-middle p q s t in
    let x1 = x.after in
    let y1 = y.after in
    by_sign (past p q (middle s t))
    (λ l. absurd (omega (arith, linear)))
    (λ z.
    let both = sum_zero (past p q s) (past p q t) x1 y1 (omega (arith, linear)) in
    let par = parallel_of_two (through p q) (line_across p q) s t differ x.on (height-across p q s ∙ both.0)
    y.on (height-across p q t ∙ both.1) in
    let f = slant-across p q in
    absurd (omega (arith, linear)))
    (λ l. l)

pub between_middle : (p q : Pt) (s t : Place) → pos 0 <ℤ dot (minus q p) (minus q p) → IsOn p q s → IsOn p q t
    → same_place s t ≡ false → IsBetween p q (middle s t)
between_middle p q s t long x y differ = record {
  on = (on_middle p q s t x y).on;
  after = past_middle p q s t long x y differ;
  before = past_middle q p s t (subst (λ z. pos 0 <ℤ z) back long) (turned s x) (turned t y) differ;
} where
  turned : (s : Place) → IsOn p q s → IsOn q p s
  turned s x = let e = height-back p q s in let on =
      x.on in record { on = omega (arith, linear); after = x.before; before = x.after }

  back : dot (minus q p) (minus q p) ≡ dot (minus p q) (minus p q)
  back = let p' = point_e 0 in let q' =
      point_e 2 in solve (point_env p (point_env q [])) (dot_e (minus_e q' p') (minus_e q' p'))
      (dot_e (minus_e p' q') (minus_e p' q')) refl

-- ---- inside a face, step by step

pub inside_from : (g : Sheet) (f : ℕ) (s : Place) → f < length g.rings
    → ((x y : ℕ) → Goes (ring_at g.rings f) x y → pos 0 <ℤ height (step_line g f (x, y)) s)
    → IsTrue (is_inside g f s)
inside_from g f s l h =
    let list = steps (ring_at g.rings f) in
    of_both (is_face g f) (list_all (λ step. int_lt (pos 0) (depth g f s step)) list)
    (is_below f (length g.rings) l)
    (all_from (λ step. int_lt (pos 0) (depth g f s step)) list (λ step c. to_lt (depth g f s step)
    (subst (λ z. pos 0 <ℤ z) (sym (depth-line g f s step.0 step.1))
    (h step.0 step.1 (step_goes (ring_at g.rings f) step.0 step.1 c)))))

pub inside_at : (g : Sheet) (f : ℕ) (s : Place) (x y : ℕ) → IsTrue (is_inside g f s)
    → Goes (ring_at g.rings f) x y → pos 0 <ℤ height (step_line g f (x, y)) s
inside_at g f s x y t goes = subst (λ z. pos 0 <ℤ z) (depth-line g f s x y) (inside_step g f s x y t goes)

-- between two places inside all places are inside
pub inside_blend : (g : Sheet) (f : ℕ) (s t : Place) → IsTrue (is_inside g f s) → IsTrue (is_inside g f t)
    → (i j : ℕ) → 0 < i → 0 < j → IsTrue (is_inside g f (blend i s j t))
inside_blend g f s t a b i j p q = inside_from g f (blend i s j t) (inside_face g f s a)
    (λ x y goes. left-combine (step_line g f (x, y)) (pos i) s (pos j) t (omega (arith, ints, p))
    (omega (arith, ints, q)) (inside_at g f s x y a goes) (inside_at g f t x y b goes))

-- A face of an edge that holds a plain border place lies on exactly one side of every edge there, and doesn't
-- have the place inside. The two faces of a flat edge there lie on different sides, those of a folded one on
-- one side.
use Rattle.std.proofs.Common.{◌≡◌, ℕ, ◌<◌, ◌⊎◌, inl, inr, refl, sym, ◌∙◌, ap, subst, arith, ℤ, pos, Bool, true, false, not, IsTrue, length, Some}
use lib.IntN.{neg_ℤ}
use Rattle.std.proofs.lemmas.Bool.{false≢true}
use Rattle.ff_basics.proofs.Tests.{not_true}
use Rattle.ff_whole.specs.declared.points.Pt.{Pt}
use Rattle.ff_whole.specs.declared.places.Place.{Place}
use Rattle.ff_whole.specs.Points.{minus, dot, cross}
use Rattle.ff_whole.specs.Places.{through, height}
use Rattle.ff_whole.proofs.Signs.{linear, by_sign}
use Rattle.ff_whole.proofs.Turns.{height-back}
use Rattle.ff_types.specs.declared.patterns.Pattern.{Pattern}
use Rattle.ff_types.specs.declared.patterns.Mark.{Mark}
use Rattle.ff_types.specs.declared.patterns.Mark.TheVariants.{B, M, V, F, U}
use Rattle.ff_types.specs.declared.faces.Faces.{Faces}
use Rattle.ff_types.specs.declared.faces.Folded.{Folded}
use Rattle.ff_types.specs.Patterns.{edge_at}
use Rattle.ff_types.specs.Foldings.{signed, is_up, is_folded, FitFlags}
use Rattle.ff_types.specs.Sheets.{Sheet, sheet_of, tail, head, line_of, left_face, right_face, mark_of, bounds}
use Rattle.ff_types.specs.Inside.{is_inside}
use Rattle.ff_types.specs.Borders.{is_on, IsPlainBorder}
use Rattle.ff_types.specs.Cites.{is_folded_edge, is_flat_edge, greater}
use Rattle.ff_types.specs.FoldedPatterns.{IsFoldedPattern}
use Rattle.ff_types.proofs.FoldedOverlap.{inside_step}
use Rattle.ff_borders.specs.Lying.{IsLeftAlone, IsRightAlone, RingFacesLieAside, FlatFacesPart, FoldedFacesMeet}
use Rattle.ff_borders.proofs.Tests.{bounds_from, on_from, parallel_from, plain_on}
use Rattle.ff_borders.proofs.Steps.{step_line, signed-line, signed-twice, depth-line, left_goes, right_goes}
use Rattle.ff_borders.proofs.Parallels.{slant-cross, leads-side, leads-inner, cross-back, dot-back, signed-zero}
use Rattle.ff_borders.proofs.TwoSides.{HasSides, both_sides, by_order, folded_edge, flat_edge, folded_inner, flat_inner, flat_is}
use Rattle.ff_borders.proofs.Asides.{IsAside, by_step}

-- ---- flags

-- the faces of a flat edge lie to the left by opposite amounts, those of a folded one by the same
alike : (a b : Bool) (z : ℤ) → a ≡ b → signed b (neg_ℤ z) ≡ neg_ℤ (signed a z)
alike true true z e = refl
alike false false z e = refl
alike true false z e = absurd (false≢true (sym e))
alike false true z e = absurd (false≢true e)

unlike : (a b : Bool) (z : ℤ) → a ≡ not b → signed b (neg_ℤ z) ≡ signed a z
unlike true false z e = signed-twice false z
unlike false true z e = refl
unlike true true z e = absurd (false≢true (sym e))
unlike false false z e = absurd (false≢true e)

pub by_flat : (m : Mark) (a b : Bool) → m ≡ F → FitFlags m a b → a ≡ b
by_flat m a b e f = subst (λ n. FitFlags n a b) e f

pub by_folded : (m : Mark) (a b : Bool) → IsTrue (is_folded m) → FitFlags m a b → a ≡ not b
by_folded B a b t f = absurd (false≢true t)
by_folded M a b t f = f
by_folded V a b t f = f
by_folded F a b t f = absurd (false≢true t)
by_folded U a b t f = f

-- exactly one side
pub one_side : (g : Sheet) (e f : ℕ) (c : ℤ) → IsAside g e f c → IsLeftAlone g e f ⊎ IsRightAlone g e f
one_side g e f c a = by_sign c (λ l. inr (a.right l)) (λ z. absurd (a.some z)) (λ l. inl (a.left l))

module _ {pattern : Pattern} {faces : Faces} {folded : Folded}
    (h : IsFoldedPattern pattern faces folded) where
  abbrev g : Sheet
  g = sheet_of pattern faces folded

  abbrev way : ℕ → Pt
  way e = minus (head g e) (tail g e)

  abbrev up : ℕ → Bool
  up f = is_up folded.up f

  -- ---- the face on the left and that on the right of an edge k at a plain border place

  module _ (e k : ℕ) (s : Place) (plain : IsPlainBorder g e s) (l : k < length pattern.edges)
      (on : IsTrue (is_on g k s)) where
    flat : cross (way k) (way e) ≡ pos 0
    flat = sym (slant-cross (tail g k) (head g k) (tail g e) (head g e))
        ∙ parallel_from g k e (plain_on g e k s plain l on).1

    level : height (line_of g k) s ≡ pos 0
    level = (on_from g k s on).on

    below : height (through (head g k) (tail g k)) s ≡ pos 0
    below = let a = height-back (tail g k) (head g k) s in let b = level in omega (arith, linear)

    flat_too : cross (minus (tail g k) (head g k)) (way e) ≡ pos 0
    flat_too = let a = cross-back (tail g k) (head g k) (way e) in let b = flat in omega (arith, linear)

    left_at : (f : ℕ) → height (step_line g f ((edge_at pattern.edges k).a, (edge_at pattern.edges k).b)) s
        ≡ pos 0
    left_at f = sym (signed-line (up f) (tail g k) (head g k) s) ∙ signed-zero (up f) _ level

    right_at : (f : ℕ) → height (step_line g f ((edge_at pattern.edges k).b, (edge_at pattern.edges k).a)) s
        ≡ pos 0
    right_at f = sym (signed-line (up f) (head g k) (tail g k) s) ∙ signed-zero (up f) _ below

    pub left_aside : (f : ℕ) → left_face g k ≡ Some f → IsAside g e f (signed (up f) (dot (way k) (way e)))
    left_aside f d =
        let goes = left_goes h k f l d in
        subst (IsAside g e f) (leads-inner (up f) (tail g k) (head g k) (way e))
        (by_step h e f (edge_at pattern.edges k).a (edge_at pattern.edges k).b s plain.edge goes.0 goes.1
        plain.place (on_from g e s plain.on).on (left_at f)
        (leads-side (up f) (tail g k) (head g k) (way e) ∙ signed-zero (up f) _ flat))

    pub right_aside : (f : ℕ) → right_face g k ≡ Some f
        → IsAside g e f (signed (up f) (neg_ℤ (dot (way k) (way e))))
    right_aside f d =
        let goes = right_goes h k f l d in
        subst (IsAside g e f) (leads-inner (up f) (head g k) (tail g k) (way e)
        ∙ ap (signed (up f)) (dot-back (tail g k) (head g k) (way e)))
        (by_step h e f (edge_at pattern.edges k).b (edge_at pattern.edges k).a s plain.edge goes.0 goes.1
        plain.place (on_from g e s plain.on).on (right_at f)
        (leads-side (up f) (head g k) (tail g k) (way e) ∙ signed-zero (up f) _ flat_too))

    not_inside : (f : ℕ) → IsTrue (bounds g k f) → is_inside g f s ≡ false
    not_inside f b = not_true (is_inside g f s) (λ t. elim (bounds_from g k f b) [
      | inl d ↦ (let goes = left_goes h k f l d in let p = inside_step g f s _ _ t goes.1 in
          let q = depth-line g f s (edge_at pattern.edges k).a (edge_at pattern.edges k).b in
          let z = left_at f in omega (arith, linear))
      | inr d ↦ (let goes = right_goes h k f l d in let p = inside_step g f s _ _ t goes.1 in
          let q = depth-line g f s (edge_at pattern.edges k).b (edge_at pattern.edges k).a in
          let z = right_at f in omega (arith, linear))
    ])

    ring_aside : (f : ℕ) → IsTrue (bounds g k f) → IsLeftAlone g e f ⊎ IsRightAlone g e f
    ring_aside f b = elim (bounds_from g k f b) [
      | inl d ↦ one_side g e f _ (left_aside f d)
      | inr d ↦ one_side g e f _ (right_aside f d)
    ]

    flags : (f j : ℕ) → HasSides g k f j → FitFlags (mark_of g k) (up f) (up j)
    flags f j s = h.folding.flags k f j (subst (λ n. k < n) (sym h.faces_are.as_many_sides) l) s.left s.right

    -- the faces of a flat edge
    parted : (f j : ℕ) → HasSides g k f j → IsTrue (is_flat_edge g k)
        → (IsLeftAlone g e f × IsRightAlone g e j) ⊎ (IsRightAlone g e f × IsLeftAlone g e j)
    parted f j d t =
        let x = left_aside f d.left in
        let y = right_aside j d.right in
        let same = alike (up f) (up j) (dot (way k) (way e))
        (by_flat (mark_of g k) (up f) (up j) (flat_is (mark_of g k) (flat_edge g k t).1) (flags f j d)) in
        by_sign (signed (up f) (dot (way k) (way e)))
        (λ m. inr (x.right m, y.left (omega (arith, linear))))
        (λ z. absurd (x.some z))
        (λ m. inl (x.left m, y.right (omega (arith, linear))))

    -- the faces of a folded edge
    met : (f j : ℕ) → HasSides g k f j → IsTrue (is_folded_edge g k)
        → (IsLeftAlone g e f × IsLeftAlone g e j) ⊎ (IsRightAlone g e f × IsRightAlone g e j)
    met f j d t =
        let x = left_aside f d.left in
        let y = right_aside j d.right in
        let same = unlike (up f) (up j) (dot (way k) (way e))
        (by_folded (mark_of g k) (up f) (up j) (folded_edge g k t).1 (flags f j d)) in
        by_sign (signed (up f) (dot (way k) (way e)))
        (λ m. inr (x.right m, y.right (omega (arith, linear))))
        (λ z. absurd (x.some z))
        (λ m. inl (x.left m, y.left (omega (arith, linear))))

  pub ring_faces_lie_aside : RingFacesLieAside g
  ring_faces_lie_aside e k f s plain l on b =
      (ring_aside e k s plain l on f b, not_inside e k s plain l on f b)

  pub flat_faces_part : FlatFacesPart g
  flat_faces_part e k s plain on t =
      let l = (flat_edge g k t).0 in
      let r = both_sides h k l (flat_inner (mark_of g k) (flat_edge g k t).1) in
      let p = parted e k s plain l on r.0 r.1 r.2 t in
      by_order h k r.0 r.1 l r.2
      (λ a b. subst (λ x. (IsLeftAlone g e x × IsRightAlone g e (greater g k))
      ⊎ (IsRightAlone g e x × IsLeftAlone g e (greater g k))) (sym a)
      (subst (λ y. (IsLeftAlone g e r.0 × IsRightAlone g e y) ⊎ (IsRightAlone g e r.0 × IsLeftAlone g e y))
      (sym b) p))
      (λ a b. subst (λ x. (IsLeftAlone g e x × IsRightAlone g e (greater g k))
      ⊎ (IsRightAlone g e x × IsLeftAlone g e (greater g k))) (sym a)
      (subst (λ y. (IsLeftAlone g e r.1 × IsRightAlone g e y) ⊎ (IsRightAlone g e r.1 × IsLeftAlone g e y))
      (sym b) (elim p [ inl q ↦ inr (q.1, q.0) | inr q ↦ inl (q.1, q.0) ])))

  pub folded_faces_meet : FoldedFacesMeet g
  folded_faces_meet e k s plain on t =
      let l = (folded_edge g k t).0 in
      let r = both_sides h k l (folded_inner (mark_of g k) (folded_edge g k t).1) in
      let p = met e k s plain l on r.0 r.1 r.2 t in
      by_order h k r.0 r.1 l r.2
      (λ a b. subst (λ x. (IsLeftAlone g e x × IsLeftAlone g e (greater g k))
      ⊎ (IsRightAlone g e x × IsRightAlone g e (greater g k))) (sym a)
      (subst (λ y. (IsLeftAlone g e r.0 × IsLeftAlone g e y) ⊎ (IsRightAlone g e r.0 × IsRightAlone g e y))
      (sym b) p))
      (λ a b. subst (λ x. (IsLeftAlone g e x × IsLeftAlone g e (greater g k))
      ⊎ (IsRightAlone g e x × IsRightAlone g e (greater g k))) (sym a)
      (subst (λ y. (IsLeftAlone g e r.1 × IsLeftAlone g e y) ⊎ (IsRightAlone g e r.1 × IsRightAlone g e y))
      (sym b) (elim p [ inl q ↦ inl (q.1, q.0) | inr q ↦ inr (q.1, q.0) ])))

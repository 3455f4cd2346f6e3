-- An edge that isn't a border edge has two different faces, and so a lesser and a greater one.
use Rattle.std.proofs.Common.{◌≡◌, ◌≢◌, ℕ, ◌<◌, ◌≤◌, ◌⊎◌, inl, inr, refl, sym, ◌∙◌, ap, subst, arith, IsTrue, List, length, Option, Some, None}
use Rattle.std.specs.Prelude.{min, max}
use Rattle.std.proofs.Math.Nat.{max-eq_left, max-eq_right, min-eq_left, min-eq_right}
use Rattle.std.proofs.lemmas.Bool.{false≢true, cases_lt}
use Rattle.ff_basics.proofs.Tests.{both_of}
use Rattle.ff_types.specs.declared.patterns.Pattern.{Pattern}
use Rattle.ff_types.specs.declared.patterns.EdgeEnds.{EdgeEnds}
use Rattle.ff_types.specs.declared.patterns.Mark.{Mark}
use Rattle.ff_types.specs.declared.patterns.Mark.TheVariants.{B, M, V, F, U}
use Rattle.ff_types.specs.declared.faces.Faces.{Faces}
use Rattle.ff_types.specs.declared.faces.Folded.{Folded}
use Rattle.ff_types.specs.Patterns.{edge_at}
use Rattle.ff_types.specs.Rings.{Goes}
use Rattle.ff_types.specs.Faces.{ring_at, mark_at, Belongs, FitsMark, FitMarks}
use Rattle.ff_types.specs.Sides.{sides_at, IsFaceOf, IsMarkOf, filled}
use Rattle.ff_types.specs.Foldings.{is_folded}
use Rattle.ff_types.specs.Sheets.{Sheet, sheet_of, mark_of, left_face, right_face, bounds, is_edge}
use Rattle.ff_types.specs.Cites.{is_flat, is_flat_edge, is_folded_edge, face_or, lesser, greater}
use Rattle.ff_types.specs.FoldedPatterns.{IsFoldedPattern}
use Rattle.ff_borders.specs.Folded.{AreBeside, InnerEdgesHaveTwoFaces}
use Rattle.ff_borders.proofs.Tests.{to_bounds, below_from}
use Rattle.ff_borders.proofs.Steps.{left_goes, right_goes, not_back}

-- ---- marks

pub folded_inner : (m : Mark) → IsTrue (is_folded m) → m ≢ B
folded_inner m t e = false≢true (subst (λ n. IsTrue (is_folded n)) e t)

pub flat_inner : (m : Mark) → IsTrue (is_flat m) → m ≢ B
flat_inner m t e = false≢true (subst (λ n. IsTrue (is_flat n)) e t)

pub flat_is : (m : Mark) → IsTrue (is_flat m) → m ≡ F
flat_is F t = refl
flat_is B t = absurd (false≢true t)
flat_is M t = absurd (false≢true t)
flat_is V t = absurd (false≢true t)
flat_is U t = absurd (false≢true t)

pub not_both_marks : (m : Mark) → IsTrue (is_folded m) → IsTrue (is_flat m) → ⊥
not_both_marks B t u = false≢true t
not_both_marks M t u = false≢true u
not_both_marks V t u = false≢true u
not_both_marks F t u = false≢true t
not_both_marks U t u = false≢true u

pub folded_edge : (g : Sheet) (e : ℕ) → IsTrue (is_folded_edge g e)
    → (e < length g.edges) × IsTrue (is_folded (mark_of g e))
folded_edge g e t = let b =
    both_of (is_edge g e) (is_folded (mark_of g e)) t in (below_from e (length g.edges) b.0, b.1)

pub flat_edge : (g : Sheet) (e : ℕ) → IsTrue (is_flat_edge g e)
    → (e < length g.edges) × IsTrue (is_flat (mark_of g e))
flat_edge g e t = let b =
    both_of (is_edge g e) (is_flat (mark_of g e)) t in (below_from e (length g.edges) b.0, b.1)

-- ---- both sides

-- the faces left and right of the edge
pub record HasSides (g : Sheet) (e f h : ℕ) : Type 0 where
  pub left : left_face g e ≡ Some f
  pub right : right_face g e ≡ Some h

pub sided : (rings : List (List ℕ)) (u v : ℕ) (o : Option ℕ) → IsFaceOf rings u v o → Belongs rings u v
    → (f : ℕ) × (o ≡ Some f)
sided rings u v None s b = absurd (s b)
sided rings u v (Some f) s b = (f, refl)

by_mark : (rings : List (List ℕ)) (e : EdgeEnds) (m : Mark) → m ≢ B → FitsMark rings e m
    → Belongs rings e.a e.b × Belongs rings e.b e.a
by_mark rings e B n f = absurd (n refl)
by_mark rings e M n f = f
by_mark rings e V n f = f
by_mark rings e F n f = f
by_mark rings e U n f = f

by_sides : (o p : Option ℕ) → filled o p ≢ B → (f : ℕ) × (h : ℕ) × (o ≡ Some f) × (p ≡ Some h)
by_sides (Some f) (Some h) n = (f, h, refl, refl)
by_sides (Some f) None n = absurd (n refl)
by_sides None (Some h) n = absurd (n refl)
by_sides None None n = absurd (n refl)

module _ {pattern : Pattern} {faces : Faces} {folded : Folded}
    (h : IsFoldedPattern pattern faces folded) where
  abbrev g : Sheet
  g = sheet_of pattern faces folded

  pub both_sides : (e : ℕ) → e < length pattern.edges → mark_of g e ≢ B → (f : ℕ) × (k : ℕ) × HasSides g e f k
  both_sides e l n = by pattern.marks (h.faces_are.marks_are e l) h.faces_are.rings_are.fit where
    ends : EdgeEnds
    ends = edge_at pattern.edges e

    from : Belongs faces.rings ends.a ends.b × Belongs faces.rings ends.b ends.a
        → (f : ℕ) × (k : ℕ) × HasSides g e f k
    from b =
        let s = h.faces_are.sides_are e l in
        let x = sided faces.rings ends.a ends.b (left_face g e) s.left b.0 in
        let y = sided faces.rings ends.b ends.a (right_face g e) s.right b.1 in
        (x.0, y.0, record { left = x.1; right = y.1 })

    by : (o : Option (List Mark)) → IsMarkOf o e (sides_at faces.sides e) (mark_at faces.marks e)
        → FitMarks pattern.edges faces.rings o → (f : ℕ) × (k : ℕ) × HasSides g e f k
    by (Some marks) m fit = from (by_mark faces.rings ends (mark_at marks e) (λ d. n (m ∙ d)) (fit e l))
    by None m fit = let r = by_sides (left_face g e) (right_face g e) (λ d. n (m ∙ d)) in
        (r.0, r.1, record { left = r.2; right = r.3 })

  -- the two are different
  pub sides_differ : (e f k : ℕ) → e < length pattern.edges → HasSides g e f k → f ≢ k
  sides_differ e f k l s d =
      let x = left_goes h e f l s.left in
      let y = right_goes h e k l s.right in
      not_back h f (edge_at pattern.edges e).a (edge_at pattern.edges e).b x.0 x.1
      (subst (λ r. Goes (ring_at faces.rings r) (edge_at pattern.edges e).b (edge_at pattern.edges e).a)
      (sym d) y.1)

  -- the lesser and the greater are these two
  pub in_order_or_turned : (e f k : ℕ) → e < length pattern.edges → HasSides g e f k
      → ((f < k) × (lesser g e ≡ f) × (greater g e ≡ k)) ⊎ ((k < f) × (lesser g e ≡ k) × (greater g e ≡ f))
  in_order_or_turned e f k l s = elim (cases_lt f k) [
    | inl m ↦ inl (m, least ∙ min-eq_left (low m), most ∙ max-eq_right (low m))
    | inr m ↦ inr (less m, least ∙ min-eq_right m, most ∙ max-eq_left m)
  ] where
    least : lesser g e ≡ min f k
    least = ap (λ o. min (face_or o) (face_or (right_face g e))) s.left ∙ ap (λ o. min f (face_or o)) s.right

    most : greater g e ≡ max f k
    most = ap (λ o. max (face_or o) (face_or (right_face g e))) s.left ∙ ap (λ o. max f (face_or o)) s.right

    low : f < k → f ≤ k
    low m = omega (arith, m)

    less : k ≤ f → k < f
    less m = let d = sides_differ e f k l s in
        elim (cases_lt k f) [ inl n ↦ n | inr n ↦ absurd (d (omega (arith, m, n))) ]

  -- a property of the left and the right face, of the lesser and the greater, or the other way
  pub by_order {ℓ} : {R : Type ℓ} (e f k : ℕ) → e < length pattern.edges → HasSides g e f k
      → (lesser g e ≡ f → greater g e ≡ k → R) → (lesser g e ≡ k → greater g e ≡ f → R) → R
  by_order e f k l s x y = elim (in_order_or_turned e f k l s) [ inl r ↦ x r.1 r.2 | inr r ↦ y r.1 r.2 ]

  pub two_faces : InnerEdgesHaveTwoFaces g
  two_faces e l n = by (both_sides e l n) where
    by : (f : ℕ) × (k : ℕ) × HasSides g e f k
        → (lesser g e < greater g e) × AreBeside g e (lesser g e) (greater g e)
    by (f, k, s) = elim (in_order_or_turned e f k l s) [
      | inl r ↦ (
        subst (λ x. x < greater g e) (sym r.1) (subst (λ y. f < y) (sym r.2) r.0),
        subst (λ x. AreBeside g e x (greater g e)) (sym r.1)
            (subst (λ y. AreBeside g e f y) (sym r.2) (record {
              first = (left_goes h e f l s.left).0;
              second = (right_goes h e k l s.right).0;
              differ = sides_differ e f k l s;
              beside = inl (s.left, s.right);
            })),
      )
      | inr r ↦ (
        subst (λ x. x < greater g e) (sym r.1) (subst (λ y. k < y) (sym r.2) r.0),
        subst (λ x. AreBeside g e x (greater g e)) (sym r.1)
            (subst (λ y. AreBeside g e k y) (sym r.2) (record {
              first = (right_goes h e k l s.right).0;
              second = (left_goes h e f l s.left).0;
              differ = λ d. sides_differ e f k l s (sym d);
              beside = inr (s.left, s.right);
            })),
      )
    ]

  -- both bound the edge
  pub lesser_bounds : (e : ℕ) → e < length pattern.edges → mark_of g e ≢ B → IsTrue (bounds g e (lesser g e))
  lesser_bounds e l n = to_bounds g e (lesser g e)
      (elim (two_faces e l n).1.beside [ inl r ↦ inl r.0 | inr r ↦ inr r.1 ])

  pub greater_bounds : (e : ℕ) → e < length pattern.edges → mark_of g e ≢ B
      → IsTrue (bounds g e (greater g e))
  greater_bounds e l n = to_bounds g e (greater g e)
      (elim (two_faces e l n).1.beside [ inl r ↦ inr r.1 | inr r ↦ inl r.0 ])

-- The edges of a folded face, and what places on their inner sides say of the face.
use Rattle.std.proofs.Common.{◌≡◌, ◌≢◌, ◌⊎◌, inl, inr, refl, sym, subst, arith, ℕ, ◌+◌, ◌<◌, ◌≤◌, ℤ, pos, ◌<ℤ◌, ◌≤ℤ◌, Bool, true, false, IsTrue, List, [], ◌∷◌, length}
use Rattle.std.specs.Prelude.{int_lt}
use Rattle.std.specs.List.{list_all, list_any, Contains}
use Rattle.std.proofs.lemmas.Int.{ints}
use Rattle.std.proofs.lemmas.Bool.{cases_lt, lt-ltb, le-ltb}
use Rattle.ff_basics.proofs.Memberships.{first_member, later_member}
use Rattle.ff_basics.proofs.Lists.{all_from}
use Rattle.ff_basics.proofs.Tests.{of_both, to_le, to_lt}
use Rattle.ff_whole.specs.declared.points.Pt.{Pt}
use Rattle.ff_whole.specs.declared.places.Place.{Place}
use Rattle.ff_whole.specs.Points.{minus, dot}
use Rattle.ff_whole.specs.Places.{through, height}
use Rattle.ff_whole.specs.Convex.{next, point_at}
use Rattle.ff_whole.proofs.Ring.{var, num, ◌⊕◌, ◌⊖◌, ◌⊗◌, solve}
use Rattle.ff_whole.proofs.Signs.{linear}
use Rattle.ff_whole.proofs.Turns.{height-back}
use Rattle.ff_whole.proofs.ClosedLists.{next-below}
use Rattle.ff_types.specs.declared.patterns.Pattern.{Pattern}
use Rattle.ff_types.specs.declared.faces.Faces.{Faces}
use Rattle.ff_types.specs.declared.faces.Folded.{Folded}
use Rattle.ff_types.specs.Rings.{corner, after}
use Rattle.ff_types.specs.Faces.{ring_at}
use Rattle.ff_types.specs.Foldings.{signed}
use Rattle.ff_types.specs.Sheets.{Sheet, lies_up, is_face}
use Rattle.ff_types.specs.Inside.{steps, depth, is_inside}
use Rattle.ff_types.specs.Witnesses.{witness_edge, witness_face}
use Rattle.ff_types.specs.FoldedPatterns.{IsFoldedPattern}
use Rattle.ff_types.proofs.FoldedOverlap.{step_goes, inside_step}
use Rattle.ff_types.proofs.FoldedEdges.{step_long}
use Rattle.ff_edges.specs.Clips.{AreLeftOf, inner_line, border_line, IsInnerTo}

-- ---- tests of all members

either_true : (a b : Bool) → IsTrue a ⊎ IsTrue b → IsTrue (list_any (λ x. x) (a ∷ b ∷ []))
either_true true b h = refl
either_true false true h = refl
either_true false false (inl t) = t
either_true false false (inr t) = t

-- ---- the depth over an edge is the height over its inner line

module _ (g : Sheet) (f : ℕ) where
  abbrev ring : List ℕ
  ring = ring_at g.rings f

  abbrev border : ℕ → Rattle.ff_whole.specs.declared.lines.Line.Line
  border k = border_line g.images (lies_up g f) ring k

  depth_by : (up : Bool) (u v : ℕ) (s : Place) → signed up (height (through (point_at g.images u) (point_at g.images v)) s) ≡ height (inner_line g.images up u v) s
  depth_by true u v s = refl
  depth_by false u v s = sym (height-back (point_at g.images u) (point_at g.images v) s)

  depth_is : (u v : ℕ) (s : Place) → depth g f s (u, v) ≡ height (inner_line g.images (lies_up g f) u v) s
  depth_is u v s = depth_by (lies_up g f) u v s

  -- a place inside is on the inner side of each edge
  pub inner_of : (m : Place) → IsTrue (is_inside g f m) → IsInnerTo g.images (lies_up g f) ring (length ring) m
  inner_of m t k l = subst (λ z. pos 0 <ℤ z) (depth_is (corner ring k) (after ring k) m)
      (inside_step g f m (corner ring k) (after ring k) t (record { place = k; inside = l; from = refl; to = refl }))

  -- the place of a step
  module _ (P : ℕ → ℕ → Type 0) (h : (k : ℕ) → k < length ring → P (corner ring k) (after ring k)) where
    each_step : (step : ℕ × ℕ) → Contains (steps ring) step → P step.0 step.1
    each_step step c = let s = step_goes ring step.0 step.1 c in
        subst (λ v. P step.0 v) s.to (subst (λ u. P u (after ring s.place)) s.from (h s.place s.inside))

  face_number : f < length g.rings → IsTrue (is_face g f)
  face_number l = lt-ltb f (length g.rings) l

  -- and the other way
  pub inside_of : f < length g.rings → (m : Place) → IsInnerTo g.images (lies_up g f) ring (length ring) m → IsTrue (is_inside g f m)
  inside_of l m h = of_both (is_face g f) _ (face_number l) (all_from (λ step. int_lt (pos 0) (depth g f m step)) (steps ring)
      (each_step (λ u v. IsTrue (int_lt (pos 0) (depth g f m (u, v)))) (λ k b. to_lt (depth g f m (corner ring k, after ring k)) (subst (λ z. pos 0 <ℤ z) (sym (depth_is (corner ring k) (after ring k) m)) (h k b)))))

  -- two places that show that a place between them is inside
  pub witness_of : f < length g.rings → (s t : Place) → ((k : ℕ) → k < length ring → AreLeftOf (border k) s t) → IsTrue (list_all (witness_face g (s ∷ t ∷ [])) (f ∷ []))
  witness_of l s t h = of_both _ true (of_both (is_face g f) _ (face_number l) (all_from (witness_edge g f (s ∷ t ∷ [])) (steps ring)
      (each_step (λ u v. IsTrue (witness_edge g f (s ∷ t ∷ []) (u, v))) (λ k b. by k (h k b))))) refl where
        by : (k : ℕ) → AreLeftOf (border k) s t → IsTrue (witness_edge g f (s ∷ t ∷ []) (corner ring k, after ring k))
        by k w =
            let u = corner ring k in
            let v = after ring k in
            let a = subst (λ z. pos 0 ≤ℤ z) (sym (depth_is u v s)) w.first in
            let b = subst (λ z. pos 0 ≤ℤ z) (sym (depth_is u v t)) w.second in
            of_both _ _ (of_both _ _ (to_le (depth g f s (u, v)) a) (of_both _ true (to_le (depth g f t (u, v)) b) refl))
            (either_true (int_lt (pos 0) (depth g f s (u, v))) (int_lt (pos 0) (depth g f t (u, v))) (strict w.one))
          where
            strict : (pos 0 <ℤ height (border k) s) ⊎ (pos 0 <ℤ height (border k) t)
                → IsTrue (int_lt (pos 0) (depth g f s (corner ring k, after ring k))) ⊎ IsTrue (int_lt (pos 0) (depth g f t (corner ring k, after ring k)))
            strict (inl x) = inl (to_lt _ (subst (λ z. pos 0 <ℤ z) (sym (depth_is (corner ring k) (after ring k) s)) x))
            strict (inr x) = inr (to_lt _ (subst (λ z. pos 0 <ℤ z) (sym (depth_is (corner ring k) (after ring k) t)) x))

-- ---- the images of a ring's edges have ends apart

none : (p : Pt) → dot (minus p p) (minus p p) ≡ pos 0
none p = solve (p.x ∷ p.y ∷ []) ((var 0 ⊖ var 0) ⊗ (var 0 ⊖ var 0) ⊕ (var 1 ⊖ var 1) ⊗ (var 1 ⊖ var 1)) (num (pos 0)) refl

not_next : (n k : ℕ) → 3 ≤ n → k < n → next n k ≡ k → ⊥
not_next n k few l e = elim (cases_lt (k + 1) n) [
  | inl m ↦ (let f : next n k ≡ k + 1 = rw (lt-ltb (k + 1) n m) refl in omega (arith, e, f))
  | inr m ↦ (let f : next n k ≡ 0 = rw (le-ltb (k + 1) n m) refl in omega (arith, e, f, m, few))
]

module _ {pattern : Pattern} {faces : Faces} {folded : Folded} (h : IsFoldedPattern pattern faces folded) where
  pub steps_apart : (f : ℕ) → f < length faces.rings → (k : ℕ) → k < length (ring_at faces.rings f)
      → point_at folded.points (corner (ring_at faces.rings f) k) ≢ point_at folded.points (after (ring_at faces.rings f) k)
  steps_apart f l k b e =
      let ring = ring_at faces.rings f in
      let r = h.faces_are.rings_are.each f l in
      let u = corner ring k in
      let v = after ring k in
      let below = next-below (length ring) k b in
      let apart : point_at pattern.points u ≢ point_at pattern.points v = (λ d. not_next (length ring) k r.three b (sym (r.differ k (next (length ring) k) b below (h.drawing.apart.differ u v (r.there k b) (r.there (next (length ring) k) below) d)))) in
      let long = step_long h f u v l (record { place = k; inside = b; from = refl; to = refl }) apart in
      let z = none (point_at folded.points u) in
      let y = subst (λ q. pos 0 <ℤ dot (minus q (point_at folded.points u)) (minus q (point_at folded.points u))) (sym e) long in
      omega (arith, linear)

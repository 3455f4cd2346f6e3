-- Places that witness a face, edge by edge.
use Rattle.std.proofs.Common.{◌≡◌, ◌∙◌, ℕ, zero, suc, ◌+◌, ◌<◌, inl, inr, ◌↔◌, Bool, true, false, ◌||◌, List, [], ◌∷◌, length, refl, sym, subst, IsTrue, arith, pos, ◌<ℤ◌, ◌≤ℤ◌}
use Rattle.std.specs.Prelude.{int_le, int_lt}
use Rattle.std.specs.List.{list_all, list_any}
use Rattle.std.proofs.lemmas.Bool.{false≢true, true≢false, cases_eq, or_parts}
use Rattle.ff_basics.proofs.Lists.{all_at, all_from}
use Rattle.ff_basics.proofs.Tests.{both_of, either_of, le_from, lt_from, of_both, of_first, of_second, to_le, to_lt}
use Rattle.ff_whole.specs.declared.points.Pt.{Pt}
use Rattle.ff_whole.specs.declared.lines.Line.{Line}
use Rattle.ff_whole.specs.declared.places.Place.{Place}
use Rattle.ff_whole.specs.Places.{height, through}
use Rattle.ff_whole.specs.Convex.{point_at}
use Rattle.ff_whole.proofs.Turns.{height-back}
use Rattle.ff_types.specs.Rings.{corner, after}
use Rattle.ff_types.specs.Faces.{ring_at}
use Rattle.ff_types.specs.Foldings.{signed}
use Rattle.ff_types.specs.Sheets.{Sheet, lies_up, is_face}
use Rattle.ff_types.specs.Inside.{steps, depth}
use Rattle.ff_types.specs.Witnesses.{witness_edge, witness_face}
use Rattle.ff_types.proofs.FoldedOverlap.{step_goes, goes_step}
use Rattle.ff_witness.specs.Witnessing.{inner_line, border_line, place_at, IsWitnessOver, IsWitnessTo}
use Rattle.ff_witness.proofs.OnEdges.{all_of_them, each_of_them, not_less}

-- of the first n places none is right of the line, and whether one is left of it
pub record AreTested (line : Line) (places : List Place) (n : ℕ) (some : Bool) : Type 0 where
  pub none : (k : ℕ) → k < n → pos 0 ≤ℤ height line (place_at places k)
  pub left : IsTrue some → (k : ℕ) × (k < n) × (pos 0 <ℤ height line (place_at places k))
  pub all : some ≡ false → (k : ℕ) → k < n → pos 0 <ℤ height line (place_at places k) → ⊥

pub one_tested : (line : Line) (places : List Place) (n : ℕ) (some left : Bool) → AreTested line places n some
    → (height line (place_at places n) <ℤ pos 0 → ⊥) → IsTrue left ↔ (pos 0 <ℤ height line (place_at places n)) → AreTested line places (n + 1) (some || left)
one_tested line places n some left t not_right is = record {
  none = λ k l. elim (cases_eq k n) [
    | inl q ↦ subst (λ j. pos 0 ≤ℤ height line (place_at places j)) (sym q) (not_less (height line (place_at places n)) not_right)
    | inr d ↦ t.none k (omega (arith, l, d))
  ];
  left = λ h. elim (either_of some left h) [
    | inl e ↦ let w = t.left e in (w.0, omega (arith, w.1), w.2)
    | inr e ↦ (n, omega arith, is.0 e)
  ];
  all = λ h k l w. elim (cases_eq k n) [
    | inl q ↦ true≢false (sym (is.1 (subst (λ j. pos 0 <ℤ height line (place_at places j)) q w)) ∙ (or_parts some left h).1)
    | inr d ↦ t.all (or_parts some left h).0 k (omega (arith, l, d)) w
  ];
}

pub tested : (line : Line) (places : List Place) (some : Bool) → AreTested line places (length places) some → IsTrue some ↔ IsWitnessOver line places
tested line places some t = (
  (λ h. let w = t.left h in record { none = t.none; number = w.0; there = w.1; left = w.2 }),
  (λ w. by some t w),
) where
  by : (b : Bool) → AreTested line places (length places) b → IsWitnessOver line places → IsTrue b
  by true t w = refl
  by false t w = absurd (t.all refl w.number w.there w.left)

-- ---- a ring's edges

pub over_one : (points : List Pt) (up : Bool) (ring : List ℕ) (n : ℕ) (places : List Place) → IsWitnessTo points up ring n places
    → IsWitnessOver (border_line points up ring n) places → IsWitnessTo points up ring (n + 1) places
over_one points up ring n places to one k l = elim (cases_eq k n) [
  | inl q ↦ subst (λ j. IsWitnessOver (border_line points up ring j) places) (sym q) one
  | inr d ↦ to k (omega (arith, l, d))
]

-- ---- the same by the definition's tests

some_place : (test : Place → Bool) (places : List Place) (k : ℕ) → k < length places → IsTrue (test (place_at places k)) → IsTrue (list_any test places)
some_place test [] k l h = absurd (omega (arith, l))
some_place test (s ∷ places) zero l h = of_first (test s) (list_any test places) h
some_place test (s ∷ places) (suc k) l h = of_second (test s) (list_any test places) (some_place test places k (omega (arith, l)) h)

place_for : (test : Place → Bool) (places : List Place) → IsTrue (list_any test places) → (k : ℕ) × (k < length places) × IsTrue (test (place_at places k))
place_for test [] t = absurd (false≢true t)
place_for test (s ∷ places) t = by (test s) refl t (λ h. place_for test places h) where
  by : (b : Bool) → b ≡ test s → IsTrue (b || list_any test places)
      → (IsTrue (list_any test places) → (k : ℕ) × (k < length places) × IsTrue (test (place_at places k)))
      → (k : ℕ) × (k < length (s ∷ places)) × IsTrue (test (place_at (s ∷ places) k))
  by true e h rest = (0, omega arith, sym e)
  by false e h rest = let r = rest h in (suc r.0, omega (arith, r.1), r.2)

module _ (g : Sheet) (f : ℕ) (places : List Place) where
  abbrev ring : List ℕ
  ring = ring_at g.rings f

  depth_by : (up : Bool) (u v : ℕ) (s : Place) → signed up (height (through (point_at g.images u) (point_at g.images v)) s) ≡ height (inner_line g.images up u v) s
  depth_by true u v s = refl
  depth_by false u v s = sym (height-back (point_at g.images u) (point_at g.images v) s)

  depth_is : (u v : ℕ) (s : Place) → depth g f s (u, v) ≡ height (inner_line g.images (lies_up g f) u v) s
  depth_is u v s = depth_by (lies_up g f) u v s

  edge_from : (u v : ℕ) → IsWitnessOver (inner_line g.images (lies_up g f) u v) places → IsTrue (witness_edge g f places (u, v))
  edge_from u v w = of_both _ _
      (all_of_them (λ s. int_le (pos 0) (depth g f s (u, v))) places (λ k l. to_le _ (subst (λ z. pos 0 ≤ℤ z) (sym (depth_is u v (place_at places k))) (w.none k l))))
      (some_place (λ s. int_lt (pos 0) (depth g f s (u, v))) places w.number w.there (to_lt _ (subst (λ z. pos 0 <ℤ z) (sym (depth_is u v (place_at places w.number))) w.left)))

  from_edge : (u v : ℕ) → IsTrue (witness_edge g f places (u, v)) → IsWitnessOver (inner_line g.images (lies_up g f) u v) places
  from_edge u v t =
      let both = both_of (list_all (λ s. int_le (pos 0) (depth g f s (u, v))) places) (list_any (λ s. int_lt (pos 0) (depth g f s (u, v))) places) t in
      let some = place_for (λ s. int_lt (pos 0) (depth g f s (u, v))) places both.1 in
      record {
        none = λ k l. subst (λ z. pos 0 ≤ℤ z) (depth_is u v (place_at places k)) (le_from _ (each_of_them (λ s. int_le (pos 0) (depth g f s (u, v))) places both.0 k l));
        number = some.0;
        there = some.1;
        left = subst (λ z. pos 0 <ℤ z) (depth_is u v (place_at places some.0)) (lt_from _ some.2);
      }

  pub ring_face : IsTrue (is_face g f) → IsWitnessTo g.images (lies_up g f) ring (length ring) places → IsTrue (witness_face g places f)
  ring_face is to = of_both (is_face g f) _ is (all_from (witness_edge g f places) (steps ring) (λ step c.
      let s = step_goes ring step.0 step.1 c in
      edge_from step.0 step.1 (subst (λ v. IsWitnessOver (inner_line g.images (lies_up g f) step.0 v) places) s.to
      (subst (λ u. IsWitnessOver (inner_line g.images (lies_up g f) u (after ring s.place)) places) s.from (to s.place s.inside)))))

  pub face_ring : IsTrue (witness_face g places f) → IsWitnessTo g.images (lies_up g f) ring (length ring) places
  face_ring t k l = from_edge (corner ring k) (after ring k) (all_at (witness_edge g f places) (steps ring) (both_of (is_face g f) _ t).1 (corner ring k, after ring k)
      (goes_step ring (corner ring k) (after ring k) (record { place = k; inside = l; from = refl; to = refl })))

  pub face_of_witness : IsTrue (witness_face g places f) → IsTrue (is_face g f)
  face_of_witness t = (both_of (is_face g f) _ t).0

-- A sheet whose only edge inside is flat: its two faces lie on the two sides of the edge, nothing lies on
-- anything.
use Rattle.std.proofs.Common.{◌≡◌, ◌≢◌, ℕ, ◌<◌, ◌≤◌, ◌==◌, ◌⊎◌, inl, inr, refl, sym, ◌∙◌, ap, subst, arith, pos, ◌<ℤ◌, Bool, true, false, ◌&&◌, IsTrue, List, [], ◌∷◌, length, cond}
use Rattle.std.specs.List.{AllPairs, filter, range_with_len}
use Rattle.std.proofs.lemmas.Bool.{false≢true, eqb-true, eqb-false, cases_lt}
use Rattle.ff_basics.proofs.Tests.{both_of, of_both}
use Rattle.ff_whole.specs.declared.points.Pt.{Pt}
use Rattle.ff_whole.specs.declared.places.Place.{Place}
use Rattle.ff_whole.specs.Places.{IsPlace, through, height}
use Rattle.ff_whole.proofs.Signs.{linear}
use Rattle.ff_types.specs.declared.patterns.Pattern.{Pattern}
use Rattle.ff_types.specs.declared.patterns.Mark.TheVariants.{B}
use Rattle.ff_types.specs.declared.faces.Faces.{Faces}
use Rattle.ff_types.specs.declared.faces.Folded.{Folded}
use Rattle.ff_types.specs.Patterns.{edge_at}
use Rattle.ff_types.specs.Foldings.{signed, is_up}
use Rattle.ff_types.specs.Sheets.{Sheet, sheet_of, tail, head, mark_of}
use Rattle.ff_types.specs.Inside.{is_inside, Overlap}
use Rattle.ff_types.specs.Covering.{covers_left, covers_right}
use Rattle.ff_types.specs.Stackings.{IsStacking, CanBeListed}
use Rattle.ff_types.specs.FoldedPatterns.{IsFoldedPattern}
use Rattle.ff_types.proofs.FewFaces.{overlap_first, overlap_second, overlap_turned, no_overlap_empty}
use Rattle.ff_types.proofs.TwoFaces.{two_faces_geometric}
use Rattle.ff_borders.specs.FlatSheets.{IsOnlyFlat, none_above, OneFlatHasTwoFaces, OneFlatCoversOnce, OneFlatStacks, OneFlatStacksAlone}
use Rattle.ff_borders.proofs.Steps.{side_line, signed-line, signed-back, left_goes, right_goes}
use Rattle.ff_borders.proofs.TwoSides.{HasSides, both_sides, sides_differ, flat_edge, flat_inner, flat_is}
use Rattle.ff_borders.proofs.Lying.{by_flat}
use Rattle.ff_borders.proofs.SideFaces.{side_faces_overlap}
use Rattle.ff_borders.proofs.Middles.{inside_at}
use Rattle.ff_borders.proofs.SharedEdges.{one_of_two}

-- two numbers that are all there are
two_alone : (n p q : ℕ) → p < n → q < n → p ≢ q → ((j : ℕ) → j < n → (j ≡ p) ⊎ (j ≡ q)) → n ≡ 2
two_alone n p q x y d all = elim (cases_lt 2 n) [
  | inl l ↦ absurd (three (all 0 (omega (arith, l))) (all 1 (omega (arith, l))) (all 2 l))
  | inr l ↦ grind (arith, x, y, d, l)
] where
  three : (0 ≡ p) ⊎ (0 ≡ q) → (1 ≡ p) ⊎ (1 ≡ q) → (2 ≡ p) ⊎ (2 ≡ q) → ⊥
  three (inl a) (inl b) c = omega (arith, a, b)
  three (inr a) (inr b) c = omega (arith, a, b)
  three (inl a) (inr b) (inl c) = omega (arith, a, c)
  three (inl a) (inr b) (inr c) = omega (arith, b, c)
  three (inr a) (inl b) (inl c) = omega (arith, b, c)
  three (inr a) (inl b) (inr c) = omega (arith, a, c)

-- a list of one face at most is listed as it is
rises_empty : (above : ℕ → ℕ → Bool) → AllPairs (λ lower upper. IsTrue (above upper lower)) []
rises_empty above i j d x y = absurd (omega (arith, y))

rises_alone : (above : ℕ → ℕ → Bool) (f : ℕ) → AllPairs (λ lower upper. IsTrue (above upper lower)) (f ∷ [])
rises_alone above f i j d x y = absurd (omega (arith, x, y))

as_it_stands : (above : ℕ → ℕ → Bool) (l : List ℕ) → AllPairs (λ lower upper. IsTrue (above upper lower)) l
    → CanBeListed above l
as_it_stands above l r = (l, record { same = λ f. ((λ x. x), (λ x. x)); rises = r })

listed_alone : (n : ℕ) (test : ℕ → Bool) → n ≡ 2 → (IsTrue (test 0) → IsTrue (test 1) → ⊥)
    → CanBeListed none_above (filter test (range_with_len 0 n))
listed_alone n test e apart =
    subst (λ k. CanBeListed none_above (filter test (range_with_len 0 k))) (sym e)
    (by (test 0) (test 1) apart) where
      by : (b c : Bool) → (IsTrue b → IsTrue c → ⊥)
          → CanBeListed none_above (cond b (0 ∷ cond c (1 ∷ []) []) (cond c (1 ∷ []) []))
      by true true x = absurd (x refl refl)
      by true false x = as_it_stands none_above (0 ∷ []) (rises_alone none_above 0)
      by false true x = as_it_stands none_above (1 ∷ []) (rises_alone none_above 1)
      by false false x = as_it_stands none_above [] (rises_empty none_above)

-- nothing is on both inner sides of an edge whose faces lie alike
opposite : (b c : Bool) (p q : Pt) (s : Place) → b ≡ c → pos 0 <ℤ height (side_line b p q) s
    → pos 0 <ℤ height (side_line c q p) s → ⊥
opposite b c p q s e x y =
    let a = signed-line b p q s in
    let d = signed-line c q p s in
    let f : signed b (height (through q p) s) ≡ signed c (height (through q p) s) =
    ap (λ z. signed z (height (through q p) s)) e in
    let k = signed-back b p q s in
    omega (arith, linear)

module _ {pattern : Pattern} {faces : Faces} {folded : Folded}
    (h : IsFoldedPattern pattern faces folded) where
  abbrev g : Sheet
  g = sheet_of pattern faces folded

  module _ (e : ℕ) (flat : IsOnlyFlat g e) where
    l : e < length pattern.edges
    l = (flat_edge g e flat.flat).0

    only : (k : ℕ) → k < length pattern.edges → mark_of g k ≢ B → k ≡ e
    only k kl n = by (k == e) refl where
      by : (b : Bool) → (k == e) ≡ b → k ≡ e
      by true d = eqb-true k e d
      by false d = absurd (n (flat.others k kl (eqb-false k e d)))

    sides : (p : ℕ) × (q : ℕ) × HasSides g e p q
    sides = both_sides h e l (flat_inner (mark_of g e) (flat_edge g e flat.flat).1)

    module _ (p q : ℕ) (s : HasSides g e p q) where
      -- the two faces don't overlap
      apart : Overlap g p q → ⊥
      apart o =
          let b = both_of (is_inside g p o.common.at) (is_inside g q o.common.at && true) o.common.inside in
          let c = both_of (is_inside g q o.common.at) true b.1 in
          let x = inside_at g p o.common.at (edge_at pattern.edges e).a (edge_at pattern.edges e).b b.0
          (left_goes h e p l s.left).1 in
          let y = inside_at g q o.common.at (edge_at pattern.edges e).b (edge_at pattern.edges e).a c.0
          (right_goes h e q l s.right).1 in
          let alike = by_flat (mark_of g e) (is_up folded.up p) (is_up folded.up q)
          (flat_is (mark_of g e) (flat_edge g e flat.flat).1)
          (h.folding.flags e p q (subst (λ n. e < n) (sym h.faces_are.as_many_sides) l) s.left s.right) in
          opposite (is_up folded.up p) (is_up folded.up q) (tail g e) (head g e) o.common.at alike x y

      none_by : (f j : ℕ) → Overlap g f j → ⊥
      none_by f j o = by (one_of_two h e p q l s only f (overlap_first g f j o))
          (one_of_two h e p q l s only j (overlap_second g f j o)) where
            by : (f ≡ p) ⊎ (f ≡ q) → (j ≡ p) ⊎ (j ≡ q) → ⊥
            by (inl a) (inl b) = o.differ (a ∙ sym b)
            by (inr a) (inr b) = o.differ (a ∙ sym b)
            by (inl a) (inr b) = apart (subst (λ x. Overlap g x q) a (subst (λ y. Overlap g f y) b o))
            by (inr a) (inl b) = apart
                (overlap_turned g q p (subst (λ x. Overlap g x p) a (subst (λ y. Overlap g f y) b o)))

      count_by : length faces.rings ≡ 2
      count_by = two_alone (length faces.rings) p q (left_goes h e p l s.left).0
          (right_goes h e q l s.right).0 (sides_differ h e p q l s) (one_of_two h e p q l s only)

    none : (f j : ℕ) → Overlap g f j → ⊥
    none = none_by sides.0 sides.1 sides.2

    count : length faces.rings ≡ 2
    count = count_by sides.0 sides.1 sides.2

    over_one : (f j : ℕ) → f ≢ j → (s : Place) → IsPlace s → IsTrue (is_inside g f s)
        → IsTrue (is_inside g j s) → ⊥
    over_one f j d s positive x y =
        none f j (record {
          differ = d;
          common =
              record {
                at = s;
                place = positive;
                inside = of_both (is_inside g f s) (is_inside g j s && true) x
                    (of_both (is_inside g j s) true y refl);
              };
        })

    zero_one : ◌≢◌ {A = ℕ} 0 1
    zero_one d = omega (arith, d)

    stacks : IsStacking g none_above
    stacks = record {
      orders = record { one = λ f j o. absurd (none f j o); only = λ f j t. absurd (false≢true t) };
      places = λ s positive. listed_alone (length faces.rings) (λ f. is_inside g f s) count
          (over_one 0 1 zero_one s positive);
      left = λ k s plain. listed_alone (length faces.rings) (covers_left g k s) count
          (λ x y. none 0 1 ((side_faces_overlap h k 0 1 s plain zero_one).0 x y));
      right = λ k s plain. listed_alone (length faces.rings) (covers_right g k s) count
          (λ x y. none 0 1 ((side_faces_overlap h k 0 1 s plain zero_one).1 x y));
    }

  pub one_flat_has_two_faces : OneFlatHasTwoFaces g
  one_flat_has_two_faces e flat = (count e flat, none e flat)

  pub one_flat_covers_once : OneFlatCoversOnce g
  one_flat_covers_once e k f j s flat plain d = (
    (λ x y. none e flat f j ((side_faces_overlap h k f j s plain d).0 x y)),
    (λ x y. none e flat f j ((side_faces_overlap h k f j s plain d).1 x y)),
  )

  pub one_flat_stacks : OneFlatStacks g
  one_flat_stacks e flat = (
    stacks e flat,
    two_faces_geometric g none_above (few (count e flat))
        (stacks e flat),
  ) where
    few : length faces.rings ≡ 2 → length faces.rings ≤ 2
    few c = omega (arith, c)

  pub one_flat_stacks_alone : OneFlatStacksAlone g
  one_flat_stacks_alone e above flat s f j = no_overlap_empty g above (none e flat) s.orders f j

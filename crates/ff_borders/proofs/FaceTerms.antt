-- The terms where an edge has a part inside a face, and where three faces have a common place.
use Rattle.std.proofs.Common.{◌≢◌, ℕ, ◌<◌, inl, inr, refl, subst, arith, true, ◌&&◌, IsTrue, [], ◌∷◌, length}
use Rattle.std.specs.List.{list_all}
use Rattle.ff_basics.proofs.Tests.{both_of, of_both}
use Rattle.ff_whole.specs.declared.places.Place.{Place}
use Rattle.ff_types.specs.declared.patterns.Pattern.{Pattern}
use Rattle.ff_types.specs.declared.patterns.Mark.TheVariants.{B}
use Rattle.ff_types.specs.declared.faces.Faces.{Faces}
use Rattle.ff_types.specs.declared.faces.Folded.{Folded}
use Rattle.ff_types.specs.Sheets.{Sheet, sheet_of, mark_of, bounds}
use Rattle.ff_types.specs.Inside.{is_inside, HaveCommon, Overlap}
use Rattle.ff_types.specs.Borders.{is_between, IsPlainBorder}
use Rattle.ff_types.specs.Segments.{HasEdgeInside}
use Rattle.ff_types.specs.Cites.{lesser, greater}
use Rattle.ff_types.specs.FoldedPatterns.{IsFoldedPattern}
use Rattle.ff_borders.specs.Terms.{IsOverlapping}
use Rattle.ff_borders.proofs.TwoSides.{lesser_bounds, greater_bounds}
use Rattle.ff_borders.proofs.Lying.{ring_faces_lie_aside}
use Rattle.ff_borders.proofs.Running.{none_inside_own, parts_inside_have_plain}
use Rattle.ff_borders.proofs.PairKeys.{pairs_apart, in_their_order, also, Each, Distinct}
use Rattle.ff_borders.proofs.CoveringFaces.{inside_overlap, lesser_there, greater_there, differ}

module _ {pattern : Pattern} {faces : Faces} {folded : Folded}
    (h : IsFoldedPattern pattern faces folded) where
  abbrev g : Sheet
  g = sheet_of pattern faces folded

  -- ---- an edge with a part inside a face

  module _ (e f : ℕ) (l : e < length pattern.edges) (n : mark_of g e ≢ B) (part : HasEdgeInside g f e) where
    not_lesser : lesser g e ≢ f
    not_lesser d = none_inside_own h f e l part (subst (λ x. IsTrue (bounds g e x)) d (lesser_bounds h e l n))

    not_greater : greater g e ≢ f
    not_greater d = none_inside_own h f e l part
        (subst (λ x. IsTrue (bounds g e x)) d (greater_bounds h e l n))

    pub face_terms : Each (IsOverlapping g) ((lesser g e, f) ∷ (greater g e, f) ∷ [])
    face_terms = by (parts_inside_have_plain h f e l part) where
      by : (s : Place) × (IsPlainBorder g e s × IsTrue (is_between g e s)) × IsTrue (is_inside g f s)
          → Each (IsOverlapping g) ((lesser g e, f) ∷ (greater g e, f) ∷ [])
      by (s, p, i) =
          also (in_their_order g (lesser g e) f
          (inside_overlap h e s p.0 (lesser g e) f not_lesser (lesser_there h e s p.0 e l n p.0.on)
          (ring_faces_lie_aside h e e (lesser g e) s p.0 l p.0.on (lesser_bounds h e l n)).0 i))
          (also (in_their_order g (greater g e) f
          (inside_overlap h e s p.0 (greater g e) f not_greater (greater_there h e s p.0 e l n p.0.on)
          (ring_faces_lie_aside h e e (greater g e) s p.0 l p.0.on (greater_bounds h e l n)).0 i)) tt)

    pub face_distinct : Distinct ((lesser g e, f) ∷ (greater g e, f) ∷ [])
    face_distinct = (
      (pairs_apart (lesser g e) f (greater g e) f (inl (differ h e l n)) (inl not_lesser), tt),
      (tt, tt),
    )

  -- ---- three faces with a common place

  pub common_overlap : (f j k : ℕ) → HaveCommon g (f ∷ j ∷ k ∷ []) → f < j → j < k
      → Each (IsOverlapping g) ((f, j) ∷ (f, k) ∷ (j, k) ∷ [])
  common_overlap f j k o p q =
      let x = both_of (is_inside g f o.at) (list_all (λ f. is_inside g f o.at) (j ∷ k ∷ [])) o.inside in
      let y = both_of (is_inside g j o.at) (list_all (λ f. is_inside g f o.at) (k ∷ [])) x.1 in
      let z = both_of (is_inside g k o.at) true y.1 in
      also (in_their_order g f j (over f j x.0 y.0 (λ d. omega (arith, p, d))))
      (also (in_their_order g f k (over f k x.0 z.0 (λ d. omega (arith, p, q, d))))
      (also (in_their_order g j k (over j k y.0 z.0 (λ d. omega (arith, q, d)))) tt))
    where
      over : (u v : ℕ) → IsTrue (is_inside g u o.at) → IsTrue (is_inside g v o.at) → u ≢ v → Overlap g u v
      over u v s t n = record {
        differ = n;
        common =
            record {
              at = o.at;
              place = o.place;
              inside = of_both (is_inside g u o.at)
                  (is_inside g v o.at && true) s (of_both (is_inside g v o.at) true t refl);
            };
      }

  pub common_distinct : (f j k : ℕ) → f < j → j < k → Distinct ((f, j) ∷ (f, k) ∷ (j, k) ∷ [])
  common_distinct f j k p q =
      also (also (pairs_apart f j f k (inr (λ d. omega (arith, q, d))) (inl (λ d. omega (arith, p, q, d))))
      (also (pairs_apart f j j k (inl (λ d. omega (arith, p, d))) (inl (λ d. omega (arith, p, q, d)))) tt))
      (also (also (pairs_apart f k j k (inl (λ d. omega (arith, p, d))) (inl (λ d. omega (arith, p, q, d))))
      tt) (tt, tt))

-- Places that witness a cite show that it holds: their sum is the common place.
use Rattle.std.proofs.Common.{ℕ, ◌<◌, refl, subst, arith, pos, ◌<ℤ◌, ◌≤ℤ◌, true, ◌&&◌, IsTrue, List, [], ◌∷◌, length, get_or}
use Rattle.std.specs.Prelude.{int_lt, int_le}
use Rattle.std.specs.List.{list_all, list_any, All, Contains}
use Rattle.std.proofs.lemmas.List.{get_or_default}
use Rattle.std.proofs.lemmas.List.Elements.{All-head, All-tail}
use Rattle.ff_basics.proofs.Tests.{both_of, le_from, lt_from, of_both}
use Rattle.ff_basics.proofs.Memberships.{no_member}
use Rattle.ff_basics.proofs.Lists.{all_at, each_from, some_at}
use Rattle.ff_whole.specs.declared.places.Place.{Place}
use Rattle.ff_whole.specs.Places.{IsPlace, height}
use Rattle.ff_whole.proofs.Sums.{total_place, left-total}
use Rattle.ff_whole.proofs.OnEdges.{IsOn}
use Rattle.ff_types.specs.declared.patterns.Pattern.{Pattern}
use Rattle.ff_types.specs.declared.faces.Faces.{Faces}
use Rattle.ff_types.specs.declared.faces.Folded.{Folded}
use Rattle.ff_types.specs.declared.cites.Cite.TheVariants.{Transitivity, TacoTaco, TacoFace, TacoEdge, FlatFace, FlatEdge}
use Rattle.ff_types.specs.Rings.{corner, after, Goes}
use Rattle.ff_types.specs.Faces.{ring_at}
use Rattle.ff_types.specs.Sheets.{Sheet, sheet_of, is_face, tail, head}
use Rattle.ff_types.specs.Inside.{steps, depth, is_inside, HaveCommon}
use Rattle.ff_types.specs.Witnesses.{witness_edge, witness_face, IsWitness}
use Rattle.ff_types.specs.Borders.{is_on}
use Rattle.ff_types.specs.Segments.{HasEdgeInside}
use Rattle.ff_types.specs.FoldedPatterns.{IsFoldedPattern}
use Rattle.ff_types.proofs.FoldedOverlap.{goes_step}
use Rattle.ff_borders.specs.Running.{WitnessedHold}
use Rattle.ff_borders.proofs.Tests.{below_from, on_from, to_on}
use Rattle.ff_borders.proofs.Steps.{step_line, depth-line}
use Rattle.ff_borders.proofs.TwoSides.{folded_edge, flat_edge}
use Rattle.ff_borders.proofs.Middles.{middle_place, on_middle, inside_from}
use Rattle.ff_borders.proofs.Running.{inside_by_one_place}

-- ---- sums of places

total_is_place : (p : Place) (qs : List Place) → All IsPlace (p ∷ qs) → IsPlace (total_place p qs)
total_is_place p [] h = All-head IsPlace p [] h
total_is_place p (q ∷ qs) h =
    middle_place p (total_place q qs) (All-head IsPlace p (q ∷ qs) h)
    (total_is_place q qs (All-tail IsPlace p (q ∷ qs) h))

total_on : (g : Sheet) (e : ℕ) (p : Place) (qs : List Place) → IsTrue (list_all (is_on g e) (p ∷ qs))
    → IsOn (tail g e) (head g e) (total_place p qs)
total_on g e p [] t = on_from g e p (both_of (is_on g e p) true t).0
total_on g e p (q ∷ qs) t = let b =
    both_of (is_on g e p) (list_all (is_on g e) (q ∷ qs)) t in
    on_middle (tail g e) (head g e) p (total_place q qs) (on_from g e p b.0) (total_on g e q qs b.1)

-- what a witness says of a step
module _ (g : Sheet) (f : ℕ) (places : List Place) (x y : ℕ)
    (t : IsTrue (witness_edge g f places (x, y))) where
  parts : IsTrue (list_all (λ s. int_le (pos 0) (depth g f s (x, y))) places)
      × IsTrue (list_any (λ s. int_lt (pos 0) (depth g f s (x, y))) places)
  parts = both_of (list_all (λ s. int_le (pos 0) (depth g f s (x, y))) places)
      (list_any (λ s. int_lt (pos 0) (depth g f s (x, y))) places) t

  none_right : All (λ s. pos 0 ≤ℤ height (step_line g f (x, y)) s) places
  none_right = each_from (λ s. pos 0 ≤ℤ height (step_line g f (x, y)) s) places
      (λ s m. subst (λ z. pos 0 ≤ℤ z) (depth-line g f s x y)
      (le_from (depth g f s (x, y))
      (all_at (λ s. int_le (pos 0) (depth g f s (x, y))) places parts.0 s m)))

  one_left : (s : Place) × Contains places s × (pos 0 <ℤ height (step_line g f (x, y)) s)
  one_left = let r = some_at (λ s. int_lt (pos 0) (depth g f s (x, y))) places parts.1 in
      (r.0, r.1, subst (λ z. pos 0 <ℤ z) (depth-line g f r.0 x y) (lt_from (depth g f r.0 (x, y)) r.2))

edge_of_face : (g : Sheet) (f : ℕ) (places : List Place) (x y : ℕ) → IsTrue (witness_face g places f)
    → Goes (ring_at g.rings f) x y → IsTrue (witness_edge g f places (x, y))
edge_of_face g f places x y t goes =
    all_at (witness_edge g f places) (steps (ring_at g.rings f))
    (both_of (is_face g f) (list_all (witness_edge g f places) (steps (ring_at g.rings f))) t).1 (x, y)
    (goes_step (ring_at g.rings f) x y goes)

-- the sum is inside the face
total_inside : (g : Sheet) (f : ℕ) (p : Place) (qs : List Place) → IsTrue (witness_face g (p ∷ qs) f)
    → IsTrue (is_inside g f (total_place p qs))
total_inside g f p qs t =
    inside_from g f (total_place p qs) (below_from f (length g.rings) (both_of (is_face g f) _ t).0)
    (λ x y goes.
    let u = edge_of_face g f (p ∷ qs) x y t goes in
    let r = one_left g f (p ∷ qs) x y u in
    left-total (step_line g f (x, y)) p qs (none_right g f (p ∷ qs) x y u) r.0 r.1 r.2)

module _ {pattern : Pattern} {faces : Faces} {folded : Folded}
    (h : IsFoldedPattern pattern faces folded) where
  abbrev g : Sheet
  g = sheet_of pattern faces folded

  -- no face is witnessed by no places
  some_place : (f : ℕ) → IsTrue (witness_face g [] f) → ⊥
  some_place f t =
      let ring = ring_at faces.rings f in
      let l = below_from f (length faces.rings) (both_of (is_face g f) _ t).0 in
      let three = (h.faces_are.rings_are.each f l).three in
      let goes : Goes ring (corner ring 0) (after ring 0) =
      record { place = 0; inside = omega (arith, three); from = refl; to = refl } in
      none (one_left g f [] (corner ring 0) (after ring 0)
      (edge_of_face g f [] (corner ring 0) (after ring 0) t goes))
    where
      none : {P : Place → Type 0} → (s : Place) × Contains [] s × P s → ⊥
      none (s, m, p) = no_member s m

  common_of : (f j k : ℕ) (at : List Place) → IsWitness g (f ∷ j ∷ k ∷ []) at → HaveCommon g (f ∷ j ∷ k ∷ [])
  common_of f j k at w = by at w.are_places w.witness where
    by : (at : List Place) → All IsPlace at → IsTrue (list_all (witness_face g at) (f ∷ j ∷ k ∷ []))
        → HaveCommon g (f ∷ j ∷ k ∷ [])
    by [] p t = absurd (some_place f
        (both_of (witness_face g [] f) (list_all (witness_face g []) (j ∷ k ∷ [])) t).0)
    by (q ∷ qs) p t =
        let x = both_of (witness_face g (q ∷ qs) f) (list_all (witness_face g (q ∷ qs)) (j ∷ k ∷ [])) t in
        let y = both_of (witness_face g (q ∷ qs) j) (list_all (witness_face g (q ∷ qs)) (k ∷ [])) x.1 in
        let z = both_of (witness_face g (q ∷ qs) k) true y.1 in
        let s = total_place q qs in
        record {
          at = s;
          place = total_is_place q qs p;
          inside = of_both (is_inside g f s)
              (is_inside g j s && (is_inside g k s && true)) (total_inside g f q qs x.0)
              (of_both (is_inside g j s) (is_inside g k s && true) (total_inside g j q qs y.0)
              (of_both (is_inside g k s) true (total_inside g k q qs z.0) refl));
        }

  inside_of : (e f : ℕ) (at : List Place) → e < length pattern.edges → IsTrue (list_all (is_on g e) at)
      → IsWitness g (f ∷ []) at → HasEdgeInside g f e
  inside_of e f at l on w = by at on w.are_places w.witness where
    by : (at : List Place) → IsTrue (list_all (is_on g e) at) → All IsPlace at
        → IsTrue (list_all (witness_face g at) (f ∷ [])) → HasEdgeInside g f e
    by [] o p t = absurd (some_place f (both_of (witness_face g [] f) true t).0)
    by (q ∷ qs) o p t = (inside_by_one_place h f e l).1 (
      total_place q qs,
      record {
        place = total_is_place q qs p;
        on = to_on g e (total_place q qs)
            (total_on g e q qs o);
        inside = total_inside g f q qs (both_of (witness_face g (q ∷ qs) f) true t).0;
      },
    )

  pub witnessed_hold : WitnessedHold g
  witnessed_hold (Transitivity f j k at) w = (w.0, w.1, common_of f j k at w.2)
  witnessed_hold (TacoTaco e k) w = w
  witnessed_hold (TacoFace e face at) w = (w.0, inside_of e face at (folded_edge g e w.0).0 w.1 w.2)
  witnessed_hold (TacoEdge e flat) w = w
  witnessed_hold (FlatFace flat face at) w = (w.0, inside_of flat face at (flat_edge g flat w.0).0 w.1 w.2)
  witnessed_hold (FlatEdge flat flat2) w = w

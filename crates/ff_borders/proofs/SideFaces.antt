-- Beside a plain border place, on either side, is a place inside every face that covers that side.
use Rattle.std.proofs.Common.{◌≡◌, ◌≢◌, ℕ, suc, ◌<◌, inl, inr, refl, sym, ◌∙◌, ap, subst, arith, pos, ◌<ℤ◌, ◌≤ℤ◌, Bool, true, ◌&&◌, IsTrue, List, [], ◌∷◌, length}
use lib.IntN.{neg_ℤ}
use Rattle.ff_basics.proofs.Tests.{both_of, either_of, of_both}
use Rattle.ff_whole.specs.declared.points.Pt.{Pt}
use Rattle.ff_whole.specs.declared.places.Place.{Place}
use Rattle.ff_whole.specs.Points.{minus, cross}
use Rattle.ff_whole.specs.Places.{IsPlace, place_of, through, height}
use Rattle.ff_whole.specs.Convex.{point_at}
use Rattle.ff_whole.proofs.Formulas.{point_e, point_env, minus_e, cross_e}
use Rattle.ff_whole.proofs.Ring.{opp, solve}
use Rattle.ff_whole.proofs.Signs.{linear, by_sign}
use Rattle.ff_whole.proofs.Turns.{height-back}
use Rattle.ff_whole.proofs.Images.{distance_positive}
use Rattle.ff_whole.proofs.Shifts.{moved}
use Rattle.ff_whole.proofs.Alongs.{way, aside, parallel_from_ends, left_aside}
use Rattle.ff_types.specs.declared.patterns.Pattern.{Pattern}
use Rattle.ff_types.specs.declared.faces.Faces.{Faces}
use Rattle.ff_types.specs.declared.faces.Folded.{Folded}
use Rattle.ff_types.specs.Patterns.{edge_at}
use Rattle.ff_types.specs.Rings.{Goes}
use Rattle.ff_types.specs.Faces.{ring_at}
use Rattle.ff_types.specs.Sheets.{Sheet, sheet_of, tail, head, line_of, bounds}
use Rattle.ff_types.specs.Inside.{is_inside, HaveCommon, Overlap}
use Rattle.ff_types.specs.Borders.{is_on, IsPlainBorder}
use Rattle.ff_types.specs.Covering.{is_on_ring, lies_left, lies_right, covers_left, covers_right}
use Rattle.ff_types.specs.FoldedPatterns.{IsFoldedPattern}
use Rattle.ff_types.proofs.CreaseOverlap.{Listed}
use Rattle.ff_types.proofs.FewFaces.{inside_face}
use Rattle.ff_types.proofs.FoldedEdges.{ends_apart}
use Rattle.ff_types.proofs.FoldedOverlap.{inside_step}
use Rattle.ff_borders.specs.SideFaces.{SidesHavePlaces, SideFacesOverlap, SideFacesHaveCommon}
use Rattle.ff_borders.proofs.Tests.{on_from, between_from, parallel_from, plain_on, ring_edge}
use Rattle.ff_borders.proofs.Steps.{step_line, depth-line, long, step_left, step_wide}
use Rattle.ff_borders.proofs.Parallels.{slant-cross, height-direction}
use Rattle.ff_borders.proofs.RingEdges.{ends_listed}
use Rattle.ff_borders.proofs.Asides.{left_at, right_at}
use Rattle.ff_borders.proofs.Beside.{GoesLeft, faces_far, moved_place, not_right_between, along_parallel}

module _ {pattern : Pattern} {faces : Faces} {folded : Folded}
    (h : IsFoldedPattern pattern faces folded) where
  abbrev g : Sheet
  g = sheet_of pattern faces folded

  abbrev ring : ℕ → List ℕ
  ring f = ring_at faces.rings f

  abbrev Q : ℕ → Pt
  Q v = point_at folded.points v

  -- the way from p to q is that of the edge e, or the way back; the left of it is one side of the edge
  module _ (e : ℕ) (s : Place) (plain : IsPlainBorder g e s) (p q : Pt) (apart : p ≢ q)
      (on : height (through p q) s ≡ pos 0)
      (along : (u : Pt) → cross u (minus (head g e) (tail g e)) ≡ pos 0 → cross u (minus q p) ≡ pos 0) where
    -- a face with a ring edge there, and all of it on the left
    goes_left : (f k : ℕ) → k < length pattern.edges → IsTrue (is_on g k s) → IsTrue (bounds g k f)
        → ((v : ℕ) → Listed (ring f) v → pos 0 ≤ℤ height (through p q) (place_of (Q v)))
        → (f < length faces.rings)
        × ((x y : ℕ) → Goes (ring f) x y → GoesLeft s (way (aside (minus q p))) (step_line g f (x, y)))
    goes_left f k kl t b side = (listed.0, λ x y goes. by x y goes) where
      listed : (f < length faces.rings) × Listed (ring f) (edge_at pattern.edges k).a
          × Listed (ring f) (edge_at pattern.edges k).b
      listed = ends_listed h k f kl b

      by : (x y : ℕ) → Goes (ring f) x y → GoesLeft s (way (aside (minus q p))) (step_line g f (x, y))
      by x y goes =
          let l = step_line g f (x, y) in
          let kt = tail g k in
          let kh = head g k in
          let between = between_from g k s (plain_on g e k s plain kl t).0 in
          let at_tail = step_left h f x y (edge_at pattern.edges k).a listed.0 goes listed.1 in
          let at_head = step_left h f x y (edge_at pattern.edges k).b listed.0 goes listed.2 in
          let low = not_right_between l kt kh s (long h k kl) between at_tail at_head in
          let wide = step_wide h f x y listed.0 goes in
          by_sign (height l s)
          (λ n. absurd (omega (arith, linear)))
          (λ z.
          let par = parallel_from_ends l kt kh s between z at_tail at_head in
          let cross_zero = along (minus kh kt) (sym (slant-cross kt kh (tail g e) (head g e))
          ∙ parallel_from g k e (plain_on g e k s plain kl t).1) in
          let par_too = along_parallel l (minus kh kt) (minus q p) (long h k kl) cross_zero par in
          inr (
            z,
            subst (λ i. pos 0 <ℤ i) (sym (height-direction l (aside (minus q p))))
                (left_aside l p q (Q wide.0) s plain.place (distance_positive p q apart) par_too on z wide.2
                (side wide.0 wide.1)),
          ))
          (λ m. inl m)

    -- a face with the place inside
    inside_left : (f : ℕ) → IsTrue (is_inside g f s)
        → (f < length faces.rings)
        × ((x y : ℕ) → Goes (ring f) x y → GoesLeft s (way (aside (minus q p))) (step_line g f (x, y)))
    inside_left f t = (
      inside_face g f s t,
      λ x y goes. inl
          (subst (λ i. pos 0 <ℤ i) (depth-line g f s x y) (inside_step g f s x y t goes)),
    )

    -- a place for all of them
    place_for : (test : ℕ → Bool)
        → ((f : ℕ) → IsTrue (test f)
        → (f < length faces.rings)
        × ((x y : ℕ) → Goes (ring f) x y → GoesLeft s (way (aside (minus q p))) (step_line g f (x, y))))
        → (t : Place) × IsPlace t × ((f : ℕ) → IsTrue (test f) → IsTrue (is_inside g f t))
    place_for test good =
        let v = way (aside (minus q p)) in
        let r = faces_far g test s v good (length faces.rings) in
        let n = suc r.0 in (
          moved n s v,
          moved_place n s v (omega arith) plain.place refl,
          λ f t. r.1 n (omega arith) f
              (good f t).0 t,
        )

  pub sides_have_places : SidesHavePlaces g
  sides_have_places e s plain = (
    place_for e s plain (tail g e) (head g e) (ends_apart h e plain.edge) on (λ u z. z) (covers_left g e s)
        (λ f t. left f t),
    place_for e s plain (head g e) (tail g e) (λ d. ends_apart h e plain.edge (sym d)) back back_along
        (covers_right g e s) (λ f t. right f t),
  ) where
    on : height (line_of g e) s ≡ pos 0
    on = (on_from g e s plain.on).on

    back : height (through (head g e) (tail g e)) s ≡ pos 0
    back = let a = height-back (tail g e) (head g e) s in let b = on in omega (arith, linear)

    back_along : (u : Pt) → cross u (minus (head g e) (tail g e)) ≡ pos 0
        → cross u (minus (tail g e) (head g e)) ≡ pos 0
    back_along u z = turned u (tail g e) (head g e) ∙ ap neg_ℤ z where
      turned : (u p q : Pt) → cross u (minus p q) ≡ neg_ℤ (cross u (minus q p))
      turned u p q = let u' = point_e 0 in let p' = point_e 2 in let q' = point_e 4 in
          solve (point_env u (point_env p (point_env q []))) (cross_e u' (minus_e p' q'))
          (opp (cross_e u' (minus_e q' p'))) refl

    left : (f : ℕ) → IsTrue (covers_left g e s f)
        → (f < length faces.rings)
        × ((x y : ℕ) → Goes (ring f) x y
        → GoesLeft s (way (aside (minus (head g e) (tail g e)))) (step_line g f (x, y)))
    left f t = elim (either_of (is_inside g f s) (is_on_ring g f s && lies_left g e f) t) [
      | inl i ↦ inside_left e s plain (tail g e) (head g e) (ends_apart h e plain.edge) on (λ u z. z) f i
      | inr r ↦
          let b = both_of (is_on_ring g f s) (lies_left g e f) r in
          let k = ring_edge g f s b.0 in
          goes_left e s plain (tail g e) (head g e) (ends_apart h e plain.edge) on (λ u z. z) f k.0 k.1 k.2
          k.3 (λ v m. left_at g e f v b.1 m)
    ]

    right : (f : ℕ) → IsTrue (covers_right g e s f)
        → (f < length faces.rings)
        × ((x y : ℕ) → Goes (ring f) x y
        → GoesLeft s (way (aside (minus (tail g e) (head g e)))) (step_line g f (x, y)))
    right f t = elim (either_of (is_inside g f s) (is_on_ring g f s && lies_right g e f) t) [
      | inl i ↦ inside_left e s plain (head g e) (tail g e) (λ d. ends_apart h e plain.edge (sym d)) back
          back_along f i
      | inr r ↦
          let b = both_of (is_on_ring g f s) (lies_right g e f) r in
          let k = ring_edge g f s b.0 in
          goes_left e s plain (head g e) (tail g e) (λ d. ends_apart h e plain.edge (sym d)) back back_along f
          k.0 k.1 k.2 k.3
          (λ v m. let c = height-back (tail g e) (head g e) (place_of (Q v)) in
          let d = right_at g e f v b.1 m in omega (arith, linear))
    ]

  pub side_faces_overlap : SideFacesOverlap g
  side_faces_overlap e f k s plain differ = (
    (λ x y. let t = (sides_have_places e s plain).0 in overlap t.0 t.1 (t.2 f x) (t.2 k y)),
    (λ x y. let t = (sides_have_places e s plain).1 in overlap t.0 t.1 (t.2 f x) (t.2 k y)),
  ) where
    overlap : (t : Place) → IsPlace t → IsTrue (is_inside g f t) → IsTrue (is_inside g k t) → Overlap g f k
    overlap t positive x y = record {
      differ = differ;
      common =
          record {
            at = t;
            place = positive;
            inside = of_both (is_inside g f t) (is_inside g k t && true) x
                (of_both (is_inside g k t) true y refl);
          };
    }

  pub side_faces_have_common : SideFacesHaveCommon g
  side_faces_have_common e f j k s plain = (
    (λ x y z. let t = (sides_have_places e s plain).0 in common t.0 t.1 (t.2 f x) (t.2 j y) (t.2 k z)),
    (λ x y z. let t = (sides_have_places e s plain).1 in common t.0 t.1 (t.2 f x) (t.2 j y) (t.2 k z)),
  ) where
    common : (t : Place) → IsPlace t → IsTrue (is_inside g f t) → IsTrue (is_inside g j t)
        → IsTrue (is_inside g k t) → HaveCommon g (f ∷ j ∷ k ∷ [])
    common t positive x y z =
        record {
          at = t;
          place = positive;
          inside = of_both (is_inside g f t)
              (is_inside g j t && (is_inside g k t && true)) x
              (of_both (is_inside g j t) (is_inside g k t && true) y (of_both (is_inside g k t) true z refl));
        }

-- One place tells that an edge runs inside a face, or that two edges run along each other; and where there
-- are plain border places.
use Rattle.std.proofs.Common.{◌≡◌, ◌≢◌, ℕ, ◌<◌, inl, inr, refl, sym, ◌∙◌, ap, subst, arith, ℤ, pos, ◌*ℤ◌, ◌<ℤ◌, true, IsTrue, List, [], ◌∷◌, map, length}
use lib.IntN.{neg_ℤ, *ℤ-zero}
use Rattle.std.specs.List.{All}
use Rattle.std.proofs.lemmas.Int.{ints}
use Rattle.std.proofs.lemmas.List.Elements.{All-nil, All-cons, All-head, All-tail, All-contains}
use Rattle.ff_basics.proofs.Tests.{both_of, of_both}
use Rattle.ff_whole.specs.declared.points.Pt.{Pt}
use Rattle.ff_whole.specs.declared.lines.Line.{Line}
use Rattle.ff_whole.specs.declared.places.Place.{Place}
use Rattle.ff_whole.specs.Points.{minus, dot, cross}
use Rattle.ff_whole.specs.Places.{place_of, through, height, past, slant}
use Rattle.ff_whole.proofs.Formulas.{point_e, point_env, minus_e, dot_e, place_of_e, through_e, height_e, past_e}
use Rattle.ff_whole.proofs.Ring.{num, solve}
use Rattle.ff_whole.proofs.Signs.{linear, zero_from_mul}
use Rattle.ff_whole.proofs.ThreeTerms.{cross-flip}
use Rattle.ff_whole.proofs.Turns.{height-back}
use Rattle.ff_whole.proofs.Offsets.{line_across, height-across}
use Rattle.ff_whole.proofs.OnEdges.{IsOn, dot_nonneg}
use Rattle.ff_whole.proofs.Moves.{KeepsSide}
use Rattle.ff_whole.proofs.Alongs.{IsBetween, NotParallel, leads, aside, parallel-height}
use Rattle.ff_types.specs.declared.patterns.Pattern.{Pattern}
use Rattle.ff_types.specs.declared.faces.Faces.{Faces}
use Rattle.ff_types.specs.declared.faces.Folded.{Folded}
use Rattle.ff_types.specs.Faces.{ring_at}
use Rattle.ff_types.specs.Foldings.{is_up}
use Rattle.ff_types.specs.Sheets.{Sheet, sheet_of, tail, head, line_of, bounds}
use Rattle.ff_types.specs.Inside.{steps, is_inside}
use Rattle.ff_types.specs.Borders.{is_on, is_between, are_parallel}
use Rattle.ff_types.specs.Segments.{ShareSegment, HasEdgeInside}
use Rattle.ff_types.specs.FoldedPatterns.{IsFoldedPattern}
use Rattle.ff_types.proofs.FewFaces.{inside_face}
use Rattle.ff_types.proofs.FoldedOverlap.{goes_step}
use Rattle.ff_borders.specs.PlainPlaces.{EdgesHavePlain, PartsInsideHavePlain, SegmentsHavePlain}
use Rattle.ff_borders.specs.Running.{IsOnInside, InsideByOnePlace, IsBetweenBoth, SharingByOnePlace, SharingAgrees, PlainPlacesTell, NoneInsideOwn, SharingHaveNoCommon}
use Rattle.ff_borders.proofs.Tests.{bounds_from, on_from, to_on, between_from, to_between, parallel_from, to_parallel}
use Rattle.ff_borders.proofs.Steps.{step_line, signed-line, long, left_goes, right_goes}
use Rattle.ff_borders.proofs.Parallels.{slant-cross, leads-side, signed-zero}
use Rattle.ff_borders.proofs.Beside.{map_in}
use Rattle.ff_borders.proofs.Runs.{agree, edges_run_along}
use Rattle.ff_borders.proofs.RingEdges.{ring_edges_dont_cross}
use Rattle.ff_borders.proofs.Nearby.{IsNear, plain_near}
use Rattle.ff_borders.proofs.Middles.{parallel_of_two, across_place, across_place_apart, other_place, middle, middle_place, on_middle, between_middle, inside_from, inside_at, inside_blend}

weaker : {p q : Pt} {s : Place} → IsBetween p q s → IsOn p q s
weaker b = let after = b.after in let before =
    b.before in record { on = b.on; after = omega (arith, linear); before = omega (arith, linear) }

pub on_between_too : (g : Sheet) (e : ℕ) (s : Place) → IsTrue (is_between g e s) → IsTrue (is_on g e s)
on_between_too g e s t = to_on g e s (weaker (between_from g e s t))

-- an edge's first end is on it
start_on : (p q : Pt) → IsOn p q (place_of p)
start_on p q =
    let p' = point_e 0 in let q' = point_e 2 in
    let a : past p q (place_of p) ≡ pos 0 =
    solve (point_env p (point_env q [])) (past_e p' q' (place_of_e p')) (num (pos 0)) refl in
    let b : past q p (place_of p) ≡ dot (minus q p) (minus q p) =
    solve (point_env p (point_env q [])) (past_e q' p' (place_of_e p'))
    (dot_e (minus_e q' p') (minus_e q' p')) refl in
    let d = dot_nonneg (minus q p) in
    record {
      on = solve (point_env p (point_env q [])) (height_e (through_e p' q') (place_of_e p'))
          (num (pos 0)) refl;
      after = omega (arith, linear);
      before = omega (arith, linear);
    }

module _ {pattern : Pattern} {faces : Faces} {folded : Folded}
    (h : IsFoldedPattern pattern faces folded) where
  abbrev g : Sheet
  g = sheet_of pattern faces folded

  abbrev ring : ℕ → List ℕ
  ring f = ring_at faces.rings f

  abbrev way : ℕ → Pt
  way e = minus (head g e) (tail g e)

  -- ---- inside faces

  -- the lines of a face's steps
  abbrev lines : ℕ → List Line
  lines f = map (step_line g f) (steps (ring f))

  -- a place that is across none of them is inside too
  kept_inside : (f : ℕ) (s t : Place) → IsTrue (is_inside g f s) → All (KeepsSide s t) (lines f)
      → IsTrue (is_inside g f t)
  kept_inside f s t i k = inside_from g f t (inside_face g f s i)
      (λ x y goes. (All-contains (KeepsSide s t) (lines f) (step_line g f (x, y)) k
      (map_in (step_line g f) (steps (ring f)) (x, y) (goes_step (ring f) x y goes))).left
      (inside_at g f s x y i goes))

  pub inside_by_one_place : InsideByOnePlace g
  inside_by_one_place f e l = (there, back) where
    there : HasEdgeInside g f e → (s : Place) × IsOnInside g f e s
    there p =
        let b = both_of (is_on g e p.s) (is_on g e p.t) p.on in (
          middle p.s p.t,
          record {
            place = middle_place p.s p.t p.s_place p.t_place;
            on = to_on g e (middle p.s p.t)
                (on_middle (tail g e) (head g e) p.s p.t (on_from g e p.s b.0) (on_from g e p.t b.1));
            inside =
                p.inside 1 1 (omega arith) (omega arith);
          },
        )

    back : (s : Place) × IsOnInside g f e s → HasEdgeInside g f e
    back (s, o) = from (plain_near h e s (lines f) (across_place (tail g e) (head g e) s ∷ []) l o.place o.on
        (All-cons (NotParallel (tail g e) (head g e)) (across_place (tail g e) (head g e) s) []
        (across_place_apart (tail g e) (head g e) s o.place (long h e l))
        (All-nil (NotParallel (tail g e) (head g e))))) where
          from : (t : Place) × IsNear h e s (lines f) (across_place (tail g e) (head g e) s ∷ []) t
              → HasEdgeInside g f e
          from (t, n) = record {
            s = s;
            t = t;
            s_place = o.place;
            t_place = n.plain.0.place;
            differ = other_place (tail g e) (head g e) s t
                (All-head (λ l. height l t ≢ pos 0) (across_place (tail g e) (head g e) s) [] n.off);
            on = of_both (is_on g e s) (is_on g e t) o.on n.plain.0.on;
            inside = inside_blend g f s t o.inside (kept_inside f s t o.inside n.keeps);
          }

  pub parts_inside_have_plain : PartsInsideHavePlain g
  parts_inside_have_plain f e l p =
      let o = (inside_by_one_place f e l).0 p in
      let n = plain_near h e o.0 (lines f) [] l o.1.place o.1.on
      (All-nil (NotParallel (tail g e) (head g e))) in
      (n.0, n.1.plain, kept_inside f o.0 n.0 o.1.inside n.1.keeps)

  pub edges_have_plain : EdgesHavePlain g
  edges_have_plain e l =
      let n = plain_near h e (place_of (tail g e)) [] [] l (omega (arith, ints))
      (to_on g e (place_of (tail g e)) (start_on (tail g e) (head g e)))
      (All-nil (NotParallel (tail g e) (head g e))) in
      (n.0, n.1.plain)

  -- an edge is along the border of its face
  own_zero : (e f : ℕ) (s : Place) → e < length pattern.edges → IsTrue (bounds g e f)
      → height (line_of g e) s ≡ pos 0 → IsTrue (is_inside g f s) → ⊥
  own_zero e f s l b z t = elim (bounds_from g e f b) [
    | inl d ↦
        let goes = left_goes h e f l d in
        let p = inside_at g f s _ _ t goes.1 in
        let n = sym (signed-line (is_up folded.up f) (tail g e) (head g e) s)
        ∙ signed-zero (is_up folded.up f) _ z in omega (arith, linear)
    | inr d ↦
        let goes = right_goes h e f l d in
        let p = inside_at g f s _ _ t goes.1 in
        let back = height-back (tail g e) (head g e) s in
        let n = sym (signed-line (is_up folded.up f) (head g e) (tail g e) s)
        ∙ signed-zero (is_up folded.up f) (height (through (head g e) (tail g e)) s)
        (omega (arith, linear)) in omega (arith, linear)
  ]

  pub none_inside_own : NoneInsideOwn g
  none_inside_own f e l p b = let o =
      (inside_by_one_place f e l).0 p in own_zero e f o.0 l b (on_from g e o.0 o.1.on).on o.1.inside

  -- ---- along each other

  shared_on : (e k : ℕ) (p : ShareSegment g e k)
      → (IsOn (tail g e) (head g e) p.s × IsOn (tail g e) (head g e) p.t)
      × (IsOn (tail g k) (head g k) p.s × IsOn (tail g k) (head g k) p.t)
  shared_on e k p =
      let a = both_of (is_on g e p.s) (is_on g e p.t) p.first in
      let b = both_of (is_on g k p.s) (is_on g k p.t) p.second in
      ((on_from g e p.s a.0, on_from g e p.t a.1), (on_from g k p.s b.0, on_from g k p.t b.1))

  shared_flat : (e k : ℕ) → ShareSegment g e k → slant (line_of g e) (line_of g k) ≡ pos 0
  shared_flat e k p = let o =
      shared_on e k p in parallel_of_two (line_of g e) (line_of g k) p.s p.t p.differ o.0.0.on o.1.0.on
      o.0.1.on o.1.1.on

  shared_middle : (e k : ℕ) → e < length pattern.edges → k < length pattern.edges → ShareSegment g e k
      → (s : Place) × IsBetweenBoth g e k s
  shared_middle e k el kl p =
      let o = shared_on e k p in
      let m = middle p.s p.t in (
        m,
        record {
          place = middle_place p.s p.t p.s_place p.t_place;
          first = to_between g e m (between_middle (tail g e) (head g e) p.s p.t (long h e el) o.0.0 o.0.1
              p.differ);
          second = to_between g k m
              (between_middle (tail g k) (head g k) p.s p.t (long h k kl) o.1.0 o.1.1 p.differ);
        },
      )

  -- close to a place between the ends of both, on the first, a place is between the ends of the second
  abbrev ends_of : ℕ → List Line
  ends_of k = line_across (tail g k) (head g k) ∷ line_across (head g k) (tail g k) ∷ []

  still_between : (e k : ℕ) (s t : Place) → e < length pattern.edges → IsTrue (are_parallel g e k)
      → IsBetweenBoth g e k s → height (line_of g e) t ≡ pos 0 → All (KeepsSide s t) (ends_of k)
      → IsBetween (tail g k) (head g k) t
  still_between e k s t l par b on keeps =
      let x = between_from g e s b.first in
      let y = between_from g k s b.second in
      let flip = cross-flip (way e) (way k) in
      let flat = sym (slant-cross (tail g e) (head g e) (tail g k) (head g k)) ∙ parallel_from g e k par in
      let scaled = parallel-height (line_of g k) (tail g e) (head g e) s b.place (long h e l)
      (leads-side true (tail g k) (head g k) (way e) ∙ flat_back flat) x.on y.on t in
      let c = leads (line_of g k) (aside (way e)) in
      let z : c *ℤ height (line_of g e) t ≡ pos 0 = ap (λ r. c *ℤ r) on ∙ *ℤ-zero c in
      let first = All-head (KeepsSide s t) (line_across (tail g k) (head g k))
      (line_across (head g k) (tail g k) ∷ []) keeps in
      let second = All-head (KeepsSide s t) (line_across (head g k) (tail g k)) []
      (All-tail (KeepsSide s t) (line_across (tail g k) (head g k))
      (line_across (head g k) (tail g k) ∷ []) keeps) in
      record {
        on = zero_from_mul (dot (way e) (way e)) (height (line_of g k) t) (long h e l)
            (omega (arith, linear));
        after = subst (λ r. pos 0 <ℤ r) (height-across (tail g k) (head g k) t)
            (first.left (subst (λ r. pos 0 <ℤ r) (sym (height-across (tail g k) (head g k) s)) y.after));
        before = subst (λ r. pos 0 <ℤ r) (height-across (head g k) (tail g k) t)
            (second.left (subst (λ r. pos 0 <ℤ r) (sym (height-across (head g k) (tail g k) s)) y.before));
      }
    where
      flat_back : cross (way e) (way k) ≡ pos 0 → cross (way k) (way e) ≡ pos 0
      flat_back z = let f = cross-flip (way e) (way k) in omega (arith, linear)

  pub sharing_by_one_place : SharingByOnePlace g
  sharing_by_one_place e k el kl = (
    (λ p. (to_parallel g e k (shared_flat e k p), shared_middle e k el kl p)),
    (λ q. from q.0 q.1.0 q.1.1),
  ) where
    from : IsTrue (are_parallel g e k) → (s : Place) → IsBetweenBoth g e k s → ShareSegment g e k
    from par s b = by (plain_near h e s (ends_of k) (across_place (tail g e) (head g e) s ∷ []) el b.place
        (on_between_too g e s b.first)
        (All-cons (NotParallel (tail g e) (head g e)) (across_place (tail g e) (head g e) s) []
        (across_place_apart (tail g e) (head g e) s b.place (long h e el))
        (All-nil (NotParallel (tail g e) (head g e))))) where
          by : (t : Place) × IsNear h e s (ends_of k) (across_place (tail g e) (head g e) s ∷ []) t
              → ShareSegment g e k
          by (t, n) = record {
            s = s;
            t = t;
            s_place = b.place;
            t_place = n.plain.0.place;
            differ = other_place (tail g e) (head g e) s t
                (All-head (λ l. height l t ≢ pos 0) (across_place (tail g e) (head g e) s) [] n.off);
            first = of_both (is_on g e s) (is_on g e t) (on_between_too g e s b.first) n.plain.0.on;
            second = of_both (is_on g k s) (is_on g k t) (on_between_too g k s b.second)
                (to_on g k t (weaker (still_between e k s t el par b (on_from g e t n.plain.0.on).on
                n.keeps)));
          }

  pub segments_have_plain : SegmentsHavePlain g
  segments_have_plain e k el kl p =
      let q = (sharing_by_one_place e k el kl).0 p in
      let s = q.1.0 in
      let b = q.1.1 in
      let n = plain_near h e s (ends_of k) [] el b.place (on_between_too g e s b.first)
      (All-nil (NotParallel (tail g e) (head g e))) in
      let t = to_between g k n.0
      (still_between e k s n.0 el q.0 b (on_from g e n.0 n.1.plain.0.on).on n.1.keeps) in
      (n.0, n.1.plain, ((edges_run_along h e k n.0 n.1.plain.0 kl (on_between_too g k n.0 t)).plain, t))

  pub sharing_agrees : SharingAgrees g
  sharing_agrees e k el kl p =
      let o = shared_on e k p in
      let flip = cross-flip (way e) (way k) in
      let flat = sym (slant-cross (tail g e) (head g e) (tail g k) (head g k)) ∙ shared_flat e k p in (
        record {
          s = p.s;
          t = p.t;
          s_place = p.s_place;
          t_place = p.t_place;
          differ = p.differ;
          first =
              p.second;
          second = p.first;
        },
        agree h e k p.s el kl p.s_place o.0.0.on o.1.0.on (omega (arith, linear)),
      )

  pub plain_places_tell : PlainPlacesTell g
  plain_places_tell e k s plain l on = (
    (λ f t. (inside_by_one_place f k l).1 (s, record { place = plain.place; on = on; inside = t })),
    (λ j jl t.
        let a = edges_run_along h e k s plain l on in
        let b = edges_run_along h k j s a.plain jl t in
        let flip = cross-flip (way j) (way k) in
        let flat = sym (slant-cross (tail g j) (head g j) (tail g k) (head g k))
        ∙ parallel_from g j k b.parallel in
        (sharing_by_one_place k j l jl).1 (
          to_parallel g k j (slant-cross (tail g k) (head g k) (tail g j) (head g j) ∙ turned flip flat),
          (s, record { place = plain.place; first = a.between; second = b.between }),
        )),
  ) where
    turned : {x y : ℤ} → x ≡ neg_ℤ y → y ≡ pos 0 → x ≡ pos 0
    turned e z = e ∙ ap neg_ℤ z

  pub sharing_have_no_common : SharingHaveNoCommon g
  sharing_have_no_common e k f el kl differ p be bk =
      let m = shared_middle e k el kl p in
      differ (ring_edges_dont_cross h e k f m.0 el kl m.1.place be bk m.1.first m.1.second)

-- The cells of one slab: each has the faces over a place in a gap, and corners of the gap.
use Rattle.std.proofs.Common.{ℕ, zero, suc, ◌≡◌, ◌⊎◌, ◌↔◌, inl, inr, ◌+◌, ◌-◌, ◌<◌, ◌≤◌, List, [], ◌∷◌, length, get_or, arith, refl, sym, ap, subst, ◌∙◌, ℤ, pos, ◌<ℤ◌, ◌≤ℤ◌, Bool, true, false, ◌&&◌, ◌||◌, IsTrue}
use Rattle.std.specs.Prelude.{int_le, int_lt, T}
use Rattle.std.specs.List.{All, Contains}
use Rattle.std.proofs.lemmas.Int.{ints}
use Rattle.std.proofs.lemmas.Bool.{lt-ltb}
use Rattle.std.proofs.lemmas.List.{get_or_default}
use Rattle.ff_basics.proofs.Lists.{all_from}
use Rattle.ff_basics.proofs.Tests.{of_both, to_le, to_lt}
use Rattle.ff_whole.proofs.Signs.{linear}
use Rattle.ff_whole.specs.Places.{height, through, IsPlace}
use Rattle.ff_whole.specs.Sizes.{IsSmallPlace}
use Rattle.ff_whole.specs.Convex.{point_at}
use Rattle.ff_whole.specs.declared.lines.Line.{Line}
use Rattle.ff_whole.specs.declared.places.Place.{Place}
use Rattle.ff_types.specs.Rings.{corner, after, Goes}
use Rattle.ff_types.specs.Faces.{ring_at}
use Rattle.ff_types.specs.Foldings.{is_up, signed}
use Rattle.ff_types.specs.Sheets.{Sheet}
use Rattle.ff_types.specs.Inside.{over, steps, depth}
use Rattle.ff_types.specs.Borders.{is_on}
use Rattle.ff_types.specs.Witnesses.{witness_edge, witness_face, IsWitness as IsWitnessOf}
use Rattle.ff_types.proofs.FoldedOverlap.{step_goes}
use Rattle.ff_cells.specs.declared.bars.Bar.{Bar}
use Rattle.ff_cells.specs.declared.cell.Cell.{Cell}
use Rattle.ff_cells.specs.FaceSets.{HasDirection, AreOffLines}
use Rattle.ff_cells.specs.Gap.{run, spot}
use Rattle.ff_cells.specs.Sheet.{Spans, IsSlab, IsUnder, IsCut, IsGapOf, IsInside, total}
use Rattle.ff_cells.specs.Next.{IsAmong, IsAfter}
use Rattle.ff_cells.specs.Emits.{IsCellAt}
use Rattle.ff_cells.specs.SlabCells.{IsOnBorder, PassesBelow, PassesAbove, IsBelow, IsInCell, IsCornerOf, IsSlabCell, middle}
use Rattle.ff_cells.proofs.Gaps.{not_under_lower, not_over_upper, gap-inside}
use Rattle.ff_cells.proofs.Cuts.{run-opposite, run-trans_first, run-trans_last}
use Rattle.ff_cells.proofs.Corners as corners
use Rattle.ff_cells.proofs.Corners.{not_on_line, run-trans}
use Rattle.ff_cells.proofs.Exact as exact
use Rattle.ff_cells.proofs.BarEdges.{Reaches, on_edge, from_below, from_above, passes_below, passes_above}
use Rattle.ff_cells.proofs.Faces.{step_line, IsStep}
use Rattle.ff_cells.proofs.Drawn.{IsDrawn, from_inside, to_inside, depth_height}
use Rattle.ff_cells.proofs.FaceLists.{over_inside, inside_over, over_rising, rising_equal, face_below}
use Rattle.ff_cells.proofs.Slices as slices
use Rattle.ff_cells.proofs.Slices.{IsSlice, HasBorder, run_same, one_place}

from_test : (b : Bool) → T b → IsTrue b
from_test true t = refl
from_test false t = absurd t

one_of : (a b c : Bool) → (IsTrue a) ⊎ ((IsTrue b) ⊎ (IsTrue c)) → IsTrue (a || (b || (c || false)))
one_of true b c h = refl
one_of false true c h = refl
one_of false false true h = refl
one_of false false false (inl h) = h
one_of false false false (inr (inl h)) = h
one_of false false false (inr (inr h)) = h

three_of : (P : Place → Type 0) (a b c : Place) → P a → P b → P c → All P (a ∷ b ∷ c ∷ [])
three_of P a b c x y z zero d lt = x
three_of P a b c x y z (suc zero) d lt = y
three_of P a b c x y z (suc (suc zero)) d lt = z
three_of P a b c x y z (suc (suc (suc k))) d lt = absurd (omega (arith, lt))

module _ {g : Sheet} {bars : List Bar} (d : IsDrawn g bars) {left right : Place} {v : List Bar}
    {cs : List Cell} (c : IsSlice g bars left right v cs) (m : ℕ) (cell : Cell)
    (h : IsCellAt v left right m cell) where
  abbrev Has : Bar → Type 0
  Has = Contains bars

  abbrev Low : Bar → Type 0
  Low = IsAmong v ((m - 1) + 1)

  abbrev High : Bar → Type 0
  High = IsAfter v ((m - 1) + 1)

  abbrev mid : Place
  mid = total h.low_left h.low_right h.top

  slab : IsSlab Has left right
  slab = slices.slab_is d c

  gap_is : IsGapOf Has Low High left right h.low h.high
  gap_is = exact.gap_is d.faces c.strip c.left_positive c.right_positive c.after c.starts c.next m cell h

  pub cut_is : IsCut Has Low High left right mid
  cut_is = exact.cut_is d.faces c.strip c.left_positive c.right_positive c.after c.starts c.next m cell h

  pub middle_is : middle cell.at ≡ mid
  middle_is = ap middle h.at_is

  pub mid_within : slices.IsWithin d c mid
  mid_within = let t = cut_is in record { place = t.positive; after = t.after; before = t.before }

  inside_iff : (f : ℕ) → Contains cell.faces f ↔ IsInside (IsStep g) f mid
  inside_iff f = exact.sound_faces d.faces c.strip c.left_positive c.right_positive c.after c.starts c.next m
      cell h f

  pub faces_are : cell.faces ≡ over g mid
  faces_are = rising_equal cell.faces (over g mid) h.rising (over_rising g mid) (λ f. (
    λ k. (let i = (inside_iff f).0 k in inside_over g mid f (to_inside g f mid i.0.1.0 i.1)),
    λ k. (let t = over_inside g mid f k in (inside_iff f).1 (from_inside g f mid
        (d.rings_some f (face_below g f mid t)) t)),
  ))

  off_bars : slices.IsOffBars d c mid
  off_bars k f lt z = by (each_bar k lt)
    where
      each_bar : (k : ℕ) → k < length v → (k < (m - 1) + 1) ⊎ ((m - 1) + 1 ≤ k)
      each_bar k lt = grind arith

      by : (k < (m - 1) + 1) ⊎ ((m - 1) + 1 ≤ k) → ⊥
      by (inl a) = let l = cut_is.low (get_or v k f) (k, lt, a, get_or_default v k (get_or v k f) f lt) in
          omega (arith, linear)
      by (inr a) = let l = cut_is.high (get_or v k f) (k, lt, a, get_or_default v k (get_or v k f) f lt) in
          omega (arith, linear)

  pub in_cell : IsInCell g mid
  in_cell = record {
    place = mid_within.place;
    between = slices.between d c mid mid_within;
    off = slices.off_of d c mid mid_within off_bars;
    some = subst (λ fs. 0 < length fs) faces_are h.some;
  }

  -- ---- corners

  abbrev near : Place → Type 0
  near s = corners.IsNear slab gap_is s

  -- a bar that passes strictly below the middle is no higher than the lower bar of the gap
  below_low : (y : Bar) → Has y → Spans left right y → pos 0 <ℤ height y.line mid
      → IsUnder left right y.line h.low.line
  below_low y has s over = elim (cut_is.each y has s) [
    | inl low ↦ gap_is.low y low
    | inr high ↦ (let k = cut_is.high y high in absurd (omega (arith, linear)))
  ]

  above_high : (y : Bar) → Has y → Spans left right y → height y.line mid <ℤ pos 0
      → IsUnder left right h.high.line y.line
  above_high y has s under = elim (cut_is.each y has s) [
    | inl low ↦ (let k = cut_is.low y low in absurd (omega (arith, linear)))
    | inr high ↦ gap_is.high y high
  ]

  not_below : (s : Place) → near s → IsBelow g s mid → ⊥
  not_below s n (e, lt, top, low) =
      let b = slices.spanning_bar d c e lt mid mid_within low.0 low.1 low.3 low.2 in
      let u = from_above g e b.0 b.2 s n.positive top in
      let w = from_below g e b.0 b.2 mid mid_within.place low in
      let k = below_low b.0 b.1 b.3 w.1 in
      let o = not_under_lower b.0.line h.low.line s b.0.ok.rising.rises h.low.ok.rising.rises
      (gap-inside b.0.line h.low.line left right s slab.wide n.after n.before k.at_left k.at_right) n.over
      in
      let x = u.1 in
      omega (arith, linear)

  not_above : (s : Place) → near s → IsBelow g mid s → ⊥
  not_above s n (e, lt, top, low) =
      let b = slices.spanning_bar d c e lt mid mid_within top.0 top.1 top.3 top.2 in
      let u = from_above g e b.0 b.2 mid mid_within.place top in
      let w = from_below g e b.0 b.2 s n.positive low in
      let k = above_high b.0 b.1 b.3 u.1 in
      let o = not_over_upper h.high.line b.0.line s h.high.ok.rising.rises b.0.ok.rising.rises
      (gap-inside h.high.line b.0.line left right s slab.wide n.after n.before k.at_left k.at_right)
      n.under in
      let x = w.1 in
      omega (arith, linear)

  -- a bar reaches each place between the borders, or on one, if it spans the slab
  reaches : (b : Bar) → Spans left right b → (s : Place) → near s → Reaches b s
  reaches b sp s n = record {
    after = run-trans (spot b.lo) left s one_place c.left_positive n.positive sp.after n.after;
    before = run-trans s right (spot b.hi) n.positive c.right_positive one_place n.before sp.before;
  }

  low_has : Has h.low × Spans left right h.low
  low_has = let a = exact.low_among d.faces c.strip c.left_positive c.right_positive c.after c.starts c.next m
      cell h in (gap_is.low_has h.low a, gap_is.low_spans h.low a)

  high_has : Has h.high × Spans left right h.high
  high_has = let a = exact.high_after d.faces c.strip c.left_positive c.right_positive c.after c.starts c.next
      m cell h in (gap_is.high_has h.high a, gap_is.high_spans h.high a)

  low_below : pos 0 <ℤ height h.low.line mid
  low_below = cut_is.low h.low (exact.low_among d.faces c.strip c.left_positive c.right_positive c.after
      c.starts c.next m cell h)

  high_above : height h.high.line mid <ℤ pos 0
  high_above = cut_is.high h.high (exact.high_after d.faces c.strip c.left_positive c.right_positive c.after
      c.starts c.next m cell h)

  on_low : (s : Place) → near s → height h.low.line s ≡ pos 0 → (e : ℕ) × (e < length g.edges)
      × IsTrue (is_on g e s) × (PassesBelow g e mid ⊎ PassesAbove g e mid)
  on_low s n z =
      let e = d.bar_edge h.low low_has.0 in
      let r = reaches h.low low_has.1 s n in
      let q = reaches h.low low_has.1 mid (mid_near) in (
        e.0,
        e.1,
        on_edge g e.0 h.low e.2 s (record {
          on = subst
              (λ (l : Line). height l s ≡ pos 0) h.low.ok.through z;
          after = r.after;
          before = r.before;
        }),
        inl (passes_below h.low mid mid_within.place q g e.0 e.2 low_below),
      )
    where
      mid_near : near mid
      mid_near = let w = mid_within in let a = low_below in let b = high_above in let x = w.after in
          let y = w.before in record {
            positive = w.place;
            after = omega (arith, linear);
            before = omega (arith, linear);
            over = omega (arith, linear);
            under = omega (arith, linear);
          }

  on_high : (s : Place) → near s → height h.high.line s ≡ pos 0 → (e : ℕ) × (e < length g.edges)
      × IsTrue (is_on g e s) × (PassesBelow g e mid ⊎ PassesAbove g e mid)
  on_high s n z =
      let e = d.bar_edge h.high high_has.0 in
      let r = reaches h.high high_has.1 s n in
      let q = reaches h.high high_has.1 mid (mid_near) in (
        e.0,
        e.1,
        on_edge g e.0 h.high e.2 s (record {
          on = subst
              (λ (l : Line). height l s ≡ pos 0) h.high.ok.through z;
          after = r.after;
          before = r.before;
        }),
        inr (passes_above h.high mid mid_within.place q g e.0 e.2 high_above),
      )
    where
      mid_near : near mid
      mid_near = let w = mid_within in let a = low_below in let b = high_above in let x = w.after in
          let y = w.before in record {
            positive = w.place;
            after = omega (arith, linear);
            before = omega (arith, linear);
            over = omega (arith, linear);
            under = omega (arith, linear);
          }

  moved_border : (at s : Place) → pos 0 <ℤ at.w → pos 0 <ℤ s.w → run at s ≡ pos 0 → HasBorder g at
      → (b : Place) × IsPlace b × IsOnBorder g b × (run b s ≡ pos 0)
  moved_border at s ha hs same (b, place, on, z) =
      let o = run-trans b at s place ha hs (omega (arith, linear)) (omega (arith, linear)) in
      let x = run-opposite b at in
      let y = run-opposite at s in
      let p = run-trans s at b hs ha place (omega (arith, linear)) (omega (arith, linear)) in
      let q = run-opposite b s in
      (b, place, on, omega (arith, linear))

  at_left : (s : Place) → near s → run left s ≡ pos 0 → (e : ℕ) × (e < length g.edges) × IsTrue (is_on g e s)
      × (PassesBelow g e mid ⊎ PassesAbove g e mid) → IsCornerOf g mid s
  at_left s n same on = record {
    border = moved_border left s c.left_positive n.positive same c.left_border;
    not_left = λ (b, place, at, x, y).
        slices.no_border d c b place at (run-trans_last left s b c.left_positive n.positive place
        (omega (arith, linear)) x) (run-trans_last b mid right place mid_within.place c.right_positive
        (omega (arith, linear)) mid_within.before);
    not_right = λ (b, place, at, x, y). (
        let o = run-opposite left s in
        let z = run-trans_first b s left place n.positive c.left_positive y (omega (arith, linear)) in
        let a = run-trans_first left mid b c.left_positive mid_within.place place mid_within.after
        (omega (arith, linear)) in
        let q = run-opposite left b in
        omega (arith, linear));
    on = on;
    not_below = not_below s n;
    not_above = not_above s n;
  }

  at_right : (s : Place) → near s → run right s ≡ pos 0 → (e : ℕ) × (e < length g.edges)
      × IsTrue (is_on g e s) × (PassesBelow g e mid ⊎ PassesAbove g e mid) → IsCornerOf g mid s
  at_right s n same on = record {
    border = moved_border right s c.right_positive n.positive same c.right_border;
    not_left = λ (b, place, at, x, y). (
        let z = run-trans_last right s b c.right_positive n.positive place (omega (arith, linear)) x in
        let a = run-trans_last b mid right place mid_within.place c.right_positive
        (omega (arith, linear)) mid_within.before in
        let q = run-opposite right b in
        omega (arith, linear));
    not_right = λ (b, place, at, x, y). (
        let o = run-opposite right s in
        slices.no_border d c b place at (run-trans_first left mid b c.left_positive mid_within.place place
        mid_within.after (omega (arith, linear))) (run-trans_first b s right place n.positive
        c.right_positive y (omega (arith, linear))));
    on = on;
    not_below = not_below s n;
    not_above = not_above s n;
  }

  first_corner : IsCornerOf g mid h.low_left
  first_corner = let n = corners.near_a slab gap_is h.corners in
      at_left h.low_left n h.corners.first.same (on_low h.low_left n h.corners.first.on)

  second_corner : IsCornerOf g mid h.low_right
  second_corner = let n = corners.near_b slab gap_is h.corners in
      at_right h.low_right n h.corners.second.same (on_low h.low_right n h.corners.second.on)

  third_corner : IsCornerOf g mid h.top
  third_corner = let n = (corners.top slab gap_is h.corners).near in elim h.corners.third [
    | inl (s, o) ↦ at_left h.top n s.same (on_high h.top n s.on)
    | inr (s, o) ↦ at_right h.top n s.same (on_high h.top n s.on)
  ]

  third_small : IsSmallPlace h.top
  third_small = elim h.corners.third [ inl (s, o) ↦ s.small | inr (s, o) ↦ s.small ]

  wide : pos 0 <ℤ run h.low_left h.low_right
  wide =
      let s = h.corners.first in
      let o = run-opposite left h.low_left in
      let a = corners.away slab gap_is h.corners in
      run-trans_last h.low_left left h.low_right s.positive c.left_positive h.corners.second.positive
      (let q = s.same in omega (arith, linear)) a

  apart : (l : Line) → HasDirection l → All (λ s. height l s ≡ pos 0) (h.low_left ∷ h.low_right ∷ h.top ∷ [])
      → ⊥
  apart l way all = not_on_line h.low.line l h.low_left h.low_right h.top h.low.ok.rising.rises
      h.corners.first.positive wide h.corners.first.on h.corners.second.on
      (corners.top slab gap_is h.corners).above way
      (all 0 mid (omega arith)) (all 1 mid (omega arith)) (all 2 mid (omega arith))

  -- ---- the corners witness the faces

  witness_at : (f : ℕ) → Contains cell.faces f → IsTrue (witness_face g
      (h.low_left ∷ h.low_right ∷ h.top ∷ []) f)
  witness_at f k = of_both _ _ (lt-ltb f (length g.rings) face)
      (all_from (witness_edge g f (h.low_left ∷ h.low_right ∷ h.top ∷ [])) (steps (ring_at g.rings f)) each)
    where
      face : f < length g.rings
      face = ((inside_iff f).0 k).0.1.0

      line_at : ℕ → Line
      line_at i = step_line g.images (ring_at g.rings f) (is_up g.up f) i

      deep : (s : Place) (x y : ℕ) (go : Goes (ring_at g.rings f) x y)
          → depth g f s (x, y) ≡ height (line_at go.place) s
      deep s x y go =
          ap (λ z. signed (is_up g.up f) (height (through (point_at g.images z) (point_at g.images y)) s))
          (sym go.from)
          ∙ (ap (λ z. signed (is_up g.up f) (height (through
          (point_at g.images (corner (ring_at g.rings f) go.place)) (point_at g.images z)) s)) (sym go.to)
          ∙ depth_height (is_up g.up f) (point_at g.images (corner (ring_at g.rings f) go.place))
          (point_at g.images (after (ring_at g.rings f) go.place)) s)

      each : (step : ℕ × ℕ) → Contains (steps (ring_at g.rings f)) step
          → IsTrue (witness_edge g f (h.low_left ∷ h.low_right ∷ h.top ∷ []) step)
      each (x, y) at =
          let go = step_goes (ring_at g.rings f) x y at in
          let w = exact.sound_witness d.faces c.strip c.left_positive c.right_positive c.after c.starts c.next
          m cell h f (line_at go.place) k (face, (go.place, go.inside, refl)) in
          let a = deep h.low_left x y go in
          let b = deep h.low_right x y go in
          let t = deep h.top x y go in
          of_both _ _
          (of_both _ _ (to_le _ (subst (λ z. pos 0 ≤ℤ z) (sym a) w.first))
          (of_both _ _ (to_le _ (subst (λ z. pos 0 ≤ℤ z) (sym b) w.second))
          (of_both _ _ (to_le _ (subst (λ z. pos 0 ≤ℤ z) (sym t) w.third)) refl)))
          (one_of _ _ _ (elim w.some [
            | inl o ↦ inl (to_lt _ (subst (λ z. pos 0 <ℤ z) (sym a) o))
            | inr (inl o) ↦ inr (inl (to_lt _ (subst (λ z. pos 0 <ℤ z) (sym b) o)))
            | inr (inr o) ↦ inr (inr (to_lt _ (subst (λ z. pos 0 <ℤ z) (sym t) o)))
          ]))

  witnessed : IsWitnessOf g cell.faces (h.low_left ∷ h.low_right ∷ h.top ∷ [])
  witnessed = record {
    are_places = three_of IsPlace h.low_left h.low_right h.top h.corners.first.positive
        h.corners.second.positive third_small.positive;
    witness = all_from (witness_face g (h.low_left ∷ h.low_right ∷ h.top ∷ [])) cell.faces witness_at;
  }

  pub slab_cell : IsSlabCell g cell
  slab_cell = record {
    faces = subst (λ s. cell.faces ≡ over g s) (sym middle_is) faces_are;
    corners = subst (λ s. All (IsCornerOf g s) cell.at) (sym middle_is)
        (subst (All (IsCornerOf g mid)) (sym h.at_is) (three_of (IsCornerOf g mid) h.low_left h.low_right
        h.top first_corner second_corner third_corner));
    apart = subst AreOffLines (sym h.at_is) apart;
    witness = subst (IsWitnessOf g cell.faces) (sym h.at_is) witnessed;
    small = subst (All IsSmallPlace) (sym h.at_is) (three_of IsSmallPlace h.low_left h.low_right h.top
        h.corners.first.small h.corners.second.small third_small);
  }

-- Edges whose extents don't touch have no segment in common.
use Rattle.std.proofs.Common.{arith, subst, sym, ℕ, ◌<◌, ◌≤◌, ℤ, pos, ◌*ℤ◌, ◌<ℤ◌, ◌≤ℤ◌, IsTrue, List, length}
use Rattle.std.proofs.lemmas.Int.{by_lt_z}
use Rattle.ff_basics.proofs.Tests.{both_of}
use Rattle.ff_whole.specs.declared.points.Pt.{Pt}
use Rattle.ff_whole.specs.declared.places.Place.{Place}
use Rattle.ff_whole.specs.Points.{minus, dot}
use Rattle.ff_whole.proofs.Signs.{linear, lt-mul_left}
use Rattle.ff_whole.proofs.OnEdges.{IsOn}
use Rattle.ff_whole.proofs.Images.{distance_positive}
use Rattle.ff_types.specs.declared.patterns.Pattern.{Pattern}
use Rattle.ff_types.specs.declared.faces.Faces.{Faces}
use Rattle.ff_types.specs.declared.faces.Folded.{Folded}
use Rattle.ff_types.specs.Sheets.{Sheet, sheet_of, tail, head}
use Rattle.ff_types.specs.Borders.{is_on}
use Rattle.ff_types.specs.Segments.{ShareSegment}
use Rattle.ff_types.specs.FoldedPatterns.{IsFoldedPattern}
use Rattle.ff_types.proofs.FoldedEdges.{ends_apart}
use Rattle.ff_edges.specs.declared.extents.Extent.{Extent}
use Rattle.ff_edges.specs.SharedSegments.{constrain}
use Rattle.ff_edges.specs.Extents.{IsAround, IsRoundEdge, IsRoundInner, IsTouching, AreExtents, IsRoundAll}
use Rattle.ff_edges.proofs.OnWays.{on_from, not_left_on}
use Rattle.ff_edges.proofs.PairLists.{both_inner}
use Rattle.ff_edges.proofs.BesideFaces.{past_x, before_x, past_y, before_y, over_past_x, over_before_x, over_past_y, over_before_y, at_past_x, at_before_x, at_past_y, at_before_y}

module _ (p q : Pt) (s : Place) (long : pos 0 <ℤ dot (minus q p) (minus q p)) (on : IsOn p q s) (a : Extent) (first : IsAround p a) (last : IsAround q a) where
  -- a place of an edge is within its extent
  no_more_east : s.x ≤ℤ (s.w *ℤ a.high.x)
  no_more_east =
      let t = first.east in let u = last.east in let x = over_past_x a.high.x p in let y = over_past_x a.high.x q in
      let e = at_past_x a.high.x s in let m = not_left_on (past_x a.high.x) p q s long on (omega (arith, linear)) (omega (arith, linear)) in
      omega (arith, linear)

  no_more_west : (s.w *ℤ a.low.x) ≤ℤ s.x
  no_more_west =
      let t = first.west in let u = last.west in let x = over_before_x a.low.x p in let y = over_before_x a.low.x q in
      let e = at_before_x a.low.x s in let m = not_left_on (before_x a.low.x) p q s long on (omega (arith, linear)) (omega (arith, linear)) in
      omega (arith, linear)

  no_more_north : s.y ≤ℤ (s.w *ℤ a.high.y)
  no_more_north =
      let t = first.north in let u = last.north in let x = over_past_y a.high.y p in let y = over_past_y a.high.y q in
      let e = at_past_y a.high.y s in let m = not_left_on (past_y a.high.y) p q s long on (omega (arith, linear)) (omega (arith, linear)) in
      omega (arith, linear)

  no_more_south : (s.w *ℤ a.low.y) ≤ℤ s.y
  no_more_south =
      let t = first.south in let u = last.south in let x = over_before_y a.low.y p in let y = over_before_y a.low.y q in
      let e = at_before_y a.low.y s in let m = not_left_on (before_y a.low.y) p q s long on (omega (arith, linear)) (omega (arith, linear)) in
      omega (arith, linear)

-- two ranges with a place in common
have_common : (w z a_low a_high b_low b_high : ℤ) → pos 0 <ℤ w → (w *ℤ a_low) ≤ℤ z → z ≤ℤ (w *ℤ a_high) → (w *ℤ b_low) ≤ℤ z → z ≤ℤ (w *ℤ b_high)
    → (b_low ≤ℤ a_high) × (a_low ≤ℤ b_high)
have_common w z a_low a_high b_low b_high positive al ah bl bh = (
  by_lt_z a_high b_low (λ l. let m = lt-mul_left w a_high b_low positive l in absurd (omega (arith, linear))) (λ l. l),
  by_lt_z b_high a_low (λ l. let m = lt-mul_left w b_high a_low positive l in absurd (omega (arith, linear))) (λ l. l),
)

module _ {pattern : Pattern} {faces : Faces} {folded : Folded} (h : IsFoldedPattern pattern faces folded) where
  abbrev g : Sheet
  g = sheet_of pattern faces folded

  touching : (e k : ℕ) (a b : Extent) → e < length pattern.edges → k < length pattern.edges → IsRoundEdge g e a → IsRoundEdge g k b → ShareSegment g e k → IsTouching a b
  touching e k a b el kl r s c =
      let x = on_from (tail g e) (head g e) c.s (both_of (is_on g e c.s) (is_on g e c.t) c.first).0 in
      let y = on_from (tail g k) (head g k) c.s (both_of (is_on g k c.s) (is_on g k c.t) c.second).0 in
      let m = distance_positive (tail g e) (head g e) (ends_apart h e el) in
      let n = distance_positive (tail g k) (head g k) (ends_apart h k kl) in (
        have_common c.s.w c.s.x a.low.x a.high.x b.low.x b.high.x c.s_place (no_more_west _ _ c.s m x a r.tail r.head) (no_more_east _ _ c.s m x a r.tail r.head) (no_more_west _ _ c.s n y b s.tail s.head) (no_more_east _ _ c.s n y b s.tail s.head),
        have_common c.s.w c.s.y a.low.y a.high.y b.low.y b.high.y c.s_place (no_more_south _ _ c.s m x a r.tail r.head) (no_more_north _ _ c.s m x a r.tail r.head) (no_more_south _ _ c.s n y b s.tail s.head) (no_more_north _ _ c.s n y b s.tail s.head),
      )

  pub apart_none : (e k : ℕ) (a b : Extent) → e < length pattern.edges → k < length pattern.edges → IsRoundInner g e a → IsRoundInner g k b → (IsTouching a b → ⊥)
      → IsTrue (constrain g e k) → ShareSegment g e k → ⊥
  apart_none e k a b el kl r s apart t c =
      let inner = both_inner g e k t in
      apart (touching e k a b el kl (r inner.0) (s inner.1) c)

  -- nor with an edge of a block whose extent theirs doesn't touch
  pub block_apart_none : (e from to : ℕ) (a b : Extent) (extents : List Extent) → e < length pattern.edges → AreExtents (IsRoundInner g) (length pattern.edges) extents → IsRoundAll extents from to b
      → IsRoundInner g e a → (IsTouching a b → ⊥) → (k : ℕ) → from ≤ k → k < to → k < length pattern.edges → IsTrue (constrain g e k) → ShareSegment g e k → ⊥
  block_apart_none e from to a b extents el x all r apart k low l edge =
      let inside = subst (λ n. k < n) (sym x.count) edge in
      apart_none e k a b el edge r (λ t. let s = x.round k edge t in record { tail = all k low l inside _ s.tail; head = all k low l inside _ s.head }) apart

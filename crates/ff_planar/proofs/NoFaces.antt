-- Each refusal of a drawing's rings, and that it leaves no faces.
use Rattle.std.proofs.Common.{◌≡◌, inl, inr, ℕ, ◌<◌, List, length, Option, Some, None, arith, refl, sym, subst}
use Rattle.ff_whole.specs.declared.points.Pt.{Pt}
use Rattle.ff_types.specs.declared.patterns.EdgeEnds.{EdgeEnds}
use Rattle.ff_types.specs.declared.patterns.Mark.{Mark}
use Rattle.ff_types.specs.declared.faces.EdgeSides.{EdgeSides}
use Rattle.ff_types.specs.Drawings.{IsDrawing}
use Rattle.ff_types.specs.Sides.{sides_at}
use Rattle.ff_types.specs.FaceRefusals.{IsDrawn, RimAt, Never}
use Rattle.ff_drawn.specs.declared.darts.Dart.{Dart}
use Rattle.ff_planar.specs.declared.traces.Side.{Side}
use Rattle.ff_drawn.specs.Drawn.{IsDrawnBy}
use Rattle.ff_planar.specs.Traces.{AreTraced}
use Rattle.ff_planar.specs.Seen.{AreAllSeen, IsSeenOf, IsUnfit, given_mark}
use Rattle.ff_planar.specs.Given.{HasNoFaces}
use Rattle.ff_planar.specs.Joining.{AreBelow}
use Rattle.ff_drawn.proofs.WholeDrawings.{same_is_none, cross_is_none, loose_is_none}
use Rattle.ff_planar.proofs.Rims.{rim_from}
use Rattle.ff_planar.proofs.FacesOnce.{no_rim, one_walks}

pub drawn_from : (points : List Pt) (edges : List EdgeEnds) → IsDrawing points edges → IsDrawn points edges
drawn_from points edges d = record {
  none_same = λ v h. same_is_none points edges v h d;
  none_cross = λ e k h. cross_is_none points edges e k h d;
  none_loose = λ v h. loose_is_none points edges v h d;
}

module _ (points : List Pt) (edges : List EdgeEnds) (marks : Option (List Mark)) (darts : List Dart) (rings : List (List ℕ)) (sides : List Side) (seen : List EdgeSides)
    (dr : IsDrawnBy points edges darts) (t : AreTraced points edges darts rings sides) (s : AreAllSeen points edges rings seen) where
  pub rim_hopeless : (e : ℕ) → RimAt points edges marks e → HasNoFaces points edges marks
  rim_hopeless e h others a = no_rim points edges darts dr marks others sides (subst (λ r. AreTraced points edges darts r sides) (sym (one_walks points edges dr.drawing marks others a rings t.rings_are)) t) a e h

  -- face 0 is there
  pub some_ring : 0 < length points → Never (RimAt points edges marks) → 0 < length rings
  some_ring l n = let two = dr.drawing.two 0 l in let o = two.2 in
      by two.0 (omega (arith, o, two.3)) (sides_at seen two.0).left (sides_at seen two.0).right refl refl
    where
      by : (e : ℕ) → (l : e < length edges) → (left right : Option ℕ) → (sides_at seen e).left ≡ left → (sides_at seen e).right ≡ right → 0 < length rings
      by e l (Some f) right a b = let h = subst (IsSeenOf points edges rings _ _) a (s.each e l).left in let m = h.0 in omega arith
      by e l None (Some g) a b = let h = subst (IsSeenOf points edges rings _ _) b (s.each e l).right in let m = h.0 in omega arith
      by e l None None a b = absurd (n e (rim_from points edges dr.drawing rings t.rings_are seen s marks e l (subst (λ x. IsUnfit (given_mark marks e) x (sides_at seen e).right) (sym a) (subst (λ x. IsUnfit (given_mark marks e) None x) (sym b) tt))))

  pub all_below : AreBelow seen (length rings)
  all_below e f l h = let n = s.as_many in let w = s.each e (omega (arith, l, n)) in elim h [ inl x ↦ (subst (IsSeenOf points edges rings _ _) x w.left).0 | inr x ↦ (subst (IsSeenOf points edges rings _ _) x w.right).0 ]

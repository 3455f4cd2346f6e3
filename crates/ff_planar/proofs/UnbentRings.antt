-- A ring of different vertices whose points are those of a convex ring is nowhere bent.
use Rattle.std.proofs.Common.{inl, inr, ℕ, ◌<◌, List, length, arith, sym, ◌∙◌, subst, pos, ◌≤ℤ◌}
use Rattle.std.specs.List.{All}
use Rattle.std.proofs.lemmas.List.{get_or_default}
use Rattle.ff_whole.proofs.Signs.{linear}
use Rattle.ff_whole.specs.declared.points.Pt.{Pt}
use Rattle.ff_whole.specs.Points.{IsNear, origin}
use Rattle.ff_whole.specs.Convex.{left_of, AreApart, IsConvex}
use Rattle.ff_types.specs.Rings.{corner, corners}
use Rattle.ff_types.proofs.SubRings.{corner_point}
use Rattle.ff_planar.specs.Reflex.{IsUnbent, AreDifferent}
use Rattle.ff_planar.proofs.RingTests.{corners_length, left_is}

module _ (points : List Pt) (ring : List ℕ) where
  in_list : (i : ℕ) → i < length ring → i < length (corners points ring)
  in_list i l = let e = corners_length points ring in omega (arith, l, e)

  from_list : (i : ℕ) → i < length (corners points ring) → i < length ring
  from_list i l = let e = corners_length points ring in omega (arith, l, e)

  pub corners_apart : AreApart points → ((k : ℕ) → k < length ring → corner ring k < length points) → AreDifferent ring (length ring) → AreApart (corners points ring)
  corners_apart apart there d = record {
    differ = λ i j h k e.
        let l = from_list i h in
        let m = from_list j k in
        d i j l m (apart.differ (corner ring i) (corner ring j) (there i l) (there j m) (sym (corner_point points ring i l) ∙ e ∙ corner_point points ring j m));
  }

  pub convex_unbent : IsConvex (corners points ring) → AreDifferent ring (length ring) → IsUnbent points ring (length ring)
  convex_unbent c d i l (j, m, inl b) = b.0 (d i j l m (sym b.1))
  convex_unbent c d i l (j, m, inr b) =
      let n = subst (λ z. pos 0 ≤ℤ z) (left_is points ring j (corner ring i) m) (subst (λ p. pos 0 ≤ℤ left_of (corners points ring) j p) (corner_point points ring i l) (c.left j i (in_list j m) (in_list i l))) in
      omega (arith, linear)

  pub all_there : ((k : ℕ) → k < length ring → corner ring k < length points) → All (λ v. v < length points) ring
  all_there there k d l = subst (λ v. v < length points) (sym (get_or_default ring k d 0 l)) (there k l)

  pub corners_near : All IsNear points → ((k : ℕ) → k < length ring → corner ring k < length points) → All IsNear (corners points ring)
  corners_near near there k d l =
      let m = from_list k l in
      subst IsNear (sym (get_or_default (corners points ring) k d origin l ∙ corner_point points ring k m)) (near (corner ring k) origin (there k m))

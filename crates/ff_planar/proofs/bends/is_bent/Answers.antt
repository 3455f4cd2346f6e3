use Rattle.std.proofs.Common.{◌≡◌, Bool, true, false, not, refl, sym, ◌∙◌, subst}
use Rattle.std.specs.List.{All}
use Rattle.std.proofs.lemmas.Bool.{false≢true}
use Rattle.ff_whole.specs.Points.{IsNear}
use Rattle.ff_whole.specs.Convex.{AreApart, IsConvex}
use Rattle.ff_planar.proofs.UnbentRings.{corners_near, corners_apart, convex_unbent}
use Rattle.ff_planar.proofs.bends.is_bent.Goals as goal

pub is_convex-requires-clause-near : goal.is_convex-requires-clause-near
is_convex-requires-clause-near c = subst (All IsNear) (sym (c.as_slice.ensures.value ∙ c.in_ok-list.ensures)) (corners_near c.args.points.now c.args.ring.now c.requires.near c.requires.there)

pub is_convex-requires-clause-apart : goal.is_convex-requires-clause-apart
is_convex-requires-clause-apart c = subst AreApart (sym (c.as_slice.ensures.value ∙ c.in_ok-list.ensures)) (corners_apart c.args.points.now c.args.ring.now c.requires.apart c.requires.there (c.meets.ensures.differ c.if-meets.false))

negated : (b : Bool) → not b ≡ false → b ≡ true
negated true e = refl
negated false e = absurd (false≢true (sym e))

pub returns-clause-bent : goal.returns-clause-bent
returns-clause-bent c = λ e.
    convex_unbent c.args.points.now c.args.ring.now
    (subst IsConvex (c.as_slice.ensures.value ∙ c.in_ok-list.ensures) (c.is_convex.ensures.0 (negated c.is_convex.result e)))
    (c.meets.ensures.differ c.if-meets.false)

use Rattle.std.proofs.Common.{◌<◌, sym, ◌∙◌, subst, refl}
use Rattle.ff_planar.proofs.ReachedFaces.{spread_end}
use Rattle.ff_planar.proofs.joining.spread.Goals as goal

pub loop-init : goal.loop-init
loop-init c = record { as_many = refl; first = c.requires.first; linked = c.requires.only }

pub pass-requires : goal.pass-requires
pass-requires c = λ e f l h. subst (λ n. f < n) (sym c.loop.invariant.as_many) (c.requires.below e f l h)

pub loop-preserved : goal.loop-preserved
loop-preserved c = let p = c.pass.ensures in let v = c.loop.invariant in record { as_many = p.as_many ∙ v.as_many; first = p.kept 0 v.first; linked = p.linked v.linked }

pub loop-smaller : goal.loop-smaller
loop-smaller c = c.pass.ensures.more c.loop-test.true

pub returns : goal.returns
returns c = let v = c.loop.invariant in spread_end _ _ _ _ c.loop-test.ensures v.as_many v.first v.linked

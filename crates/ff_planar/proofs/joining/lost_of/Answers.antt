use Rattle.std.proofs.Common.{◌<◌, sym, subst, true}
use borrow.Author.Count.{below_more}
use Rattle.std.proofs.lemmas.List.{length-set}
use Rattle.ff_planar.specs.Joining.{AreLinked}
use Rattle.ff_planar.proofs.ReachedFaces.{first_reached, only_first}
use Rattle.ff_planar.proofs.joining.lost_of.Goals as goal

pub spread-requires-clause-below : goal.spread-requires-clause-below
spread-requires-clause-below c = λ e f l h. subst (λ n. f < n) (sym (length-set c.args.reached.now 0 true)) (c.requires.below e f l h)

pub spread-requires-clause-first : goal.spread-requires-clause-first
spread-requires-clause-first c = first_reached c.args.reached.now c.requires.some

pub spread-requires-clause-only : goal.spread-requires-clause-only
spread-requires-clause-only c = only_first c.args.sides.now c.args.reached.now c.requires.none

pub loop-f-preserved : goal.loop-f-preserved
loop-f-preserved c = below_more (AreLinked c.args.sides.now 0) c.loop-f.f c.loop-f.invariant (c.spread.ensures.linked c.loop-f.f c.if-not-reached-f.false)

use Rattle.std.proofs.Common.{refl}
use Rattle.std.proofs.lemmas.Option.{slice_get_read}
use Rattle.ff_told.proofs.Kept.{laid_more}
use Rattle.ff_told.proofs.Earlier.{unvisited_more}
use Rattle.ff_told.proofs.paging.pages_of.Goals as goal

pub pages_for-requires-clause-part : goal.pages_for-requires-clause-part
pages_for-requires-clause-part c = c.requires.each c.loop-i.i c.index-parts-i.result (slice_get_read c.args.parts.now _ _ _ refl c.loop-i-test.true c.index-parts-i.is)

pub pages_for-requires-clause-touching : goal.pages_for-requires-clause-touching
pages_for-requires-clause-touching c = c.requires.touching c.loop-i.i c.index-parts-i.result (slice_get_read c.args.parts.now _ _ _ refl c.loop-i-test.true c.index-parts-i.is)

pub loop-i-preserved : goal.loop-i-preserved
loop-i-preserved c = (
  laid_more c.args.case.now c.args.budget c.args.givens.now.value c.args.facts.now.value c.args.parts.now c.loop-i.i c.index-parts-i.result c.loop-i.pages.items
      c.push.new.self.items c.in_ok-one.one c.loop-i-test.true c.index-parts-i.is c.in_ok-one.ensures.part c.in_ok-one.ensures.pages c.in_ok-push.ensures.items c.loop-i.invariant.0,
  unvisited_more c.loop-i.pages.items c.push.new.self.items c.in_ok-one.one c.loop-i.invariant.1 c.in_ok-one.ensures.unvisited c.in_ok-push.ensures.items,
)

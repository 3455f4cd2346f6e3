use Rattle.std.proofs.Common.{refl}
use Rattle.std.proofs.lemmas.Option.{slice_get_read}
use Rattle.ff_near.proofs.OnePart.{none_searched, one_searched}
use Rattle.ff_near.proofs.answering.searched.Goals as goal

pub loop-k-init : goal.loop-k-init
loop-k-init c = none_searched _ _ _ _ c.args.parts.now _ _ _ _ c.nothing-sofar.ensures

pub search_part-requires-clause-part : goal.search_part-requires-clause-part
search_part-requires-clause-part c = c.requires.parts c.loop-k.k c.index-parts-k.result (slice_get_read c.args.parts.now _ _ _ refl c.loop-k-test.true c.index-parts-k.is)

pub search_part-requires-clause-touching : goal.search_part-requires-clause-touching
search_part-requires-clause-touching c = c.requires.touching c.loop-k.k c.index-parts-k.result (slice_get_read c.args.parts.now _ _ _ refl c.loop-k-test.true c.index-parts-k.is)

pub loop-k-preserved : goal.loop-k-preserved
loop-k-preserved c = one_searched _ _ _ _ c.args.parts.now c.loop-k.k c.index-parts-k.result c.index-parts-k.result c.loop-k-test.true c.index-parts-k.is _ _ _ _ _ _ _ _ c.loop-k.invariant c.in_ok-outcome.outcome c.in_ok-outcome.ensures c.in_ok-note.ensures

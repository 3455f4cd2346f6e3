use Rattle.std.proofs.Common.{sym, subst}
use Rattle.std.proofs.lemmas.List.{get_or_default}
use Rattle.ff_whole.specs.Points.{origin}
use Rattle.ff_types.specs.Rings.{corner}
use Rattle.ff_edges.specs.Extents.{IsAround}
use Rattle.ff_edges.proofs.ExtentLists.{round_more}
use Rattle.ff_edges.proofs.reaches.ring_extent.Goals as goal

pub loop-i-preserved : goal.loop-i-preserved
loop-i-preserved c =
    let j = c.joined-extent.ensures in
    let here = get_or_default c.args.points.now (corner c.args.ring.now c.loop-i.i) origin _ (c.requires.below c.loop-i.i 0 c.loop-i-test.true) in
    record {
      extent = j.extent;
      round = round_more c.args.points.now c.args.ring.now c.loop-i.i c.loop-i.extent c.joined-extent.result c.loop-i.invariant.round j.first (subst (λ p. IsAround p c.joined-extent.result) (sym here) (j.second _ c.at.ensures.around));
    }

use Rattle.std.proofs.Common.{sym, ◌∙◌, arith}
use Rattle.std.proofs.lemmas.Bool.{false≢true}
use Rattle.ff_planar.proofs.Boxes.{west_more, not_less}
use Rattle.ff_planar.proofs.frames.first_from.Goals as goal

pub loop-place-preserved : goal.loop-place-preserved
loop-place-preserved c = record {
  within = omega (arith, c.loop-place-test.true);
  before = west_more c.args.spots.now c.args.frame c.loop-place.place c.loop-place.invariant.before (not_less _ _ (λ l. false≢true (sym c.if-is_west_of.false ∙ c.is_west_of.ensures.1 l)));
}

use Rattle.ff_bench.proofs.Following.{gone_stayed}
use Rattle.ff_bench.proofs.bench.Bench.turn.Goals as goal

pub returns-in-Board-clause-gone : goal.returns-in-Board-clause-gone
returns-in-Board-clause-gone g c = gone_stayed c.args.place.now c.take.new.place c.settle.new.place c.in_ok-take.ensures.gone c.settle.ensures.stays

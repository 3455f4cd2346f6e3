use Rattle.ff_refute.proofs.Accepting.{accepted}
use Rattle.ff_refute.proofs.clashes.log_of_clash.Goals as goal

pub returns : goal.returns
returns c pins say = accepted c.args.case.now c.args.givens.now pins c.of.result c.in_ok-maker.maker.lines.items say c.of.ensures c.in_ok-maker.ensures

use Rattle.ff_desk.specs.Steps.{HasPublished}
use Rattle.ff_desk.proofs.desk.Desk.publish_all.Given as goal

abbrev pub invariant-loop-n : goal.invariant-loop-n
invariant-loop-n l = HasPublished l.fn.self l.self l._n

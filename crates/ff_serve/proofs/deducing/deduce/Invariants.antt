use Rattle.ff_core.specs.States.{StandsFor}
use Rattle.ff_serve.specs.Reaching.{HaveReached, WorksOnSuch, IsSameButWork}
use Rattle.ff_serve.proofs.deducing.deduce.Given as goal

abbrev pub invariant-loop-n : goal.invariant-loop-n
invariant-loop-n l = record {
  stands : StandsFor l.case l.core;
  same : IsSameButWork l.initial.core l.core;
  reached : WorksOnSuch (HaveReached l.facts l.order.items l.n) l.core;
}

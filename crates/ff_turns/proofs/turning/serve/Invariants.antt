use Rattle.ff_bench.specs.Views.{IsWorkerOf}
use Rattle.ff_turns.proofs.turning.serve.Given as goal

abbrev pub invariant-loop : goal.invariant-loop
invariant-loop g l = IsWorkerOf l.bench l.worker

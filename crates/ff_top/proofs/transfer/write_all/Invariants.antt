use Rattle.std.proofs.Common.{length, take, ◌-◌, ◌≤◌}
use Rattle.ff_top.specs.Transfer.{Got}
use Rattle.ff_top.proofs.transfer.write_all.Given as goal

abbrev pub invariant-loop-at : goal.invariant-loop-at
invariant-loop-at g l = record {
  within : l.at ≤ length l.bytes;
  got : Got (g.K.Sink.held l.fn.sink) (take l.at l.bytes) (g.K.Sink.held l.sink);
  later : g.K.Sink.faults l.fn.sink ≤ g.K.Sink.faults l.sink;
}

abbrev pub decreases-loop-at : goal.decreases-loop-at
decreases-loop-at g l = length l.bytes - l.at

use Rattle.std.proofs.Common.{◌≤◌}
use Rattle.ff_report.specs.Heads.{lines_of}
use Rattle.ff_top.specs.Transfer.{Got}
use Rattle.ff_top.specs.Writings.{piece_of}
use Rattle.ff_top.proofs.writing.write_pieces.Given as goal

abbrev pub invariant-loop-n : goal.invariant-loop-n
invariant-loop-n g l = record {
  got : Got (g.K.Sink.held l.fn.sink) (lines_of (piece_of l.writing) l.n) (g.K.Sink.held l.sink);
  later : g.K.Sink.faults l.fn.sink ≤ g.K.Sink.faults l.sink;
}

use Rattle.std.proofs.Common.{◌≡◌, ◌≤◌, length, take, vec_capacity}
use Rattle.ff_bench.specs.Runs.{lengths_in}
use Rattle.ff_bench.proofs.running.lengths_of.Given as goal

abbrev pub invariant-loop-k : goal.invariant-loop-k
invariant-loop-k l = record {
  items : l.lengths.items ≡ take l.k (lengths_in l.scripts);
  count : length l.lengths.items ≡ l.k;
  room : length l.scripts ≤ vec_capacity l.lengths;
}

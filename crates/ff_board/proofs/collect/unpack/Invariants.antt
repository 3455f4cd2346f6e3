use Rattle.std.proofs.Common.{ℕ, ◌≡◌, ◌<◌, length}
use Rattle.ff_propagate.specs.Facts.{fact_at}
use Rattle.ff_propagate.specs.Words.{held}
use Rattle.ff_board.specs.Answer.{fact_of}
use Rattle.ff_board.proofs.collect.unpack.Given as goal

abbrev pub invariant-loop-v : goal.invariant-loop-v
invariant-loop-v l = record {
  wide : length l.facts ≡ length l.initial.facts;
  done : (u : ℕ) → u < l.v → fact_at l.facts u ≡ fact_of (held l.words u);
}

use Rattle.std.proofs.Common.{◌≡◌}
use Rattle.ff_journal.specs.Epochs.{changes}
use Rattle.ff_journal.proofs.EpochGivens.{givens_to}
use Rattle.ff_journal.proofs.givens.givens_now.Given as goal

abbrev pub invariant-loop-n : goal.invariant-loop-n
invariant-loop-n l = l.list ≡ givens_to l.case.starts l.case.pairs (changes l.journal) l.n

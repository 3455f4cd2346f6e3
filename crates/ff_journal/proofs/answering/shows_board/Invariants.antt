use Rattle.std.proofs.Common.{◌≡◌, take}
use Rattle.ff_journal.specs.Epochs.{last_of}
use Rattle.ff_journal.specs.Publications.{outcomes}
use Rattle.ff_journal.specs.Answering.{shows_board}
use Rattle.ff_journal.proofs.answering.shows_board.Given as goal

abbrev pub invariant-loop-i : goal.invariant-loop-i
invariant-loop-i l = l.shown ≡ shows_board (last_of (outcomes (take l.i l.journal)))

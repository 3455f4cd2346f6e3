use Rattle.std.proofs.Common.{◌≡◌, ◌≤◌, take, map}
use Rattle.std.specs.Vec.{vec_capacity}
use Rattle.ff_propagate.specs.Facts.{seen}
use Rattle.ff_journal.proofs.answering.board_of.Given as goal

abbrev pub invariant-loop-v : goal.invariant-loop-v
invariant-loop-v l = (l.board.items ≡ map seen (take l.v l.facts)) × (l.vars ≤ vec_capacity l.board)
